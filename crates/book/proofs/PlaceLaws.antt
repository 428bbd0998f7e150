-- The four things that can stand at a place of a book, one law for each, of the record and of the next place.
use Rattle.book.specs.declared.body.Kind.{Kind}
use Rattle.book.specs.declared.body.Kind.TheVariants.{Meinberg as OfMeinberg, Erlangen as OfErlangen, Frame, Minute, LongMinute}
use Rattle.std.specs.Prelude.{None, Some, Err}
use mathlib.Core.Bool.{Bool, true, false, cond}
use mathlib.Core.Path.{◌≡◌, refl}
use mathlib.Core.List.{List}
use Prim.Native.Nat.{ℕ, ◌+◌, ◌-◌, ◌≤◌, ◌<◌}
use native.Mathlib.Omega.{arith}
use lib.Dec.{eqb}
use lib.ListN.{length, drop, length-drop}
use borrow.Author.Tests.{le-leb, lt-leb, lt-ltb, le-ltb, eq-eqb, ne_eqb}
use Rattle.reading.specs.declared.Fault.TheVariants.{CutShort, UnknownKind}
use Rattle.reading.specs.Faults.{number}
use Rattle.meinberg.specs.Layout.{text_length}
use Rattle.erlangen.specs.Layout.{size}
use Rattle.irig.specs.Faults.{frame_length}
use Rattle.dcf77.specs.Forms.{short_length, long_length}
use Rattle.book.specs.Body.{body_length, read_body, record_of, refused, byte_of}
use Rattle.book.specs.Book.{kind_at, length_at, body_at, standing_at, record_at, next_at, unknown, cut_short, said_of}

-- no kind fixes a body of fewer bytes than these
abbrev pub shortest_body : ℕ
shortest_body = text_length

pub known_long : (kind : ℕ) → (body_length kind ≡ 0 → ⊥) → shortest_body ≤ body_length kind
unfolding body_length
known_long kind = go (eqb kind 1) (eqb kind 2) (eqb kind 3) (eqb kind 4) (eqb kind 5)
  where
    go : (a b c d e : Bool) → (◌≡◌ {A = ℕ} (cond a text_length (cond b size (cond c frame_length (cond d short_length (cond e long_length 0))))) 0 → ⊥)
        → shortest_body ≤ cond a text_length (cond b size (cond c frame_length (cond d short_length (cond e long_length 0))))
    go true b c d e n = omega arith
    go false true c d e n = omega arith
    go false false true d e n = omega arith
    go false false false true e n = omega arith
    go false false false false true n = omega arith
    go false false false false false n = absurd (n refl)

-- the bytes of all kinds are known
pub named_known : (kind : Kind) → eqb (body_length (byte_of kind)) 0 ≡ false
unfolding body_length
named_known OfMeinberg = refl
named_known OfErlangen = refl
named_known Frame = refl
named_known Minute = refl
named_known LongMinute = refl

-- what stands at a place is said of the bytes behind it
pub standing_is : (base : ℕ) (b : List ℕ) (at : ℕ) → standing_at base b at ≡ record_of (kind_at b at) (said_of base (kind_at b at) (drop (at + 1) b))
unfolding standing_at said_of
standing_is base b at = rw (length-drop (at + 1) b) (go (unknown b at) (cut_short b at))
  where
    go : (u c : Bool)
        → cond u (refused (kind_at b at) (number UnknownKind))
        (cond c (refused (kind_at b at) (number CutShort)) (record_of (kind_at b at) (read_body base (kind_at b at) (body_at b at))))
        ≡ record_of (kind_at b at)
        (cond u (Err (number UnknownKind)) (cond c (Err (number CutShort)) (read_body base (kind_at b at) (body_at b at))))
    go true c = refl
    go false true = refl
    go false false = refl

-- a known kind stands there, and its body is whole
pub record Whole (b : List ℕ) (at : ℕ) : Type 0 where
  pub inside : at < length b
  pub known : length_at b at ≡ 0 → ⊥
  pub room : length_at b at ≤ length b - (at + 1)

module _ (base : ℕ) (b : List ℕ) (at : ℕ) where
  pub over_there : length b ≤ at → record_at base b at ≡ None
  unfolding record_at
  over_there h = rw (le-leb (length b) at h)

  pub unknown_there : at < length b → length_at b at ≡ 0 → record_at base b at ≡ Some (refused (kind_at b at) (number UnknownKind))
  unfolding record_at standing_at
  unknown_there h e = rw (lt-leb (length b) at h, eq-eqb (length_at b at) 0 e)

  pub cut_there : at < length b → (length_at b at ≡ 0 → ⊥) → length b - (at + 1) < length_at b at
      → record_at base b at ≡ Some (refused (kind_at b at) (number CutShort))
  unfolding record_at standing_at
  cut_there h d l = rw (lt-leb (length b) at h, ne_eqb (length_at b at) 0 d, lt-ltb (length b - (at + 1)) (length_at b at) l)

  pub whole_there : Whole b at → record_at base b at ≡ Some (record_of (kind_at b at) (read_body base (kind_at b at) (body_at b at)))
  unfolding record_at standing_at
  whole_there w =
      rw (lt-leb (length b) at w.inside, ne_eqb (length_at b at) 0 w.known, le-ltb (length b - (at + 1)) (length_at b at) w.room)

module _ (b : List ℕ) (at : ℕ) where
  pub from_past : length b ≤ at → next_at b at ≡ length b
  unfolding next_at
  from_past h = rw (le-leb (length b) at h)

  pub from_unknown : at < length b → length_at b at ≡ 0 → next_at b at ≡ length b
  unfolding next_at
  from_unknown h e = rw (lt-leb (length b) at h, eq-eqb (length_at b at) 0 e)

  pub from_cut : at < length b → (length_at b at ≡ 0 → ⊥) → length b - (at + 1) < length_at b at → next_at b at ≡ length b
  unfolding next_at
  from_cut h d l = rw (lt-leb (length b) at h, ne_eqb (length_at b at) 0 d, lt-ltb (length b - (at + 1)) (length_at b at) l)

  pub from_whole : Whole b at → next_at b at ≡ at + 1 + length_at b at
  unfolding next_at
  from_whole w =
      rw (lt-leb (length b) at w.inside, ne_eqb (length_at b at) 0 w.known, le-ltb (length b - (at + 1)) (length_at b at) w.room)
