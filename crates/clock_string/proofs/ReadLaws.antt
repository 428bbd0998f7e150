-- Which string is read goes by the length; which string an answer names tells the length back.
use Rattle.strings.specs.Checks.{Answer as Said}
use Rattle.std.specs.Prelude.{Err, Ok}
use mathlib.Core.Bool.{Bool, true, false}
use mathlib.Core.List.{List}
use mathlib.Core.Logic.{◌⊎◌, inl, inr}
use mathlib.Core.Path.{◌≡◌, refl, sym, ap, ◌∙◌}
use Prim.Native.Nat.{ℕ, ◌<◌}
use native.Mathlib.Nat.{not-suc-le-zero}
use native.Mathlib.Decide.{ℕ_discrete}
use native.Mathlib.Omega.{arith}
use lib.Dec.{eqb}
use lib.ListN.{length, get_or}
use borrow.Author.Tests.{eq-eqb, ne_eqb, eqb-true}
use Rattle.laws.proofs.Bools.{either, neither as none_of_two}
use Rattle.wire.specs.Layout.{exactly, allowed}
use Rattle.wire.proofs.EntryLaws.{exactly_test}
use Rattle.wire.proofs.LayoutLaws.{allowed_at}
use Rattle.reading.specs.declared.Reading.{Reading}
use Rattle.reading.specs.declared.Refusal.{Refusal}
use Rattle.reading.specs.declared.Fault.TheVariants.{Length, Byte, OtherBase}
use Rattle.reading.specs.Faults.{number, no_fault}
use Rattle.reading.specs.Years.{is_base}
use Rattle.reading.specs.Checks.{checked_of}
use Rattle.reading.proofs.OffsetLaws.{WholeHours}
use Rattle.reading.proofs.CheckLaws.{clash}
use Rattle.meinberg.specs.Layout.{text_length, stx, layout as meinbergLayout}
use Rattle.meinberg.specs.Meaning.{read_meinberg}
use Rattle.meinberg.proofs.ReadLaws.{lowest_bad_byte as lowest-bad-of-meinberg, other_base_lem as other-fault-of-meinberg, refused as other-base-of-meinberg}
use Rattle.erlangen.proofs.FaultLaws.{other_base_lem as other-fault-of-erlangen, refused as other-base-of-erlangen}
use Rattle.meinberg.proofs.RoundTrip.{accepted-length as meinberg-length, accepted_checked as meinberg-checked, accepted_whole_hours}
use Rattle.erlangen.specs.Layout.{size, layout as erlangenLayout}
use Rattle.erlangen.specs.Meaning.{read_erlangen}
use Rattle.erlangen.proofs.Promises.{accepted-length as erlangen-length, accepted_checked as erlangen-checked, lowest_bad_byte as lowest-bad-of-erlangen}
use Rattle.clock_string.specs.declared.Told.TheVariants.{Meinberg, Erlangen}
use Rattle.clock_string.specs.Reader.{as_meinberg, as_erlangen, is_length, read_string, whichever, Answer}

-- ---- by the length

module _ (base : ℕ) (s : List ℕ) where
  -- "32 is Meinberg"
  pub at_32 : length s ≡ text_length → read_string base s ≡ as_meinberg (read_meinberg base s)
  unfolding read_string
  at_32 h = rw (eq-eqb (length s) text_length h)

  -- "68 is Uni Erlangen"
  pub at_68 : length s ≡ size → read_string base s ≡ as_erlangen (read_erlangen base s)
  unfolding read_string
  at_68 h = rw (ne_eqb (length s) text_length (λ e. omega arith), eq-eqb (length s) size h)

  -- "any other length is code 1"
  pub other_length : (length s ≡ text_length → ⊥) → (length s ≡ size → ⊥) → read_string base s ≡ Err (number Length)
  unfolding read_string
  other_length m e = rw (ne_eqb (length s) text_length m, ne_eqb (length s) size e)

-- the three ways that the reader goes
pub data Way (base : ℕ) (s : List ℕ) : Type 0 where
  meinberg : length s ≡ text_length → read_string base s ≡ as_meinberg (read_meinberg base s) → Way base s
  erlangen : length s ≡ size → read_string base s ≡ as_erlangen (read_erlangen base s) → Way base s
  neither : read_string base s ≡ Err (number Length) → Way base s

pub way : (base : ℕ) (s : List ℕ) → Way base s
way base s = go (ℕ_discrete (length s) text_length) (ℕ_discrete (length s) size)
  where
    go : Dec (length s ≡ text_length) → Dec (length s ≡ size) → Way base s
    go (yes m) e = meinberg m (at_32 base s m)
    go (no m) (yes e) = erlangen e (at_68 base s e)
    go (no m) (no e) = neither (other_length base s m e)

-- ---- what a case of the answer tells

from_meinberg : (a : Said) (r : Reading) (coasting : Bool) → as_meinberg a ≡ Ok (Meinberg r coasting) → a ≡ Ok (r, coasting)
from_meinberg (Ok (q, d)) r coasting e = cc
from_meinberg (Err x) r coasting e = let z : ◌≡◌ {A = ℕ} 0 1 = cc in clash z

from_erlangen : (a : Said) (r : Reading) (coasting : Bool) → as_erlangen a ≡ Ok (Erlangen r coasting) → a ≡ Ok (r, coasting)
from_erlangen (Ok (q, d)) r coasting e = cc
from_erlangen (Err x) r coasting e = let z : ◌≡◌ {A = ℕ} 0 1 = cc in clash z

not-erlangen : (a : Said) (r : Reading) (coasting : Bool) → as_meinberg a ≡ Ok (Erlangen r coasting) → ⊥
not-erlangen (Ok (q, d)) r coasting e = let z : ◌≡◌ {A = ℕ} 0 1 = cc in omega arith
not-erlangen (Err x) r coasting e = let z : ◌≡◌ {A = ℕ} 0 1 = cc in omega arith

not-meinberg : (a : Said) (r : Reading) (coasting : Bool) → as_erlangen a ≡ Ok (Meinberg r coasting) → ⊥
not-meinberg (Ok (q, d)) r coasting e = let z : ◌≡◌ {A = ℕ} 0 1 = cc in omega arith
not-meinberg (Err x) r coasting e = let z : ◌≡◌ {A = ℕ} 0 1 = cc in omega arith

module _ (base : ℕ) (s : List ℕ) (r : Reading) (coasting : Bool) where
  -- a Meinberg time is what Meinberg's 32 bytes say
  pub is_meinberg : read_string base s ≡ Ok (Meinberg r coasting) → (length s ≡ text_length) × (read_meinberg base s ≡ Ok (r, coasting))
  is_meinberg e = go (way base s)
    where
      go : Way base s → (length s ≡ text_length) × (read_meinberg base s ≡ Ok (r, coasting))
      go (meinberg h w) = (h, from_meinberg (read_meinberg base s) r coasting (sym w ∙ e))
      go (erlangen h w) = absurd (not-meinberg (read_erlangen base s) r coasting (sym w ∙ e))
      go (neither w) = let z : ◌≡◌ {A = ℕ} 0 1 = cc in clash z

  -- a Uni Erlangen time is what Uni Erlangen's 68 bytes say
  pub is_erlangen : read_string base s ≡ Ok (Erlangen r coasting) → (length s ≡ size) × (read_erlangen base s ≡ Ok (r, coasting))
  is_erlangen e = go (way base s)
    where
      go : Way base s → (length s ≡ size) × (read_erlangen base s ≡ Ok (r, coasting))
      go (meinberg h w) = absurd (not-erlangen (read_meinberg base s) r coasting (sym w ∙ e))
      go (erlangen h w) = (h, from_erlangen (read_erlangen base s) r coasting (sym w ∙ e))
      go (neither w) = let z : ◌≡◌ {A = ℕ} 0 1 = cc in clash z

  -- and all that either of them says is answered
  pub meinberg_told : read_meinberg base s ≡ Ok (r, coasting) → read_string base s ≡ Ok (Meinberg r coasting)
  meinberg_told e = at_32 base s (meinberg-length base s r coasting e) ∙ ap as_meinberg e

  pub erlangen_told : read_erlangen base s ≡ Ok (r, coasting) → read_string base s ≡ Ok (Erlangen r coasting)
  erlangen_told e = at_68 base s (erlangen-length base s r coasting e) ∙ ap as_erlangen e

  -- a Meinberg time is at whole hours from UTC, as its three zones are
  pub meinberg_whole_hours : read_string base s ≡ Ok (Meinberg r coasting) → WholeHours r.offset.0
  meinberg_whole_hours e = accepted_whole_hours base s r coasting (is_meinberg e).1

-- two answers name the same string
abbrev pub SameString : Answer → Answer → Type 0
SameString (Ok (Meinberg r c)) (Ok (Meinberg q d)) = Unit {0}
SameString (Ok (Erlangen r c)) (Ok (Erlangen q d)) = Unit {0}
SameString (Ok (Meinberg r c)) (Ok (Erlangen q d)) = ⊥
SameString (Ok (Erlangen r c)) (Ok (Meinberg q d)) = ⊥
SameString (Err x) b = ⊥
SameString (Ok (Meinberg r c)) (Err y) = ⊥
SameString (Ok (Erlangen r c)) (Err y) = ⊥

-- of a 32-byte string and a 68-byte string the answers never name the same
pub never_the_same : (base : ℕ) (s t : List ℕ) → length s ≡ text_length → length t ≡ size → SameString (read_string base s) (read_string base t) → ⊥
never_the_same base s t h k same = go (read_meinberg base s) (read_erlangen base t) (rw (at_32 base s h, at_68 base t k) at same)
  where
    go : (a b : Said) → SameString (as_meinberg a) (as_erlangen b) → ⊥
    go (Ok (r, c)) (Ok (q, d)) x = x
    go (Ok (r, c)) (Err y) x = x
    go (Err y) b x = x

-- ---- a time, whichever string says it

-- the string tells this time with this coasting mark
abbrev pub Tells : ℕ → List ℕ → Reading → Bool → Type 0
Tells base s r coasting = whichever (read_string base s) ≡ Ok (r, coasting)

pub data Named (base : ℕ) (s : List ℕ) (r : Reading) (coasting : Bool) : Type 0 where
  by_meinberg : read_string base s ≡ Ok (Meinberg r coasting) → Named base s r coasting
  by_erlangen : read_string base s ≡ Ok (Erlangen r coasting) → Named base s r coasting

-- two answers that are one tell one time and one mark
pub same_time : (q r : Reading) (d c : Bool) → ◌≡◌ {A = Said} (Ok (q, d)) (Ok (r, c)) → (q ≡ r) × (d ≡ c)
same_time q r d c e =
    let p : ◌≡◌ {A = Reading × Bool} (q, d) (r, c) = cc in
    (ap (λ (z : Reading × Bool). z.0) p, ap (λ (z : Reading × Bool). z.1) p)

pub named : (base : ℕ) (s : List ℕ) (r : Reading) (coasting : Bool) → Tells base s r coasting → Named base s r coasting
named base s r coasting e = go (read_string base s) refl e
  where
    go : (a : Answer) → read_string base s ≡ a → whichever a ≡ Ok (r, coasting) → Named base s r coasting
    go (Ok (Meinberg q d)) w e = let p = same_time q r d coasting e in let a = p.0 in let b = p.1 in by_meinberg (cc)
    go (Ok (Erlangen q d)) w e = let p = same_time q r d coasting e in let a = p.0 in let b = p.1 in by_erlangen (cc)
    go (Err x) w e = let z : ◌≡◌ {A = ℕ} 0 1 = cc in clash z

pub refused_is : (a : Answer) (x : Refusal) → whichever a ≡ Err x → a ≡ Err x
refused_is (Ok told) x e = let z : ◌≡◌ {A = ℕ} 0 1 = cc in clash z
refused_is (Err y) x e = cc

-- the reading of an accepted string passes the checks of every reading
pub accepted_checked : (base : ℕ) (s : List ℕ) (r : Reading) (coasting : Bool) → Tells base s r coasting → checked_of base r ≡ no_fault
accepted_checked base s r coasting e = go (named base s r coasting e)
  where
    go : Named base s r coasting → checked_of base r ≡ no_fault
    go (by_meinberg w) = meinberg-checked base s r coasting (is_meinberg base s r coasting w).1
    go (by_erlangen w) = erlangen-checked base s r coasting (is_erlangen base s r coasting w).1

-- ---- "for code 2 it is the lowest bad place"

-- "any other base .. is 19", at place 0, of either string
pub other_base_lem : (base : ℕ) (s : List ℕ) → (length s ≡ text_length) ⊎ (length s ≡ size) → is_base base ≡ false → read_string base s ≡ Err (number OtherBase)
other_base_lem base s (inl h) b = at_32 base s h ∙ ap as_meinberg (sym (other-base-of-meinberg base s OtherBase (other-fault-of-meinberg base s h b)))
other_base_lem base s (inr h) b = at_68 base s h ∙ ap as_erlangen (sym (other-base-of-erlangen base s OtherBase (other-fault-of-erlangen base s h b)))

module _ (base : ℕ) (s : List ℕ) (based : is_base base ≡ true) (k : ℕ) where
  pub lowest_bad_of_32 : length s ≡ text_length → k < text_length → allowed_at meinbergLayout s k ≡ false
      → ((i : ℕ) → i < k → allowed_at meinbergLayout s i ≡ true) → read_string base s ≡ Err (number (Byte k))
  lowest_bad_of_32 h l bad before = at_32 base s h ∙ ap as_meinberg (lowest-bad-of-meinberg base s h based k (omega arith) bad before)

  pub lowest_bad_of_68 : length s ≡ size → k < size → allowed_at erlangenLayout s k ≡ false
      → ((i : ℕ) → i < k → allowed_at erlangenLayout s i ≡ true) → read_string base s ≡ Err (number (Byte k))
  lowest_bad_of_68 h l bad before = at_68 base s h ∙ ap as_erlangen (lowest-bad-of-erlangen base s h based k l bad before)

-- ---- what both strings are refused for first

pub one-length : (n : ℕ) → is_length n ≡ true → (n ≡ text_length) ⊎ (n ≡ size)
one-length n e = elim (either (eqb n text_length) (eqb n size) e) [ inl p ↦ inl (eqb-true n text_length p) | inr q ↦ inr (eqb-true n size q) ]

pub at_other : (base : ℕ) (s : List ℕ) → (length s ≡ text_length) ⊎ (length s ≡ size) → (length s ≡ text_length → ⊥)
    → read_string base s ≡ as_erlangen (read_erlangen base s)
at_other base s (inl h) k = absurd (k h)
at_other base s (inr h) k = at_68 base s h

pub no_length : (base : ℕ) (s : List ℕ) → is_length (length s) ≡ false → read_string base s ≡ Err (number Length)
unfolding read_string
no_length base s e = let p = none_of_two (eqb (length s) text_length) (eqb (length s) size) e in rw (p.0, p.1)

-- both start with STX
not_start : (e b : ℕ) → e ≡ exactly stx → (b ≡ stx → ⊥) → allowed e b ≡ false
not_start e b h k = rw h (exactly_test stx b (omega arith) ∙ ne_eqb b stx k)

pub other_start : (base : ℕ) (s : List ℕ) → (length s ≡ text_length) ⊎ (length s ≡ size) → is_base base ≡ true → (get_or s 0 0 ≡ stx → ⊥)
    → read_string base s ≡ Err (number (Byte 0))
unfolding meinbergLayout erlangenLayout
other_start base s (inl h) b e = lowest_bad_of_32 base s b 0 h (omega arith) (not_start _ _ refl e) (λ i l. absurd (not-suc-le-zero l))
other_start base s (inr h) b e = lowest_bad_of_68 base s b 0 h (omega arith) (not_start _ _ refl e) (λ i l. absurd (not-suc-le-zero l))
