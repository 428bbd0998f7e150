-- Storing bytes into a buffer: what is stored stands there, the length stays, and two stores side by side are one.
use mathlib.Core.Path.{◌≡◌, refl, sym, ◌∙◌}
use mathlib.Core.Bool.{true, false}
use mathlib.Core.List.{List, [], ◌++◌, append_assoc}
use Prim.Native.Nat.{ℕ, ◌+◌, ◌≤◌, ◌<◌}
use native.Mathlib.Decide.{dec_le}
use native.Mathlib.Omega.{arith}
use lib.ListN.{length, take, drop, length-append, length-take, length-drop}
use lib.Seq.{paste-zero, take_all, take_at, drop_at, drop-drop}
use borrow.Rule.Slice.PartMut.{put_mid}
use Rattle.std.proofs.lemmas.Slice.{put_mid-paste}
use borrow.Author.Tests.{le-leb, lt-leb, leb-true}
use Rattle.wire.specs.Put.{fits, stored}

-- ---- whether there is room

pub fits_is : (at : ℕ) (t l : List ℕ) → fits at t l ≡ true → at + length t ≤ length l
unfolding fits
fits_is at t l e = leb-true (at + length t) (length l) e

pub is_fit : (at : ℕ) (t l : List ℕ) → at + length t ≤ length l → fits at t l ≡ true
unfolding fits
is_fit at t l h = le-leb (at + length t) (length l) h

pub no_fit : (at : ℕ) (t l : List ℕ) → length l < at + length t → fits at t l ≡ false
unfolding fits
no_fit at t l h = lt-leb (at + length t) (length l) h

-- ---- what is stored

pub stored_is : (at : ℕ) (t l : List ℕ) → at + length t ≤ length l → stored at t l ≡ take at l ++ t ++ drop (at + length t) l
unfolding stored
stored_is at t l h = rw (is_fit at t l h)

pub stored_none : (at : ℕ) (t l : List ℕ) → length l < at + length t → stored at t l ≡ l
unfolding stored
stored_none at t l h = rw (no_fit at t l h)

-- as a copy over a part of the buffer leaves it
pub stored_part : (at k : ℕ) (t part l : List ℕ) → at + length t ≤ length l → k ≡ length t → part ≡ t → put_mid at k l part ≡ stored at t l
stored_part at k t part l h e p =
    put_mid-paste at k l part t (length t) p (sym e) refl ∙ sym (stored_is at t l h ∙ rw (take_all (length t) t (omega arith)))

pub stored_first : (t l : List ℕ) → length t ≤ length l → stored 0 t l ≡ t ++ drop (length t) l
stored_first t l h = let e : 0 + length t ≡ length t = omega arith in stored_is 0 t l (omega arith) ∙ rw e

pub stored_nothing : (at : ℕ) (l : List ℕ) → stored at [] l ≡ l
stored_nothing at l = go (dec_le (at + 0) (length l))
  where
    go : Dec (at + 0 ≤ length l) → stored at [] l ≡ l
    go (yes h) = stored_is at [] l h ∙ sym (paste-zero l at [])
    go (no m) = stored_none at [] l (omega arith)

pub stored-length : (at : ℕ) (t l : List ℕ) → length (stored at t l) ≡ length l
stored-length at t l = go (dec_le (at + length t) (length l))
  where
    go : Dec (at + length t ≤ length l) → length (stored at t l) ≡ length l
    go (yes h) = rw (stored_is at t l h) (simp (length-append, length-take, length-drop) (omega arith))
    go (no m) = rw (stored_none at t l (omega arith))

-- up to the text's end, and behind it
head-length : (at : ℕ) (t l : List ℕ) → at + length t ≤ length l → length (take at l ++ t) ≡ at + length t
head-length at t l h = simp (length-append, length-take) (omega arith)

pub stored_there : (at : ℕ) (t l : List ℕ) → at + length t ≤ length l → take (at + length t) (stored at t l) ≡ take at l ++ t
stored_there at t l h = rw (stored_is at t l h) (take_at (take at l ++ t) (drop (at + length t) l) (at + length t) (head-length at t l h))

pub stored_after : (at : ℕ) (t l : List ℕ) → at + length t ≤ length l → drop (at + length t) (stored at t l) ≡ drop (at + length t) l
stored_after at t l h = rw (stored_is at t l h) (drop_at (take at l ++ t) (drop (at + length t) l) (at + length t) (head-length at t l h))

-- a text right behind another is the two as one text
pub stored_behind : (at : ℕ) (a b l : List ℕ) → at + (length a + length b) ≤ length l
    → stored (at + length a) b (stored at a l) ≡ stored at (a ++ b) l
stored_behind at a b l h =
    let k : at + length a ≤ length l = omega arith in
    let z : at + length a + length b ≡ at + (length a + length b) = omega arith in
    stored_is (at + length a) b (stored at a l) (rw stored-length (omega arith))
    ∙ rw (stored_there at a l k, ← drop-drop, stored_after at a l k, drop-drop, z, append_assoc (take at l) a b, ← length-append a b)
    (sym (stored_is at (a ++ b) l (simp length-append (omega arith))))

-- ---- for a function that stores

pub ruleset storing = (is_fit, no_fit, stored_none, stored_part)
