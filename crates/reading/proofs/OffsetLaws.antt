-- The two senses of offset are each other's negative, and which offsets are good.
use mathlib.Core.Bool.{Bool, true, false, cond, ◌&&◌}
use mathlib.Core.Path.{◌≡◌, refl, ap, ◌∙◌}
use Prim.Native.Nat.{ℕ, zero, suc, ◌+◌, ◌/◌, ◌%◌, ◌≤◌, ◌<◌}
use native.Mathlib.Omega.{arith}
use lib.Dec.{leb, ltb, eqb, eqb-zero-suc, eqb-suc-zero, eqb-suc-suc}
use lib.IntN.{ℤ, pos, negsuc, neg_ℤ-neg_ℤ}
use lib.Signed.{mag}
use borrow.Author.Tests.{leb-true, ltb-false}
use Rattle.laws.proofs.Bools.{both}
use Rattle.laws.specs.Tests.{same}
use Rattle.reading.specs.Offset.{unit, westmost, eastmost, west, east, offset_good, opposite, local_of}

-- what is added to local time is the opposite of local minus UTC, and back
pub opposite_twice : (z : ℤ) → opposite (opposite z) ≡ z
opposite_twice z = neg_ℤ-neg_ℤ z

-- a number that is at most another is what is left of it under that bound
bounded : (n top : ℕ) → n ≤ top → cond (ltb n top) n top ≡ n
bounded n top h = go (ltb n top) refl
  where
    go : (b : Bool) → ltb n top ≡ b → cond b n top ≡ n
    go true e = refl
    go false e = let k = ltb-false n top e in omega arith

-- an amount that an offset is the opposite of
abbrev pub Amount : ℤ → Type 0
Amount z = mag (opposite z) < 128

pub local_is : (z : ℤ) → Amount z → local_of z ≡ opposite z
unfolding local_of
local_is (pos zero) h = refl
local_is (pos (suc n)) h = ap (λ (m : ℕ). opposite (pos m)) (bounded (suc n) 128 (omega arith))
local_is (negsuc n) h = ap (λ (m : ℕ). opposite (negsuc m)) (bounded n 126 (omega arith))

-- an offset that goes over into the other sense comes back as it was
pub local_back : (z : ℤ) → mag z < 128 → local_of (opposite z) ≡ z
local_back z h = local_is (opposite z) (rw (opposite_twice z) h) ∙ opposite_twice z

pub offset_range : (z : ℤ) → offset_good z ≡ true → (west z ≤ westmost) × (east z ≤ eastmost)
unfolding offset_good
offset_range z e =
    let p = both (leb (west z) westmost) (leb (east z) eastmost) e in
    (leb-true (west z) westmost p.0, leb-true (east z) eastmost p.1)

-- whole hours to either side of UTC
abbrev pub WholeHours : ℤ → Type 0
WholeHours z = (west z + east z) % (60 / unit) ≡ 0

-- ---- an offset lies west or east of UTC, so that both amounts tell it

and_true : (b : Bool) → (b && true) ≡ b
and_true true = refl
and_true false = refl

pub by_sides : (x y : ℤ) → (eqb (west x) (west y) && eqb (east x) (east y)) ≡ same x y
unfolding west east
by_sides (pos m) (pos n) = refl
by_sides (pos m) (negsuc n) = rw (eqb-zero-suc n)
by_sides (negsuc m) (pos n) = rw (eqb-suc-zero m)
by_sides (negsuc m) (negsuc n) = rw (eqb-suc-suc m n) (and_true (eqb m n))
