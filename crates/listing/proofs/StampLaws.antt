-- A stamp as text, by whether it lies below zero.
use mathlib.Core.Bool.{true, false}
use mathlib.Core.List.{List, [], ◌∷◌, ◌++◌}
use mathlib.Core.Path.{◌≡◌, refl, sym}
use Prim.Native.Nat.{ℕ}
use native.Mathlib.Omega.{arith}
use borrow.Author.Tests.{ltb-true}
use lib.IntN.{ℤ, pos, negsuc, nat_abs}
use lib.Signed.{lt_z}
use Rattle.laws.proofs.Bools.{never}
use Rattle.listing.specs.Listing.{field, stamp_field}

abbrev pub minus : List ℕ
minus = 45 ∷ []

abbrev pub distance_of : ℤ → ℕ
distance_of = nat_abs

pub below : (z : ℤ) (behind : List ℕ) → lt_z z (pos 0) ≡ true → stamp_field z behind ≡ minus ++ field (distance_of z) behind
below (pos n) behind e = let k = ltb-true n 0 e in absurd (omega arith)
below (negsuc n) behind e = refl

pub not_below : (z : ℤ) (behind : List ℕ) → lt_z z (pos 0) ≡ false → stamp_field z behind ≡ field (distance_of z) behind
not_below (pos n) behind e = refl
not_below (negsuc n) behind e = never (sym e)
