-- The layout that four columns say: how many places it has, and the entry at each.
use mathlib.Core.Path.{◌≡◌, refl}
use mathlib.Core.List.{List, [], ◌∷◌}
use Prim.Native.Nat.{ℕ, zero, suc, ◌<◌, min}
use native.Mathlib.Nat.{not-suc-le-zero, le_of_suc-le-suc}
use native.Mathlib.Omega.{arith}
use lib.ListN.{length, get_or}
use Rattle.wire.specs.Layout.{packed, columns}

pub columns-length : (low high other third : List ℕ)
    → length (columns low high other third) ≡ min (min (length low) (length high)) (min (length other) (length third))
unfolding columns
columns-length [] high other third = omega arith
columns-length (a ∷ low) [] other third = omega arith
columns-length (a ∷ low) (b ∷ high) [] third = omega arith
columns-length (a ∷ low) (b ∷ high) (c ∷ other) [] = omega arith
columns-length (a ∷ low) (b ∷ high) (c ∷ other) (d ∷ third) = let e = columns-length low high other third in omega arith

pub columns_at : (low high other third : List ℕ) (i : ℕ) → i < length (columns low high other third)
    → get_or (columns low high other third) i 0 ≡ packed (get_or low i 0) (get_or high i 0) (get_or other i 0) (get_or third i 0)
unfolding columns
columns_at [] high other third i h = absurd (not-suc-le-zero h)
columns_at (a ∷ low) [] other third i h = absurd (not-suc-le-zero h)
columns_at (a ∷ low) (b ∷ high) [] third i h = absurd (not-suc-le-zero h)
columns_at (a ∷ low) (b ∷ high) (c ∷ other) [] i h = absurd (not-suc-le-zero h)
columns_at (a ∷ low) (b ∷ high) (c ∷ other) (d ∷ third) zero h = refl
columns_at (a ∷ low) (b ∷ high) (c ∷ other) (d ∷ third) (suc i) h = columns_at low high other third i (le_of_suc-le-suc h)

-- for a function of columns
pub ruleset of_columns = (columns-length, columns_at)
