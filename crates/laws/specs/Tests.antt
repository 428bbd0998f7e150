-- Tests that definitions of other crates are written with.
use Rattle.std.specs.Prelude.{Bool, true, false, ◌&&◌, ◌||◌, List, [], ◌∷◌, ℕ, zero, suc, eqb, ℤ, pos, negsuc}

-- f holds of every number below n
abbrev pub below : (ℕ → Bool) → ℕ → Bool
below f zero = true
below f (suc n) = f n && below f n

-- a number is one of a list
abbrev pub among : ℕ → List ℕ → Bool
among n [] = false
among n (m ∷ rest) = eqb n m || among n rest

-- two signed numbers are one
abbrev pub same : ℤ → ℤ → Bool
same (pos a) (pos b) = eqb a b
same (pos a) (negsuc b) = false
same (negsuc a) (pos b) = false
same (negsuc a) (negsuc b) = eqb a b
