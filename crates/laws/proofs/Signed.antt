-- A fact of every signed number of a width, by one test that antt computes over all of them.
use mathlib.Core.Path.{◌≡◌, ap}
use mathlib.Core.Bool.{Bool, ◌&&◌}
use Prim.Native.Nat.{ℕ, ◌<◌}
use lib.Dec.{T, eqb→eq}
use lib.IntN.{ℤ, pos, negsuc}
use lib.Signed.{mag}
use Rattle.laws.specs.Tests.{below, same}
use Rattle.laws.proofs.Tested.{at, and_left, and_right}

-- Q holds of the numbers from -n to n - 1
abbrev pub all : ℕ → (ℤ → Bool) → Bool
all n Q = below (λ k. Q (pos k)) n && below (λ k. Q (negsuc k)) n

pub each : (n : ℕ) (Q : ℤ → Bool) → T (all n Q) → (z : ℤ) → mag z < n → T (Q z)
each n Q t (pos k) h = at (λ m. Q (pos m)) n (and_left (below (λ m. Q (pos m)) n) (below (λ m. Q (negsuc m)) n) t) k h
each n Q t (negsuc k) h = at (λ m. Q (negsuc m)) n (and_right (below (λ m. Q (pos m)) n) (below (λ m. Q (negsuc m)) n) t) k h

pub same_is : (x y : ℤ) → T (same x y) → x ≡ y
same_is (pos a) (pos b) t = ap pos (eqb→eq a b t)
same_is (pos a) (negsuc b) t = absurd t
same_is (negsuc a) (pos b) t = absurd t
same_is (negsuc a) (negsuc b) t = ap negsuc (eqb→eq a b t)
