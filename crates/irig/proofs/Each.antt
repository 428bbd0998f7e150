-- A fact of each number below a bound, as a tuple that one call of `omega` can prove.
use mathlib.Core.Path.{subst, sym}
use Prim.Native.Nat.{ℕ, zero, suc, ◌<◌}
use native.Mathlib.Nat.{not-suc-le-zero, le_refl}
use native.Mathlib.Decide.{ℕ_discrete}
use native.Mathlib.Omega.{arith}

abbrev pub Each : (ℕ → Type 0) → ℕ → Type 0
Each P zero = Unit {0}
Each P (suc n) = Each P n × P n

pub each_at : (P : ℕ → Type 0) (n : ℕ) → Each P n → (k : ℕ) → k < n → P k
each_at P zero e k h = absurd (not-suc-le-zero h)
each_at P (suc n) e k h = elim (ℕ_discrete k n) [ yes q ↦ subst P (sym q) e.1 | no d ↦ each_at P n e.0 k (omega arith) ]

pub each : (P : ℕ → Type 0) (n : ℕ) → ((k : ℕ) → k < n → P k) → Each P n
each P zero h = tt
each P (suc n) h = (each P n (λ k l. h k (omega arith)), h n (le_refl (suc n)))
