-- A fact of each number below a bound as one tuple, so that `omega` proves all of them at once.
use mathlib.Core.Path.{◌≡◌, sym, subst}
use Prim.Native.Nat.{ℕ, zero, suc, ◌<◌}
use native.Mathlib.Nat.{not-suc-le-zero}
use native.Mathlib.Decide.{ℕ_discrete}
use native.Mathlib.Omega.{arith}

-- P 0, P 1, .. P (n - 1)
abbrev pub Each : (ℕ → Type 0) → ℕ → Type 0
Each P zero = Unit
Each P (suc n) = Each P n × P n

pub each : (P : ℕ → Type 0) (n : ℕ) → Each P n → (k : ℕ) → k < n → P k
each P zero t k h = absurd (not-suc-le-zero h)
each P (suc n) t k h = go (λ l. each P n t.0 k l) (ℕ_discrete k n)
  where
    go : (k < n → P k) → Dec (k ≡ n) → P k
    go r (yes e) = subst (λ (m : ℕ). P m) (sym e) t.1
    go r (no d) = r (omega arith)
