-- A flag as a pulse, back and there.
use mathlib.Core.Bool.{Bool, true, false}
use mathlib.Core.Path.{◌≡◌, refl, sym}
use Prim.Native.Nat.{ℕ, ◌<◌}
use native.Mathlib.Decide.{ℕ_discrete}
use native.Mathlib.Omega.{arith}
use lib.Dec.{eqb}
use borrow.Author.Tests.{eq-eqb, ne_eqb}
use Rattle.pulses.specs.Row.{bit}

pub bit_small : (b : Bool) → bit b < 2
bit_small true = omega arith
bit_small false = omega arith

pub bit_back : (b : Bool) → eqb (bit b) 1 ≡ b
bit_back true = refl
bit_back false = refl

pub bit_there : (n : ℕ) → n < 2 → bit (eqb n 1) ≡ n
bit_there n h = elim (ℕ_discrete n 1) [
  | yes e ↦ rw (eq-eqb n 1 e) (sym e)
  | no d ↦ rw (ne_eqb n 1 d) (omega arith)
]
