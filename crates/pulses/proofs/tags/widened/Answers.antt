-- `pulses::tags::widened` meets its contract: after each turn one value more is stored. Assumes nothing.
use native.Mathlib.Omega.{arith}
use mathlib.Core.Path.{◌≡◌, refl, ◌∙◌}
use mathlib.Core.Bool.{cond}
use mathlib.Core.List.{List}
use Prim.Native.Nat.{ℕ, ◌≤◌}
use borrow.Author.Tests.{le-ltb}
use lib.Dec.{ltb}
use lib.ListN.{get_or, replicate, length-replicate}
use Rattle.pulses.specs.Row.{first_data, up_to}
use Rattle.pulses.proofs.FillLaws.{filled_to, filled_next}
use Rattle.pulses.proofs.tags.widened.Goals as goal

begun : (said : List ℕ) → replicate 32 0 ≡ filled_to (λ k. cond (ltb k first_data) 0 (get_or said k 0)) (replicate 32 0) 3
unfolding up_to
begun said = refl

is_data : (said : List ℕ) (k x : ℕ) → first_data ≤ k → x ≡ get_or said k 0 → x ≡ cond (ltb k first_data) 0 (get_or said k 0)
is_data said k x h e = e ∙ rw (le-ltb k first_data h)

pub loop-k-init : goal.loop-k-init
loop-k-init c = begun c.args.said.now

pub loop-k-preserved : goal.loop-k-preserved
loop-k-preserved c =
    filled_next _ (replicate 32 0) _ _ c.loop-k.invariant (omega (arith, length-replicate {A = ℕ} 32 0))
    _ (is_data c.args.said.now c.loop-k.k _ (omega arith) c.from.ensures)
