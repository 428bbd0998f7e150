-- `pulses::tags::sums` meets its contract: after each turn twenty pulses more are in their cells. Assumes nothing.
use native.Mathlib.Omega.{arith}
use mathlib.Core.Path.{◌≡◌, ap, ◌∙◌}
use Prim.Native.Nat.{◌+◌, ◌*◌, ◌/◌}
use Rattle.pulses.specs.Tags.{cells_after}
use Rattle.pulses.proofs.CellLaws.{cells_none, put_part, all_said}
use Rattle.pulses.proofs.tags.sums.Goals as goal

pub loop-turn-init : goal.loop-turn-init
loop-turn-init c = cells_none _ _

pub loop-turn-preserved : goal.loop-turn-preserved
loop-turn-preserved c =
    let a = c.args in
    let k = c.loop-turn.turn in
    let e : 20 * k + 20 ≡ 20 * (k + 1) = omega arith in
    c.put.ensures ∙ put_part a.tags.now a.pulses.now _ (20 * k) (20 * k + 20) (omega arith) (omega arith) (omega arith) c.loop-turn.invariant
    ∙ ap (cells_after a.tags.now a.pulses.now) e

pub returns : goal.returns
returns c =
    let a = c.args in
    let k = c.loop-turn.turn in
    let e : k ≡ c.min-end.result / 20 = omega arith in
    all_said _ _ _ _ _ _ c.min-end.ensures
    (c.put-2.ensures ∙ put_part a.tags.now a.pulses.now _ (20 * (c.min-end.result / 20)) c.min-end.result
    (omega arith) (omega arith) (omega arith) (rw e at c.loop-turn.invariant))
    c.octets-said.ensures c.widened.ensures
