-- `pulses::laying::lay` meets its contract: after each turn the pulses of the places before `from` are laid. Assumes nothing.
use native.Mathlib.Omega.{arith}
use mathlib.Core.Path.{refl}
use Prim.Native.Nat.{◌+◌}
use lib.ListN.{length}
use Rattle.pulses.specs.Laying.{picked}
use Rattle.pulses.proofs.FillLaws.{filled_none}
use Rattle.pulses.proofs.LayingLaws.{picked_on, no_room, all_laid}
use Rattle.pulses.proofs.laying.lay.Goals as goal

pub returns-then-out-end : goal.returns-then-out-end
returns-then-out-end c =
    let a = c.args in
    let both = no_room a.tags.now a.values a.out.now (omega arith) in
    record { value = both.0; out_after = both.1 }

pub loop-from-init : goal.loop-from-init
loop-from-init c = (omega arith, filled_none (picked c.args.tags.now c.cells_of-cells.result) c.args.out.now)

pub loop-from-preserved : goal.loop-from-preserved
loop-from-preserved c =
    let a = c.args in
    let l = c.loop-from in
    let laid = picked_on a.tags.now c.cells_of-cells.result a.out.now l.out _ l.from (l.from + 20) (l.from + 20) l.invariant.1 c.pick.ensures
    (omega arith) refl (omega arith) (omega arith) in
    (omega arith, laid)

pub returns : goal.returns
returns c =
    let a = c.args in
    let n = length a.tags.now in
    let laid = picked_on a.tags.now c.cells_of-cells.result a.out.now c.loop-from.out _ c.loop-from.from n n c.loop-from.invariant.1 c.pick-2.ensures
    (omega arith) refl (omega arith) (omega arith) in
    let both = all_laid a.tags.now a.values a.out.now (omega arith) c.cells_of-cells.result _ n c.cells_of-cells.ensures laid refl in
    record { value = both.0; out_after = both.1 }
