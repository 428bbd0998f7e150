-- `pulses::tags::good` meets its contract. Assumes nothing.
use native.Mathlib.Omega.{arith}
use Rattle.pulses.proofs.TagLaws.{all_good, good_on, good_small}
use Rattle.pulses.proofs.tags.good.Goals as goal

pub returns-then-blocks_fit : goal.returns-then-blocks_fit
returns-then-blocks_fit c = all_good _ _ _ c.min-end.ensures _ c.blocks_fit.ensures c.if-blocks_fit.true

pub overflow_add-result : goal.overflow_add-result
overflow_add-result c =
    let e = good_on _ _ _ c.min-end.ensures _ _ c.good_blocks-from.ensures.1 c.good_one_by_one.ensures in
    let h = good_small _ _ _ c.min-end.ensures _ _ e in
    record { fits = omega arith }

pub returns : goal.returns
returns c = good_on _ _ _ c.min-end.ensures _ _ c.good_blocks-from.ensures.1 c.good_one_by_one.ensures
