-- `pulses::lay` meets its contract: after i turns the first i pulses are laid. Assumes nothing.
use native.Mathlib.Omega.{arith}
use mathlib.Core.Path.{sym, ◌∙◌}
use Rattle.pulses.proofs.RowLaws.{laid_none, laid_next, laid-all, too_few, enough}
use Rattle.pulses.proofs.lay.Goals as goal

pub returns-then-out-table : goal.returns-then-out-table
returns-then-out-table c =
    let a = c.args in
    let r = too_few a.table.now a.values a.out.now (omega arith) in record {
      value = sym r.0;
      out_after = sym r.1;
    }

pub loop-i-init : goal.loop-i-init
loop-i-init c = laid_none c.args.table.now c.args.values c.args.out.now

pub loop-i-preserved : goal.loop-i-preserved
loop-i-preserved c =
    let a = c.args in
    laid_next a.table.now a.values a.out.now c.loop-i.out c.loop-i.i _ c.loop-i.invariant (omega arith) (omega arith) c.pulse_for.ensures

pub returns : goal.returns
returns c =
    let a = c.args in record {
      value = sym (enough a.table.now a.values a.out.now (omega arith)).0;
      out_after = c.loop-i.invariant ∙ laid-all a.table.now a.values a.out.now c.loop-i.i (omega arith) (omega arith) (omega arith);
    }
