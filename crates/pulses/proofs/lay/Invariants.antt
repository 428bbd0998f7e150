-- `pulses::lay` meets its contract: after i turns the first i pulses are laid. Assumes nothing.
use mathlib.Core.Path.{◌≡◌}
use Rattle.pulses.proofs.RowLaws.{laid_to}
use Rattle.pulses.proofs.lay.Given as goal

abbrev pub invariant-loop-i : goal.invariant-loop-i
invariant-loop-i l = l.out ≡ laid_to l.table l.values l.initial.out l.i
