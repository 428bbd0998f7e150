-- `pulses::laying::pick` meets its contract: after i turns the pulses of the first i places are stored. Assumes nothing.
use mathlib.Core.Path.{◌≡◌}
use Rattle.pulses.specs.Laying.{picked}
use Rattle.pulses.proofs.FillLaws.{filled_to}
use Rattle.pulses.proofs.laying.pick.Given as goal

abbrev pub invariant-loop-i : goal.invariant-loop-i
invariant-loop-i l = l.out ≡ filled_to (picked l.tags l.cells) l.initial.out l.i
