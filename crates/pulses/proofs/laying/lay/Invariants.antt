-- `pulses::laying::lay` meets its contract: after each turn the pulses of the places before `from` are laid. Assumes nothing.
use mathlib.Core.Path.{◌≡◌}
use Prim.Native.Nat.{◌≤◌, ◌-◌}
use Rattle.pulses.specs.Laying.{picked}
use Rattle.pulses.proofs.FillLaws.{filled_to}
use Rattle.pulses.proofs.laying.lay.Given as goal

abbrev pub invariant-loop-from : goal.invariant-loop-from
invariant-loop-from l = (l.from ≤ l.end) × (l.out ≡ filled_to (picked l.tags l.cells) l.initial.out l.from)

abbrev pub decreases-loop-from : goal.decreases-loop-from
decreases-loop-from l = l.end - l.from
