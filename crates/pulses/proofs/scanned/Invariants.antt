-- `pulses::scanned` meets its contract: the pulses that are yielded are good, and the array holds what they add. Assumes nothing.
use mathlib.Core.Path.{◌≡◌}
use lib.ListN.{length, take}
use Rattle.pulses.specs.Row.{most_places}
use Rattle.pulses.proofs.ScanLaws.{Passed}
use Rattle.pulses.proofs.scanned.Given as goal

abbrev pub invariant-loop-entry : goal.invariant-loop-entry
invariant-loop-entry l = (l.good ≡ length l.yielded) × Passed (take most_places l.table) l.pulses l.sums (length l.yielded)
