-- `pulses::tags::sums` meets its contract: after each turn twenty pulses more are in their cells. Assumes nothing.
use mathlib.Core.Path.{◌≡◌}
use Prim.Native.Nat.{◌*◌}
use Rattle.pulses.specs.Tags.{cells_after}
use Rattle.pulses.proofs.tags.sums.Given as goal

abbrev pub invariant-loop-turn : goal.invariant-loop-turn
invariant-loop-turn l = l.cells ≡ cells_after l.tags l.pulses (20 * l.turn)
