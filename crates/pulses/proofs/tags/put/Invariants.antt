-- `pulses::tags::put` meets its contract: after each turn one pulse more is in its cell. Assumes nothing.
use mathlib.Core.Path.{◌≡◌}
use lib.ListN.{length}
use Rattle.pulses.specs.Tags.{cells_put}
use Rattle.pulses.proofs.tags.put.Given as goal

abbrev pub invariant-loop-tag : goal.invariant-loop-tag
invariant-loop-tag l = l.cells ≡ cells_put l.initial.cells l.tags l.pulses (length l.yielded)
