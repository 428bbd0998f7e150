-- `pulses::tags::all_fit` meets its contract: after each turn one pulse more is judged. Assumes nothing.
use mathlib.Core.Path.{◌≡◌}
use lib.ListN.{length}
use Rattle.pulses.specs.Tags.{fit_from}
use Rattle.pulses.proofs.tags.all_fit.Given as goal

abbrev pub invariant-loop-tag : goal.invariant-loop-tag
invariant-loop-tag l = l.good ≡ fit_from l.tags l.pulses 0 (length l.yielded)
