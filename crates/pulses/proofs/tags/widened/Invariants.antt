-- `pulses::tags::widened` meets its contract: after each turn one value more is stored. Assumes nothing.
use mathlib.Core.Path.{◌≡◌}
use mathlib.Core.Bool.{cond}
use lib.Dec.{ltb}
use lib.ListN.{get_or, replicate}
use Rattle.pulses.specs.Row.{first_data}
use Rattle.pulses.proofs.FillLaws.{filled_to}
use Rattle.pulses.proofs.tags.widened.Given as goal

abbrev pub invariant-loop-k : goal.invariant-loop-k
invariant-loop-k l = l.values ≡ filled_to (λ k. cond (ltb k first_data) 0 (get_or l.said k 0)) (replicate 32 0) l.k
