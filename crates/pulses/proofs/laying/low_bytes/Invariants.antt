-- `pulses::laying::low_bytes` meets its contract: after i turns the bytes of the first i values are stored. Assumes nothing.
use mathlib.Core.Path.{◌≡◌}
use Rattle.pulses.specs.Laying.{low_byte}
use Rattle.pulses.proofs.FillLaws.{filled_to}
use Rattle.pulses.proofs.laying.low_bytes.Given as goal

abbrev pub invariant-loop-i : goal.invariant-loop-i
invariant-loop-i l = l.low ≡ filled_to (low_byte l.values) l.initial.low l.i
