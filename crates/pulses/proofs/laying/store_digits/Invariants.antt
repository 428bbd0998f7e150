-- `pulses::laying::store_digits` meets its contract: after i turns the digits of the first i bytes are stored. Assumes nothing.
use mathlib.Core.Path.{◌≡◌}
use Rattle.pulses.specs.Laying.{digit_in}
use Rattle.pulses.proofs.FillLaws.{filled_to}
use Rattle.pulses.proofs.laying.store_digits.Given as goal

abbrev pub invariant-loop-i : goal.invariant-loop-i
invariant-loop-i l = l.row ≡ filled_to (digit_in l.low l.k) l.initial.row l.i
