-- `pulses::laying::cells_of` meets its contract: after k turns the first k rows are filled. Assumes nothing.
use mathlib.Core.Path.{◌≡◌}
use Prim.Native.Nat.{◌*◌}
use Rattle.pulses.specs.Laying.{cell_digit}
use Rattle.pulses.proofs.FillLaws.{filled_to}
use Rattle.pulses.proofs.laying.cells_of.Given as goal

abbrev pub invariant-loop-k : goal.invariant-loop-k
invariant-loop-k l = l.cells ≡ filled_to (cell_digit l.low) l.initial.cells (32 * l.k)
