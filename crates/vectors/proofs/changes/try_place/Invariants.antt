-- No more are refused than bytes were tried.
use Rattle.std.proofs.Common.{◌≤◌}
use Rattle.vectors.proofs.changes.try_place.Given as goal

abbrev pub invariant-loop-byte : goal.invariant-loop-byte
invariant-loop-byte l = l.refused ≤ l.byte
