-- No more are refused than bytes were tried.
use Rattle.std.proofs.Common.{◌*◌, ◌≤◌}
use Rattle.vectors.proofs.changes.try_places.Given as goal

abbrev pub invariant-loop-place : goal.invariant-loop-place
invariant-loop-place l = l.refused ≤ 256 * l.place
