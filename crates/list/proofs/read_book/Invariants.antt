-- What came so far lies within the space, and what is left of it gets less.
use Rattle.std.proofs.Common.{◌≤◌, ◌-◌, length}
use Rattle.list.proofs.read_book.Given as goal

abbrev pub invariant-loop-done : goal.invariant-loop-done
invariant-loop-done l = l.done ≤ length l.space

abbrev pub decreases-loop-done : goal.decreases-loop-done
decreases-loop-done l = length l.space - l.done
