-- `next` of a walk: a turn that finds a record leaves fewer bytes.
use Rattle.book.proofs.BookLaws.{turn_goes}
use Rattle.book.proofs.WalkIterator.next.Goals as goal

pub returns-clause-goes : goal.returns-clause-goes
returns-clause-goes c = turn_goes _ _ c.turn-found.ensures
