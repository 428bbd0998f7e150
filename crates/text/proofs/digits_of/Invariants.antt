-- `text::digits_of` meets its contract. The loop's invariant: the digits still to come, in front of those stored, are the number's. The measure is what is left of the number. Assumes nothing.
use Rattle.text.proofs.DecimalLaws.{Stored}
use Rattle.text.proofs.digits_of.Given as goal

abbrev pub invariant-loop-rest : goal.invariant-loop-rest
invariant-loop-rest l = Stored l.number l.buffer l.from l.rest

abbrev pub decreases-loop-rest : goal.decreases-loop-rest
decreases-loop-rest l = l.rest
