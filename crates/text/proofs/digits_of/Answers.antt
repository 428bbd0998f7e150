-- `text::digits_of` meets its contract: a turn of its loop stores one digit more. Assumes nothing.
use native.Mathlib.Omega.{arith}
use Rattle.text.proofs.DecimalLaws.{turn}
use Rattle.text.proofs.digits_of.Goals as goal

pub loop-rest-preserved : goal.loop-rest-preserved
loop-rest-preserved c = turn _ _ _ _ c.loop-rest.invariant (omega arith)
