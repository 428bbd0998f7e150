-- `irig::whole` meets its contract: the four checks one after the other, of the sums and of the reading that they say. Assumes nothing.
use Rattle.std.proofs.Common.{rules}
use mathlib.Core.Path.{sym}
use native.Mathlib.Omega.{arith}
use Rattle.irig.proofs.RefusalLaws.{bad_pulse}
use Rattle.irig.proofs.StepLaws.{read_in_steps}
use Rattle.irig.proofs.whole.Goals as goal

pub returns-then-good-le-LAST : goal.returns-then-good-le-LAST
returns-then-good-le-LAST c =
    rw (c.into.ensures, c.good-good.ensures) (sym (bad_pulse _ _ c.requires.0 c.requires.1 (omega (arith, c.good-good.ensures))))

pub returns-in_err-digit_fault : goal.returns-in_err-digit_fault
returns-in_err-digit_fault c =
    rw (read_in_steps _ _ _ c.requires (omega (arith, c.good-good.ensures)) c.of-sums.ensures) (search rules)

pub returns-in_err-parity_fault : goal.returns-in_err-parity_fault
returns-in_err-parity_fault c =
    rw (read_in_steps _ _ _ c.requires (omega (arith, c.good-good.ensures)) c.of-sums.ensures) (search rules)

pub returns-in_err-time_fault : goal.returns-in_err-time_fault
returns-in_err-time_fault c =
    rw (read_in_steps _ _ _ c.requires (omega (arith, c.good-good.ensures)) c.of-sums.ensures) (search rules)

pub returns-in_err-rest_fault : goal.returns-in_err-rest_fault
returns-in_err-rest_fault c =
    rw (read_in_steps _ _ _ c.requires (omega (arith, c.good-good.ensures)) c.of-sums.ensures) (search rules)

pub returns : goal.returns
returns c =
    rw (read_in_steps _ _ _ c.requires (omega (arith, c.good-good.ensures)) c.of-sums.ensures) (search rules)
