-- `telegram::Sender::write` meets its contract. Assumes nothing.
use Rattle.std.proofs.Common.{rules}
use lib.ListN.{length}
use Rattle.telegram.specs.Faults.{send_fault}
use Rattle.telegram.proofs.TelegramLaws.{in_steps}
use Rattle.telegram.proofs.Sender.write.Goals as goal

pub returns-in_err-send_fault-clause-value : goal.returns-in_err-send_fault-clause-value
unfolding send_fault
returns-in_err-send_fault-clause-value c = let a = c.args in rw (in_steps a.base a.self a.sent a.head (length a.out.now)) (search rules)
