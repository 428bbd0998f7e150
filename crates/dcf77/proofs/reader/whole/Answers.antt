-- `dcf77::reader::whole` meets its contract. Assumes nothing.
use Rattle.std.proofs.Common.{rules}
use Rattle.dcf77.proofs.ReadLaws.{marks_left}
use Rattle.dcf77.proofs.reader.whole.Goals as goal

pub returns-then-good-s : goal.returns-then-good-s
returns-then-good-s c = rw (marks_left _ _ c.requires.s_value.0 c.requires.s_value.1 c.args.long c.requires.long_value) (search rules)

pub returns-in_err-said_fault : goal.returns-in_err-said_fault
returns-in_err-said_fault c = rw (marks_left _ _ c.requires.s_value.0 c.requires.s_value.1 c.args.long c.requires.long_value) (search rules)

pub returns : goal.returns
returns c = rw (marks_left _ _ c.requires.s_value.0 c.requires.s_value.1 c.args.long c.requires.long_value) (search rules)
