-- `dcf77::Dcf77::read` meets its contract. Assumes nothing.
use Rattle.std.proofs.Common.{rules}
use mathlib.Core.Path.{sym, ◌∙◌}
use Rattle.dcf77.proofs.ReadLaws.{some_marks, no_zero}
use Rattle.dcf77.proofs.Dcf77.read.Goals as goal

pub bounds-s-0 : goal.bounds-s-0
bounds-s-0 c = some_marks c.args.s.now (sym c.length_bad.ensures ∙ c.if-length_bad.false)

pub returns-then-s-ne0 : goal.returns-then-s-ne0
returns-then-s-ne0 c = search (rules, no_zero)
