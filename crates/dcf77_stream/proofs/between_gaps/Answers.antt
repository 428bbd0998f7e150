-- `dcf77_stream::between_gaps` meets its contract. Assumes nothing.
use native.Mathlib.Omega.{arith}
use mathlib.Core.Path.{◌∙◌}
use Rattle.dcf77_stream.proofs.SymbolLaws.{gap_there, no_gap_there}
use Rattle.dcf77_stream.proofs.between_gaps.Goals as goal

pub returns-then-window-from-eq2 : goal.returns-then-window-from-eq2
returns-then-window-from-eq2 c = let a = c.args in c.marks_then_gap.ensures ∙ gap_there a.window.now a.from (omega arith) c.if-window-from-eq2.true

pub returns-else-window-from-eq2 : goal.returns-else-window-from-eq2
returns-else-window-from-eq2 c = let a = c.args in no_gap_there a.window.now a.from (omega arith) c.if-window-from-eq2.false
