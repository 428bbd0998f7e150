-- `dcf77_stream::read_from` meets its contract. Assumes nothing.
use Rattle.std.specs.Prelude.{Some}
use mathlib.Core.Path.{ap, ◌∙◌}
use Rattle.dcf77.specs.Reader.{read_dcf77}
use Rattle.dcf77_stream.proofs.SymbolLaws.{tail_is}
use Rattle.dcf77_stream.proofs.read_from.Goals as goal

pub returns : goal.returns
returns c = let a = c.args in ap Some (c.read.ensures ∙ ap (read_dcf77 a.base) (tail_is a.window.now a.from))
