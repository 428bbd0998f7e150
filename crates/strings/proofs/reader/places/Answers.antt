-- `strings::reader::places` meets its contract. Assumes nothing.
use native.Mathlib.Omega.{arith}
use mathlib.Core.Path.{sym, ◌∙◌}
use Rattle.wire.proofs.LayoutLaws.{all-good}
use Rattle.strings.proofs.reader.places.Goals as goal

pub returns-then-all_allowed : goal.returns-then-all_allowed
returns-then-all_allowed g c =
    let format = g.F.ClockString.format in
    let fits = g.met.F.ClockString.fits in
    all-good format.layout _ (omega (arith, fits.size_is, fits.layout_is)) (sym c.all_allowed.ensures ∙ c.if-all_allowed.true)
