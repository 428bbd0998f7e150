-- `wire::layout::Columns::all_allowed` meets its contract. The invariant: `good` says whether no place so far is bad. Assumes nothing.
use mathlib.Core.Path.{◌≡◌}
use lib.Dec.{leb}
use Rattle.wire.specs.Layout.{good_places}
use Rattle.wire.specs.Columns.{entries}
use Rattle.wire.proofs.layout.Columns.all_allowed.Given as goal

abbrev pub invariant-loop-place : goal.invariant-loop-place
invariant-loop-place l = l.good ≡ leb l.place (good_places (entries l.self) l.text)
