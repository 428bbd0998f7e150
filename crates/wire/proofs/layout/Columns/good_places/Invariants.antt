-- `wire::layout::Columns::good_places` meets its contract. The invariant: no bad place has been passed. Assumes nothing.
use Prim.Native.Nat.{◌≤◌}
use Rattle.wire.specs.Layout.{good_places}
use Rattle.wire.specs.Columns.{entries}
use Rattle.wire.proofs.layout.Columns.good_places.Given as goal

abbrev pub invariant-loop-place : goal.invariant-loop-place
invariant-loop-place l = l.place ≤ good_places (entries l.self) l.text
