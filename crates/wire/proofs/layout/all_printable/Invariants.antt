-- `wire::layout::all_printable` meets its contract. The invariant: `good` says whether every byte so far is printable. Assumes nothing.
use mathlib.Core.Path.{◌≡◌}
use lib.Dec.{leb}
use Rattle.wire.specs.Layout.{printables}
use Rattle.wire.proofs.layout.all_printable.Given as goal

abbrev pub invariant-loop-byte : goal.invariant-loop-byte
invariant-loop-byte l = l.good ≡ leb l.byte-index (printables l.text)
