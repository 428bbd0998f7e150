-- A line a turn, until no record is left. The measure is what is left of the book.
use Prim.Native.Nat.{◌-◌}
use lib.ListN.{length}
use Rattle.listing.proofs.LineLaws.{Listed}
use Rattle.listing.proofs.Page.put_records.Given as goal

abbrev pub invariant-loop-found : goal.invariant-loop-found
invariant-loop-found l = Listed l.base l.book l.initial.self l.self l.at

abbrev pub decreases-loop-found : goal.decreases-loop-found
decreases-loop-found l = length l.book - l.at
