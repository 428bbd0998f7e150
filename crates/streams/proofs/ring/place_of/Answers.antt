-- `streams::place_of` meets its contract.
use Rattle.streams.proofs.RingLaws.{place_within, place_past}
use Rattle.streams.proofs.ring.place_of.Goals as goal

pub returns-then-next-clause-place : goal.returns-then-next-clause-place
returns-then-next-clause-place g c = place_within g.row.N c.args.next c.if-next.true

pub returns-clause-place : goal.returns-clause-place
returns-clause-place g c = place_past g.row.N c.args.next c.if-next.false
