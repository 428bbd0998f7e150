-- A stamp is written as a minus where it lies below zero, then its distance.
use mathlib.Core.Path.{sym, ◌∙◌}
use Rattle.listing.specs.Listing.{field}
use Rattle.listing.proofs.PutLaws.{room_behind, both_written}
use Rattle.listing.proofs.StampLaws.{minus, distance_of, below, not_below}
use Rattle.listing.proofs.Page.put_stamp.Goals.{then-is_before, else-is_before}
use Rattle.listing.proofs.Page.put_stamp.Goals as goal

pub put_number-requires : goal.put_number-requires
put_number-requires c =
    let z = c.args.stamp.0 in
    let behind = c.args.behind.now in
    elim c.if-is_before.branch [
      | then-is_before w ↦
          let e = below z behind (sym c.is_before.ensures ∙ w.if-is_before.true) in
          rw (w.self-is, c.distance.ensures) (room_behind minus (field (distance_of z) behind) c.args.self.now (rw e at c.requires) _ w.put.ensures)
      | else-is_before w ↦
          let e = not_below z behind (sym c.is_before.ensures ∙ w.if-is_before.false) in
          rw (w.self-is, c.distance.ensures) (rw e at c.requires)
    ]

pub returns : goal.returns
returns c =
    let z = c.args.stamp.0 in
    let behind = c.args.behind.now in
    let q = rw c.distance.ensures at c.put_number.ensures in
    elim c.if-is_before.branch [
      | then-is_before w ↦
          let e = below z behind (sym c.is_before.ensures ∙ w.if-is_before.true) in
          rw e (both_written minus (field (distance_of z) behind) c.args.self.now (rw e at c.requires) _ w.put.ensures _ (rw w.self-is at q))
      | else-is_before w ↦
          let e = not_below z behind (sym c.is_before.ensures ∙ w.if-is_before.false) in
          rw e (rw w.self-is at q)
    ]
