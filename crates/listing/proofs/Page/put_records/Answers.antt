-- A line a turn, until no record is left.
use native.Mathlib.Omega.{arith}
use mathlib.Core.Path.{sym, ap, ◌∙◌}
use Rattle.book.specs.Stamps.{stamping_of}
use Rattle.book.proofs.BookLaws.{next_rises, there_is, nothing_is}
use Rattle.listing.proofs.LineLaws.{line-room, turn, done}
use Rattle.listing.proofs.Page.put_records.Goals as goal

pub loop-found-init : goal.loop-found-init
loop-found-init c = record { room = c.requires; left = λ last w. w }

pub put_line-requires : goal.put_line-requires
put_line-requires c =
    let l = c.loop-found in
    let there = there_is _ c.args.book.now l.at _ (sym c.record_at.ensures ∙ c.in-Some.is) in
    rw (c.stamping_of.ensures, there.1) (line-room c.args.base c.args.book.now c.args.self.now l.self l.at l.invariant there.0)

pub loop-found-smaller : goal.loop-found-smaller
loop-found-smaller c =
    let l = c.loop-found in
    let there = there_is _ c.args.book.now l.at _ (sym c.record_at.ensures ∙ c.in-Some.is) in
    let r = next_rises c.args.book.now l.at there.0 in
    let e = c.next_at-at.ensures in
    omega (arith, there.0)

pub loop-found-preserved : goal.loop-found-preserved
loop-found-preserved c =
    let l = c.loop-found in
    let there = there_is _ c.args.book.now l.at _ (sym c.record_at.ensures ∙ c.in-Some.is) in
    let f = c.stamping_of.ensures ∙ ap (stamping_of c.args.base) there.1 in
    rw c.next_at-at.ensures (turn c.args.base c.args.book.now c.args.self.now l.self l.at l.invariant there.0 _ (rw f at c.put_line.ensures))

pub returns : goal.returns
returns c =
    let l = c.loop-found in
    let h = nothing_is _ c.args.book.now l.at (sym c.record_at.ensures ∙ c.in_default.is) in
    done c.args.base c.args.book.now c.args.self.now l.self l.at l.invariant h
