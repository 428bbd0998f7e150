-- `pulses::scanned` meets its contract: the pulses that are yielded are good, and the array holds what they add. Assumes nothing.
use native.Mathlib.Omega.{arith}
use mathlib.Core.Bool.{not}
use mathlib.Core.Path.{ap}
use lib.ListN.{take}
use Rattle.std.proofs.lemmas.Slice.Zip.{zip_end}
use Rattle.laws.proofs.Bools.{failed, passed}
use Rattle.pulses.specs.Row.{most_places}
use Rattle.pulses.proofs.ScanLaws.{passed_none, passed_more, passed_stops, passed-all, read_is}
use Rattle.pulses.proofs.ZipLaws.{turn_at}
use Rattle.pulses.proofs.scanned.Goals as goal

pub loop-entry-init : goal.loop-entry-init
loop-entry-init c = (omega arith, passed_none _ _)

pub returns-then-not-is_allowed : goal.returns-then-not-is_allowed
returns-then-not-is_allowed c =
    let l = c.loop-entry in
    let z = turn_at (take most_places c.args.table.now) c.args.pulses.now l.yielded c.into_iter-entry-iterator.result l.entry-iterator
    c.next.new.self c.next.result _ (read_is _ c.args.table.now c.min.result (cc) c.min.ensures) (cc)
    l.yielded_by c.in-Some.is c.next.ensures.steps in
    passed_stops _ _ _ _ _ l.invariant.1 l.invariant.0 _ _ _ z (failed c.is_allowed.ensures (ap not c.if-not-is_allowed.true))

pub loop-entry-preserved : goal.loop-entry-preserved
loop-entry-preserved c =
    let l = c.loop-entry in
    let z = turn_at (take most_places c.args.table.now) c.args.pulses.now l.yielded c.into_iter-entry-iterator.result l.entry-iterator
    c.next.new.self c.next.result _ (read_is _ c.args.table.now c.min.result (cc) c.min.ensures) (cc)
    l.yielded_by c.in-Some.is c.next.ensures.steps in
    let good = passed c.is_allowed.ensures (ap not c.if-not-is_allowed.false) in
    let share = c.share.ensures in
    (omega (arith, z.more), passed_more _ _ _ _ _ _ _ _ _ l.invariant.1 z good c.group_of-group.ensures.value share.value share.upper_bound)

pub returns : goal.returns
returns c =
    let l = c.loop-entry in
    let e = zip_end (take most_places c.args.table.now) c.args.pulses.now l.yielded c.into_iter-entry-iterator.result l.entry-iterator
    c.next.new.self c.next.result (read_is _ c.args.table.now c.min.result (cc) c.min.ensures) (cc)
    l.yielded_by c.in-None.is c.next.ensures.steps in
    passed-all _ _ _ _ _ l.invariant.1 l.invariant.0 e
