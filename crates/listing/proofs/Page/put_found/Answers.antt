-- What was found is written as the kind, then the stamp, or the code and the place of its refusal.
use mathlib.Core.List.{◌++◌}
use Rattle.listing.specs.Listing.{field, stamp_field, ok_word, no_word, blank, zero_at_end, line_feed}
use Rattle.listing.proofs.PutLaws.{room_first, room_behind, both_written}
use Rattle.listing.proofs.Page.put_found.Goals as goal

pub put_stamp-requires : goal.put_stamp-requires
put_stamp-requires c =
    let kind = field c.args.found.kind ok_word in
    let stamp = stamp_field c.in-Ok.stamp.0 zero_at_end in
    room_behind kind stamp c.args.self.now (rw c.in-Ok.is at c.requires) _ (rw c.from-kind.ensures at c.put_number.ensures)

pub returns-in-Ok : goal.returns-in-Ok
returns-in-Ok c =
    let kind = field c.args.found.kind ok_word in
    let stamp = stamp_field c.in-Ok.stamp.0 zero_at_end in
    rw c.in-Ok.is
    (both_written kind stamp c.args.self.now (rw c.in-Ok.is at c.requires) _ (rw c.from-kind.ensures at c.put_number.ensures) _ c.put_stamp.ensures)

pub put_number-requires-in-Err-2 : goal.put_number-requires-in-Err-2
put_number-requires-in-Err-2 c =
    let kind = field c.args.found.kind no_word in
    let code = field c.in-Err.refusal.code blank in
    let place = field c.in-Err.refusal.place line_feed in
    let room = room_first (kind ++ code) place c.args.self.now (rw c.in-Err.is at c.requires) in
    rw c.from.ensures (room_behind kind code c.args.self.now room _ (rw c.from-kind.ensures at c.put_number-in-Err.ensures))

pub put_number-requires-in-Err-3 : goal.put_number-requires-in-Err-3
put_number-requires-in-Err-3 c =
    let kind = field c.args.found.kind no_word in
    let code = field c.in-Err.refusal.code blank in
    let place = field c.in-Err.refusal.place line_feed in
    let all = rw c.in-Err.is at c.requires in
    let room = room_first (kind ++ code) place c.args.self.now all in
    let w = rw c.from-kind.ensures at c.put_number-in-Err.ensures in
    let v = rw c.from.ensures at c.put_number-in-Err-2.ensures in
    room_behind (kind ++ code) place c.args.self.now all _ (both_written kind code c.args.self.now room _ w _ v)

pub returns-in-Err : goal.returns-in-Err
returns-in-Err c =
    let kind = field c.args.found.kind no_word in
    let code = field c.in-Err.refusal.code blank in
    let place = field c.in-Err.refusal.place line_feed in
    let all = rw c.in-Err.is at c.requires in
    let room = room_first (kind ++ code) place c.args.self.now all in
    let w = rw c.from-kind.ensures at c.put_number-in-Err.ensures in
    let v = rw c.from.ensures at c.put_number-in-Err-2.ensures in
    rw c.in-Err.is (both_written (kind ++ code) place c.args.self.now all _ (both_written kind code c.args.self.now room _ w _ v) _ c.put_number-in-Err-3.ensures)
