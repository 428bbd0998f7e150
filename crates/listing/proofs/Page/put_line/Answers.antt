-- A line is written as its place, then what was found there.
use Rattle.listing.specs.Listing.{field, blank, found_text, line_at}
use Rattle.listing.proofs.PutLaws.{room_first, room_behind, both_written}
use Rattle.listing.proofs.Page.put_line.Goals as goal

pub put_number-requires : goal.put_number-requires
unfolding line_at
put_number-requires c = room_first (field c.args.place blank) (found_text c.args.found.kind c.args.found.stamp) c.args.self.now c.requires

pub put_found-requires : goal.put_found-requires
unfolding line_at
put_found-requires c =
    room_behind (field c.args.place blank) (found_text c.args.found.kind c.args.found.stamp) c.args.self.now c.requires _ c.put_number.ensures

pub returns : goal.returns
unfolding line_at
returns c =
    both_written (field c.args.place blank) (found_text c.args.found.kind c.args.found.stamp) c.args.self.now c.requires _ c.put_number.ensures _ c.put_found.ensures
