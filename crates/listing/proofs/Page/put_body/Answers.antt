-- The lines of a book that is not too long, with a base; else the line that says what is wrong with the whole.
use native.Mathlib.Omega.{arith}
use mathlib.Core.Path.{ap}
use mathlib.Core.Bool.{not}
use Prim.Native.Nat.{◌≤◌, ◌<◌}
use lib.ListN.{length}
use Rattle.laws.proofs.Bools.{failed, passed}
use Rattle.listing.specs.Listing.{largest_book}
use Rattle.listing.proofs.RoomLaws.{body_too_long, body_other_base, body_listed}
use Rattle.listing.proofs.Page.put_body.Goals as goal

pub put_whole_refused-requires : goal.put_whole_refused-requires
put_whole_refused-requires c =
    let h : largest_book < length c.args.book.now = omega arith in
    rw (← body_too_long c.args.base c.args.book.now h) c.requires

pub returns-then-book-gt-LARGEST_BOOK : goal.returns-then-book-gt-LARGEST_BOOK
returns-then-book-gt-LARGEST_BOOK c =
    let h : largest_book < length c.args.book.now = omega arith in
    rw (body_too_long c.args.base c.args.book.now h) c.put_whole_refused.ensures

pub put_whole_refused-requires-then-not-is_base : goal.put_whole_refused-requires-then-not-is_base
put_whole_refused-requires-then-not-is_base c =
    let h : length c.args.book.now ≤ largest_book = omega arith in
    let g = failed c.is_base.ensures (ap not c.if-not-is_base.true) in
    rw (← body_other_base c.args.base c.args.book.now h g) c.requires

pub returns-then-not-is_base : goal.returns-then-not-is_base
returns-then-not-is_base c =
    let h : length c.args.book.now ≤ largest_book = omega arith in
    let g = failed c.is_base.ensures (ap not c.if-not-is_base.true) in
    rw (body_other_base c.args.base c.args.book.now h g) c.put_whole_refused-then-not-is_base.ensures

pub put_records-requires : goal.put_records-requires
put_records-requires c =
    let h : length c.args.book.now ≤ largest_book = omega arith in
    let g = passed c.is_base.ensures (ap not c.if-not-is_base.false) in
    rw (← body_listed c.args.base c.args.book.now h g) c.requires

pub returns : goal.returns
returns c =
    let h : length c.args.book.now ≤ largest_book = omega arith in
    let g = passed c.is_base.ensures (ap not c.if-not-is_base.false) in
    rw (body_listed c.args.base c.args.book.now h g) c.put_records.ensures
