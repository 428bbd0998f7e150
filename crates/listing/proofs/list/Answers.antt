-- Header and lines are written side by side, and there is room for both.
use Rattle.std.specs.Prelude.{Err, Ok}
use Rattle.std.proofs.Common.{rules}
use native.Mathlib.Omega.{arith}
use mathlib.Core.List.{List, ◌++◌}
use mathlib.Core.Path.{◌≡◌, refl, ap, ◌∙◌}
use Prim.Native.Nat.{ℕ, ◌+◌, ◌≤◌, ◌<◌}
use lib.ListN.{length, drop}
use Rattle.wire.specs.Put.{stored}
use Rattle.wire.proofs.StoreLaws.{stored_first}
use Rattle.listing.specs.Listing.{header, body_text, listing, room_for_any}
use Rattle.listing.proofs.PutLaws.{then-room, both_end, both-held}
use Rattle.listing.proofs.RoomLaws.{listing_fits, too_small, large_enough}
use Rattle.listing.proofs.list.Goals as goal

-- a buffer that holds every listing has room for the header and the lines
both_room : (base : ℕ) (b l : List ℕ) → room_for_any ≤ length l → 0 + length (header ++ body_text base b) ≤ length l
unfolding listing
both_room base b l h = omega (arith, listing_fits base b)

-- what is stored from the start on
whole : (base : ℕ) (b l m : List ℕ) → room_for_any ≤ length l → m ≡ stored 0 (header ++ body_text base b) l
    → m ≡ listing base b ++ drop (length (listing base b)) l
unfolding listing
whole base b l m h e = e ∙ stored_first (header ++ body_text base b) l (omega (arith, both_room base b l h))

counted : (base : ℕ) (b : List ℕ) (r : ℕ) → r ≡ 0 + length (header ++ body_text base b) → r ≡ length (listing base b)
unfolding listing
counted base b r e = omega (arith, e)

pub returns-then-out-lt-ROOM : goal.returns-then-out-lt-ROOM
returns-then-out-lt-ROOM c =
    let s = c.args in
    let h : length s.out.now < room_for_any = omega arith in record {
      value = rw (too_small (length s.out.now) h) (ap Err c.into.ensures);
      out_after = rw (too_small (length s.out.now) h) refl;
    }

pub put_body-requires : goal.put_body-requires
put_body-requires c =
    let b = c.args.book.now in
    let l = c.args.out.now in
    let room = both_room c.args.base b l (omega arith) in
    then-room 0 header (body_text c.args.base b) l room _ _ c.put.ensures.ends c.put.ensures.holds

pub returns-clause-value : goal.returns-clause-value
returns-clause-value c =
    let b = c.args.book.now in
    let l = c.args.out.now in
    let h : room_for_any ≤ length l = omega arith in
    let room = both_room c.args.base b l h in
    let p = c.put.ensures in
    let q = c.put_body.ensures in
    rw (large_enough (length l) h) (ap Ok (counted c.args.base b _ (both_end 0 header (body_text c.args.base b) l room _ _ p.ends p.holds _ q.ends)))

-- the page's last value is the buffer's: the search finds it, since every `put` keeps the page's buffer
pub returns-clause-out_after : goal.returns-clause-out_after
returns-clause-out_after c =
    let b = c.args.book.now in
    let l = c.args.out.now in
    let h : room_for_any ≤ length l = omega arith in
    let room = both_room c.args.base b l h in
    let p = c.put.ensures in
    let q = c.put_body.ensures in
    let held : c.put_body.new.self.bytes.now ≡ listing c.args.base b ++ drop (length (listing c.args.base b)) l =
    whole c.args.base b l _ h (both-held 0 header (body_text c.args.base b) l room _ _ p.ends p.holds _ q.holds) in
    rw (large_enough (length l) h) (search rules)
