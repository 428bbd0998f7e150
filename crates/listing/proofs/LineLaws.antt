-- The lines of a book, one record after the other: what a loop that stores a line a turn knows, and what it has done at the end.
use mathlib.Core.List.{List, [], ◌++◌}
use mathlib.Core.Path.{◌≡◌, ap}
use Prim.Native.Nat.{ℕ, ◌≤◌, ◌<◌}
use lib.ListN.{length}
use Rattle.book.specs.Book.{standing_at, next_at, records_from}
use Rattle.book.specs.declared.Stamping.{Stamping}
use Rattle.book.specs.Stamps.{stamping_of}
use Rattle.book.proofs.BookLaws.{records_step, records_end}
use Rattle.listing.specs.declared.Page.{Page}
use Rattle.listing.specs.Listing.{line_at, lines_of}
use Rattle.listing.specs.Pages.{HasRoom, Writes}
use Rattle.listing.proofs.PutLaws.{room_first, room_behind, both_written, nothing_written}

module _ (base : ℕ) (b : List ℕ) where
  -- what is listed at a place
  abbrev pub found_at : ℕ → Stamping
  found_at at = stamping_of base (standing_at base b at)

  -- the lines from a place on
  abbrev pub lines_from : ℕ → List ℕ
  lines_from at = lines_of base (records_from base b at)

  pub lines_step : (at : ℕ) → at < length b → lines_from at ≡ line_at at (found_at at) ++ lines_from (next_at b at)
  unfolding lines_of
  lines_step at h = ap (lines_of base) (records_step base b at h)

  pub lines_end : (at : ℕ) → length b ≤ at → lines_from at ≡ []
  unfolding lines_of
  lines_end at h = ap (lines_of base) (records_end base b at h)

  -- what the loop knows: there is room for the lines that are left, and who writes them has written all of them to the first page
  pub record Listed (first page : Page) (at : ℕ) : Type 0 where
    pub room : HasRoom (lines_from at) page
    pub left : (last : Page) → Writes (lines_from at) page last → Writes (lines_from 0) first last

  module _ (first page : Page) (at : ℕ) (s : Listed first page at) where
    both_room : at < length b → HasRoom (line_at at (found_at at) ++ lines_from (next_at b at)) page
    both_room h = rw (lines_step at h) at s.room

    pub line-room : at < length b → HasRoom (line_at at (found_at at)) page
    line-room h = room_first (line_at at (found_at at)) (lines_from (next_at b at)) page (both_room h)

    pub turn : at < length b → (after : Page) → Writes (line_at at (found_at at)) page after → Listed first after (next_at b at)
    turn h after w =
        let line = line_at at (found_at at) in
        let rest = lines_from (next_at b at) in
        record {
          room = room_behind line rest page (both_room h) after w;
          left = λ last v. s.left last (rw (lines_step at h) (both_written line rest page (both_room h) after w last v));
        }

    pub done : length b ≤ at → Writes (lines_from 0) first page
    done h = s.left page (rw (lines_end at h) (nothing_written page))
