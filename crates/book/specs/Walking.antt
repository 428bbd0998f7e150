-- A walk over a lent book: where it starts, and what one turn of it gives.
use Rattle.std.specs.Prelude.{List, ℕ, ◌-◌, length, ◌≡◌, Option}
use Rattle.std.specs.Borrow.{Bor}
use Rattle.std.specs.Iterator.{Count, at_most}
use Rattle.book.specs.declared.Record.{Record}
use Rattle.book.specs.declared.Walk.{Walk}
use Rattle.book.specs.declared.Taken.{Taken}
use Rattle.book.specs.Book.{record_at, next_at}

-- a walk over that very book, at its start; L12: "a walk takes it once", the base
abbrev pub walk_over : ℕ → Bor (List ℕ) → Walk
walk_over base book = record { book = book; at = 0; base = base }

-- the record at the walk's place, and the walk over the same book past it
abbrev pub turned : Walk → Taken
turned w =
    record {
      walk = record { book = w.book; at = next_at w.book.now w.at; base = w.base };
      found = record_at w.base w.book.now w.at;
    }

-- a turn of a walk found this, and left the walk past it
abbrev pub Turns : Walk → Option Record → Walk → Type 0
Turns w found past = turned w ≡ record { walk = past; found = found }

-- a record is a byte long at least, so there are no more of them than bytes from the walk's place on
abbrev pub at_most_bytes : Walk → Count
at_most_bytes w = at_most (length w.book.now - w.at)
