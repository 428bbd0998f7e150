-- The records of a book: what stands at a place, where the walk goes from there, and all that it finds.
use Rattle.std.specs.Prelude.{Bool, cond, List, [], ◌∷◌, ℕ, zero, suc, ◌+◌, ◌-◌, length, get_or, take, drop, leb, ltb, eqb, Option, None, Some, Err}
use Rattle.reading.specs.declared.Fault.TheVariants.{CutShort, UnknownKind}
use Rattle.reading.specs.Faults.{number}
use Rattle.book.specs.declared.Record.{Record}
use Rattle.book.specs.Body.{Said, body_length, read_body, refused, record_of}

-- the byte of kind at a place
abbrev pub kind_at : List ℕ → ℕ → ℕ
kind_at b at = get_or b at 0

-- the length that it fixes
abbrev pub length_at : List ℕ → ℕ → ℕ
length_at b at = body_length (kind_at b at)

-- "One byte of kind, then a body": the body of the record at a place
abbrev pub body_at : List ℕ → ℕ → List ℕ
body_at b at = take (length_at b at) (drop (at + 1) b)

-- the place is past the book's end
abbrev pub past : List ℕ → ℕ → Bool
past b at = leb (length b) at

-- "unknown kind"
abbrev pub unknown : List ℕ → ℕ → Bool
unknown b at = eqb (length_at b at) 0

-- "book ends before the body is whole"
abbrev pub cut_short : List ℕ → ℕ → Bool
cut_short b at = ltb (length b - (at + 1)) (length_at b at)

-- what is said of the bytes behind a byte of kind: 14; 13; else what the kind's reader says of the body, the first of them
unfoldable pub said_of : ℕ → ℕ → List ℕ → Said
said_of base kind behind =
    cond (eqb (body_length kind) 0) (Err (number UnknownKind))
    (cond (ltb (length behind) (body_length kind)) (Err (number CutShort)) (read_body base kind (take (body_length kind) behind)))

-- what stands at a place of the book, in a hundred of years that starts with a base year: 14; 13; else "the body, starting in the
-- middle of the book, is handed to its reader", and what that says is the answer
unfoldable pub standing_at : ℕ → List ℕ → ℕ → Record
standing_at base b at =
    cond (unknown b at) (refused (kind_at b at) (number UnknownKind))
    (cond (cut_short b at) (refused (kind_at b at) (number CutShort)) (record_of (kind_at b at) (read_body base (kind_at b at) (body_at b at))))

-- and past the end that "the walk is over"
unfoldable pub record_at : ℕ → List ℕ → ℕ → Option Record
record_at base b at = cond (past b at) None (Some (standing_at base b at))

-- "A refused body doesn't stop the walk; after 13 or 14, as at the book's end," it goes to the end
unfoldable pub next_at : List ℕ → ℕ → ℕ
next_at b at =
    cond (past b at) (length b)
    (cond (unknown b at) (length b) (cond (cut_short b at) (length b) (at + 1 + length_at b at)))

-- a place and what stands there
pub record Entry : Type 0 where
  pub place : ℕ
  pub found : Record

-- what the first n steps of a walk find from a place on
abbrev pub records_within : ℕ → List ℕ → ℕ → ℕ → List Entry
records_within base b zero at = []
records_within base b (suc n) at =
    cond (past b at) [] (record { place = at; found = standing_at base b at } ∷ records_within base b n (next_at b at))

-- all that a walk finds from a place on: a record is a byte long at least, so there are no more of them than bytes
unfoldable pub records_from : ℕ → List ℕ → ℕ → List Entry
records_from base b at = records_within base b (length b - at) at

-- all that stands in a book
abbrev pub records : ℕ → List ℕ → List Entry
records base b = records_from base b 0
