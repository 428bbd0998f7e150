-- Listings written out byte for byte: of the paper's own case, of a book with a body of each kind, of one that ends a byte too
-- soon and of an empty one; and how long a book is listed, and with which base.
use mathlib.Core.Bool.{true, false}
use mathlib.Core.List.{List, [], ◌∷◌, ◌++◌, map}
use mathlib.Core.Path.{◌≡◌, ap}
use Prim.Native.Nat.{ℕ, ◌≤◌, ◌<◌}
use native.Mathlib.Omega.{arith}
use lib.ListN.{length}
use Rattle.reading.specs.Faults.{number}
use Rattle.reading.specs.Years.{usual_base as base, is_base}
use Rattle.text.specs.Decimal.{decimal, digits_before}
use Rattle.book.specs.declared.Stamping.{Stamping}
use Rattle.book.specs.Book.{records}
use Rattle.book.proofs.BookLaws.{records_end}
use Rattle.book.proofs.Worked.{case_book, kinds_book, short_book, worked_books, worked_stamps}
use Rattle.listing.specs.Listing.{line_at, lines_of, body_text, listing}
use Rattle.listing.proofs.RoomLaws.{body_too_long, body_other_base, body_listed}

-- `at kind answer value place` and a line feed
abbrev first_line : List ℕ
first_line =
    97 ∷ 116 ∷ 32 ∷ 107 ∷ 105 ∷ 110 ∷ 100 ∷ 32 ∷ 97 ∷ 110 ∷ 115 ∷ 119 ∷ 101 ∷ 114 ∷ 32 ∷ 118 ∷ 97 ∷ 108 ∷ 117 ∷ 101 ∷ 32 ∷ 112 ∷ 108 ∷ 97 ∷ 99 ∷ 101 ∷ 10
    ∷ []

-- `0 1 ok 536550209 0` and `33 9 no 14 0`, a line feed behind each
abbrev case_lines : List ℕ
case_lines =
    48 ∷ 32 ∷ 49 ∷ 32 ∷ 111 ∷ 107 ∷ 32 ∷ 53 ∷ 51 ∷ 54 ∷ 53 ∷ 53 ∷ 48 ∷ 50 ∷ 48 ∷ 57 ∷ 32 ∷ 48 ∷ 10
    ∷ 51 ∷ 51 ∷ 32 ∷ 57 ∷ 32 ∷ 110 ∷ 111 ∷ 32 ∷ 49 ∷ 52 ∷ 32 ∷ 48 ∷ 10
    ∷ []

-- `0 1 ok -1801 0`, `33 2 ok 762530521 0`, `102 3 ok 762530521 0`, `203 4 ok 762530465 0` and `264 5 ok 536550210 0`
abbrev kinds_lines : List ℕ
kinds_lines =
    48 ∷ 32 ∷ 49 ∷ 32 ∷ 111 ∷ 107 ∷ 32 ∷ 45 ∷ 49 ∷ 56 ∷ 48 ∷ 49 ∷ 32 ∷ 48 ∷ 10
    ∷ 51 ∷ 51 ∷ 32 ∷ 50 ∷ 32 ∷ 111 ∷ 107 ∷ 32 ∷ 55 ∷ 54 ∷ 50 ∷ 53 ∷ 51 ∷ 48 ∷ 53 ∷ 50 ∷ 49 ∷ 32 ∷ 48 ∷ 10
    ∷ 49 ∷ 48 ∷ 50 ∷ 32 ∷ 51 ∷ 32 ∷ 111 ∷ 107 ∷ 32 ∷ 55 ∷ 54 ∷ 50 ∷ 53 ∷ 51 ∷ 48 ∷ 53 ∷ 50 ∷ 49 ∷ 32 ∷ 48 ∷ 10
    ∷ 50 ∷ 48 ∷ 51 ∷ 32 ∷ 52 ∷ 32 ∷ 111 ∷ 107 ∷ 32 ∷ 55 ∷ 54 ∷ 50 ∷ 53 ∷ 51 ∷ 48 ∷ 52 ∷ 54 ∷ 53 ∷ 32 ∷ 48 ∷ 10
    ∷ 50 ∷ 54 ∷ 52 ∷ 32 ∷ 53 ∷ 32 ∷ 111 ∷ 107 ∷ 32 ∷ 53 ∷ 51 ∷ 54 ∷ 53 ∷ 53 ∷ 48 ∷ 50 ∷ 49 ∷ 48 ∷ 32 ∷ 48 ∷ 10
    ∷ []

-- `0 5 no 13 0`
abbrev short_lines : List ℕ
short_lines = 48 ∷ 32 ∷ 53 ∷ 32 ∷ 110 ∷ 111 ∷ 32 ∷ 49 ∷ 51 ∷ 32 ∷ 48 ∷ 10 ∷ []

-- `0 0 no 1 0`
abbrev too_long : List ℕ
too_long = 48 ∷ 32 ∷ 48 ∷ 32 ∷ 110 ∷ 111 ∷ 32 ∷ 49 ∷ 32 ∷ 48 ∷ 10 ∷ []

-- `0 0 no 19 0`
abbrev other_base : List ℕ
other_base = 48 ∷ 32 ∷ 48 ∷ 32 ∷ 110 ∷ 111 ∷ 32 ∷ 49 ∷ 57 ∷ 32 ∷ 48 ∷ 10 ∷ []

the_stamp : {x y : Stamping} → x ≡ y → x.stamp ≡ y.stamp
the_stamp e = ap (λ (z : Stamping). z.stamp) e

-- the last is "an empty book gives the header alone"
pub worked_listing :
    map (listing base) (case_book ∷ kinds_book ∷ short_book ∷ [] ∷ [])
    ≡ (first_line ++ case_lines) ∷ (first_line ++ kinds_lines) ∷ (first_line ++ short_lines) ∷ first_line ∷ []
unfolding listing body_text lines_of line_at decimal digits_before is_base
worked_listing =
    let b = worked_books in
    let s = worked_stamps in
    rw (b.0, b.1, b.2, records_end base [] 0 (omega arith), the_stamp s.0, the_stamp s.1, the_stamp s.2, the_stamp s.4, the_stamp s.5)

-- "reads a book from standard input, at most 65,536 bytes"
pub listed_book : (base : ℕ) (b : List ℕ) → is_base base ≡ true → length b ≤ 65536 → listing base b ≡ first_line ++ lines_of base (records base b)
unfolding listing
listed_book base b g h = ap (λ (t : List ℕ). first_line ++ t) (body_listed base b h g)

-- "any other base or argument is 19 .. printed by the programs as 1 is", also of an empty book
pub other_base_book : (base : ℕ) (b : List ℕ) → is_base base ≡ false → length b ≤ 65536 → listing base b ≡ first_line ++ other_base
unfolding listing line_at decimal digits_before number
other_base_book base b g h = ap (λ (t : List ℕ). first_line ++ t) (body_other_base base b h g)

-- "A longer book gives the header and `0 0 no 1 0`", whatever the base: 1 goes before 19
pub longer_book : (base : ℕ) (b : List ℕ) → 65536 < length b → listing base b ≡ first_line ++ too_long
unfolding listing line_at decimal digits_before number
longer_book base b h = ap (λ (t : List ℕ). first_line ++ t) (body_too_long base b h)
