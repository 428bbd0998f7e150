-- The listing of a book, as text.
use Rattle.reading.specs.Stamps.{Stamp}
use Rattle.std.specs.Prelude.{cond, List, [], ◌∷◌, ◌++◌, ℕ, suc, leb, ltb, ℤ, pos, negsuc, length, Ok, Err}
use Rattle.reading.specs.declared.Fault.{Fault}
use Rattle.reading.specs.declared.Fault.TheVariants.{Length, OtherBase}
use Rattle.reading.specs.Faults.{number, Verdict, no_fault}
use Rattle.reading.specs.Years.{is_base}
use Rattle.text.specs.Decimal.{decimal}
use Rattle.book.specs.declared.Stamping.{Stamping}
use Rattle.book.specs.Book.{Entry, records}
use Rattle.book.specs.Stamps.{unstamped, stamping_of}

-- `at kind answer value place` and a line feed
abbrev pub header : List ℕ
header =
    97 ∷ 116 ∷ 32
    ∷ 107 ∷ 105 ∷ 110 ∷ 100 ∷ 32
    ∷ 97 ∷ 110 ∷ 115 ∷ 119 ∷ 101 ∷ 114 ∷ 32
    ∷ 118 ∷ 97 ∷ 108 ∷ 117 ∷ 101 ∷ 32
    ∷ 112 ∷ 108 ∷ 97 ∷ 99 ∷ 101 ∷ 10
    ∷ []

-- a number in decimal, and the bytes behind it
abbrev pub field : ℕ → List ℕ → List ℕ
field n behind = decimal n ++ behind

-- a stamp in decimal, with a minus before one that lies below zero, and the bytes behind it
abbrev pub stamp_field : ℤ → List ℕ → List ℕ
stamp_field (pos n) behind = field n behind
stamp_field (negsuc n) behind = 45 ∷ field (suc n) behind

-- a blank
abbrev pub blank : List ℕ
blank = 32 ∷ []

-- a blank, `ok` and a blank
abbrev pub ok_word : List ℕ
ok_word = 32 ∷ 111 ∷ 107 ∷ 32 ∷ []

-- a blank, `no` and a blank
abbrev pub no_word : List ℕ
no_word = 32 ∷ 110 ∷ 111 ∷ 32 ∷ []

-- a blank, `0` and a line feed
abbrev pub zero_at_end : List ℕ
zero_at_end = 32 ∷ 48 ∷ 10 ∷ []

-- "Every line ends with a line feed"
abbrev pub line_feed : List ℕ
line_feed = 10 ∷ []

-- "kind in decimal, `ok` with stamp and 0, or `no` with code and place"
abbrev pub found_text : ℕ → Stamp → List ℕ
found_text kind (Ok stamp) = field kind ok_word ++ stamp_field stamp.0 zero_at_end
found_text kind (Err refusal) = field kind no_word ++ field refusal.code blank ++ field refusal.place line_feed

-- "offset of the kind byte", then what was found there
unfoldable pub line_at : ℕ → Stamping → List ℕ
line_at at found = field at blank ++ found_text found.kind found.stamp

-- "a line a record", each with its stamp
unfoldable pub lines_of : ℕ → List Entry → List ℕ
lines_of base [] = []
lines_of base (e ∷ l) = line_at e.place (stamping_of base e.found) ++ lines_of base l

-- "at most 65,536 bytes"
abbrev pub largest_book : ℕ
largest_book = 65536

-- `0 0 no`, the code and `0`: what is said of a book as a whole
abbrev pub whole_refused : Fault → List ℕ
whole_refused fault = line_at 0 (unstamped 0 (number fault))

-- "A longer book gives the header and `0 0 no 1 0`." L12: "any other base or argument is 19, straight after 1 and printed by the programs as
-- 1 is"
unfoldable pub body_text : ℕ → List ℕ → List ℕ
body_text base b =
    cond (leb (length b) largest_book) (cond (is_base base) (lines_of base (records base b)) (whole_refused OtherBase)) (whole_refused Length)

-- "Header, then a line a record"
unfoldable pub listing : ℕ → List ℕ → List ℕ
listing base b = header ++ body_text base b

-- a buffer of this many bytes holds every listing
abbrev pub room_for_any : ℕ
room_for_any = 262144

-- a smaller buffer is refused
abbrev pub room_fault : ℕ → Verdict
room_fault n = cond (ltb n room_for_any) (Err Length) no_fault
