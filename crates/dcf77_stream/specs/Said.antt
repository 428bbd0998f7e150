-- What a DCF77 pulse reader says: of its last 62 symbols, and what is owed after all the symbols that came.
use Rattle.std.specs.Prelude.{Bool, false, cond, ◌&&◌, List, [], ◌∷◌, ℕ, leb, ltb, eqb, length, drop, Option, None, Some}
use Rattle.dcf77.specs.Reader.{read_dcf77, Answer}
use Rattle.streams.specs.Stream.{last_of}
use Rattle.streams.specs.Reader as reader
use Rattle.streams.specs.declared.PulseReader as of
use Rattle.dcf77_stream.specs.declared.Minutes.{Minutes}

-- the symbols that a reader keeps: a gap, 60 marks, and a gap
abbrev pub kept : ℕ
kept = 62

-- its readers
abbrev pub PulseReader : Type 0
PulseReader = of.PulseReader Minutes kept

-- a reader that has taken no symbol; L12: it takes the base "once, when it is started"
abbrev pub unfed : ℕ → PulseReader
unfed = reader.unfed Minutes kept

-- the symbols that it keeps, the oldest first
abbrev pub kept_by : PulseReader → List ℕ
kept_by = reader.kept_by Minutes kept

-- the reader after one symbol more
abbrev pub taken : PulseReader → ℕ → PulseReader
taken = reader.taken Minutes kept

-- what is said after a symbol: a time with its head or a refusal, or nothing
abbrev pub Said : Type 0
Said = Option Answer

-- "marks of 0 or 1, then a gap": a gap is a 2
unfoldable pub marks_then_gap : List ℕ → Bool
marks_then_gap [] = false
marks_then_gap (x ∷ xs) = cond (eqb (length xs) 0) (eqb x 2) (ltb x 2 && marks_then_gap xs)

-- "a gap, then marks of 0 or 1, then a gap"
unfoldable pub between_gaps : List ℕ → Bool
between_gaps [] = false
between_gaps (x ∷ xs) = eqb x 2 && marks_then_gap xs

-- of a window of 62 symbols: the outline of 60 marks, else that of 59 in the last 61. "What is read is those marks with the closing gap."
unfoldable pub say_of : ℕ → List ℕ → Said
say_of base w =
    cond (between_gaps w) (Some (read_dcf77 base (drop 1 w)))
    (cond (between_gaps (drop 1 w)) (Some (read_dcf77 base (drop 2 w))) None)

-- n symbols have come, and the last n of them have the outline
unfoldable pub outlined : ℕ → List ℕ → Bool
outlined n h = leb n (length h) && between_gaps (last_of n h)

-- "of the marks since the gap before it, closing gap included. It says nothing where these do not have the frame's outline, or too few have come."
unfoldable pub owed : ℕ → List ℕ → Said
owed base h =
    cond (outlined 62 h) (Some (read_dcf77 base (drop 1 (last_of 62 h))))
    (cond (outlined 61 h) (Some (read_dcf77 base (drop 1 (last_of 61 h)))) None)

-- all the answers of a fresh reader of this base to the symbols that come, one a symbol, as `step` gives them with the next state
abbrev pub answers : ℕ → List ℕ → List Said
answers = reader.answers Minutes kept say_of
