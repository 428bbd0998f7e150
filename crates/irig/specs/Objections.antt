-- What can be wrong with an IEEE 1344 frame, and with what is to be written as one, with code and place.
-- Conditions and codes are those of 01's table, as amended by L5, L9 and L12, a place is that of "the first byte of the lowest offending field".
-- (Of an input of another length, code 2 may hold too: code 1 goes before it.)
use Rattle.std.specs.Prelude.{true, not, ◌||◌, List, [], ◌∷◌, ◌++◌, ◌≡◌, ℕ, eqb, ltb, length, Err, Ok}
use Rattle.reading.specs.declared.Reading.{Reading}
use Rattle.reading.specs.Universal.{utc_of}
use Rattle.reading.specs.Leap.{sixty_bad}
use Rattle.reading.specs.Checks.{hour_bad, minute_bad, second_bad}
use Rattle.reading.specs.Refusals.{Objection, objection, quiet, Owed}
use Rattle.reading.specs.Objections.{base_objection, reading_objections}
use Rattle.pulses.specs.Row.{good_pulses, sums_of, over_nine}
use Rattle.irig_table.specs.Table.{frame_pulses, seconds, minutes, hours, days, tens_of_days, years, tens_of_years, deletion}
use Rattle.irig.specs.Offset.{odd_quarter}
use Rattle.irig.specs.Meaning.{is_set, second_in, minute_in, hour_in, reading_of, day_bad, second_of_day_wrong, offset_bad}
use Rattle.irig.specs.Faults.{is_odd, Answer}

-- the pulses s, where their groups say the values v
unfoldable pub said_objections : ℕ → List ℕ → List ℕ → List Objection
said_objections base s v =
    objection (not (eqb (length s) 100)) 1 0
    ∷ base_objection base
    ∷ objection (ltb (good_pulses frame_pulses s) 100) 2 (good_pulses frame_pulses s)
    ∷ objection (over_nine v seconds) 3 1
    ∷ objection (over_nine v minutes) 3 10
    ∷ objection (over_nine v hours) 3 20
    ∷ objection (over_nine v days || over_nine v tens_of_days) 3 30
    ∷ objection (over_nine v years || over_nine v tens_of_years) 3 50
    ∷ objection (is_odd s) 4 75
    ∷ objection (second_bad (second_in v)) 15 1
    ∷ objection (minute_bad (minute_in v)) 15 10
    ∷ objection (hour_bad (hour_in v)) 15 20
    ∷ objection (day_bad base v) 16 30
    ∷ objection (second_of_day_wrong v) 7 80
    ∷ objection (offset_bad v) 8 64
    ∷ objection (sixty_bad (utc_of (reading_of base v)) (second_in v)) 9 1
    ∷ objection (is_set v deletion) 10 61
    ∷ []

-- the pulses of a frame
unfoldable pub read_objections : ℕ → List ℕ → List Objection
read_objections base s = said_objections base s (sums_of frame_pulses s)

-- a reading, and room for so many pulses
unfoldable pub write_objections : ℕ → Reading → ℕ → List Objection
write_objections base r room = objection (ltb room 100) 1 0 ∷ reading_objections base r ++ (objection (odd_quarter r.offset.0) 11 0 ∷ [])

-- the codes that reader and writer can answer with
abbrev pub read_codes : List ℕ
read_codes = 1 ∷ 19 ∷ 2 ∷ 3 ∷ 4 ∷ 15 ∷ 16 ∷ 7 ∷ 8 ∷ 9 ∷ 10 ∷ []

abbrev pub write_codes : List ℕ
write_codes = 1 ∷ 19 ∷ 15 ∷ 16 ∷ 17 ∷ 8 ∷ 9 ∷ 11 ∷ []

-- what is promised of an answer: where a time is told nothing is objected, and a refusal is the one to give
abbrev pub AnswerOwed : List Objection → List ℕ → Answer → Type 0
AnswerOwed objections codes (Ok r) = quiet objections ≡ true
AnswerOwed objections codes (Err x) = Owed objections codes x
