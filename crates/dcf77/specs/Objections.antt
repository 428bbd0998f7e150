-- What can be wrong with a DCF77 minute, and with what is to be written as one, with code and place.
-- Conditions and codes are those of 01's table, as amended by L5 and L12, a place is that of "the first byte of the lowest offending field".
-- (Of an input of another length, code 2 may hold too: code 1 goes before it.)
use Rattle.std.specs.Prelude.{true, not, ◌||◌, List, [], ◌∷◌, ◌++◌, ◌≡◌, ℕ, eqb, ltb, length, get_or, Err, Ok}
use Rattle.std.specs.Bool.{beq}
use Rattle.reading.specs.declared.Reading.{Reading}
use Rattle.reading.specs.Offset.{offset_good}
use Rattle.reading.specs.Universal.{utc_of}
use Rattle.reading.specs.Leap.{sixty_bad}
use Rattle.reading.specs.Checks.{hour_bad, minute_bad, time_bad, date_bad, quality_bad, day_bad, month_bad, weekday_wrong}
use Rattle.reading.specs.Refusals.{Objection, objection, quiet, Owed}
use Rattle.reading.specs.Objections.{base_objection, check_objections}
use Rattle.pulses.specs.Row.{good_pulses, over_nine}
use Rattle.dcf77_table.specs.Table.{minutes, hours, days, months, years, tens_of_years, weekday, zone}
use Rattle.dcf77.specs.Zones.{zone_bad}
use Rattle.dcf77.specs.Forms.{last_of, due_long}
use Rattle.dcf77.specs.Reader.{is_long, table_for, says, reading_of, length_bad, odd, Answer}
use Rattle.dcf77.specs.Writer.{head_bad, not_carried, carry_fault, needed}

-- the marks s, where their groups say the values v and with this base name the reading r; "for a DCF77 length, the last place"
unfoldable pub said_objections : ℕ → List ℕ → List ℕ → Reading → List Objection
said_objections base s v r =
    objection (length_bad (length s)) 1 0
    ∷ base_objection base
    ∷ objection (ltb (good_pulses (table_for s) s) (length s)) 2 (good_pulses (table_for s) s)
    ∷ objection (over_nine v minutes) 3 21
    ∷ objection (over_nine v hours) 3 29
    ∷ objection (over_nine v days) 3 36
    ∷ objection (over_nine v months) 3 45
    ∷ objection (over_nine v years || over_nine v tens_of_years) 3 50
    ∷ objection (odd 21 28 s) 4 28
    ∷ objection (odd 29 35 s) 4 35
    ∷ objection (odd 36 58 s) 4 58
    ∷ objection (minute_bad r.minute) 15 21
    ∷ objection (hour_bad r.hour) 15 29
    ∷ objection (day_bad r) 16 36
    ∷ objection (eqb (get_or v weekday 0) 0) 16 42
    ∷ objection (month_bad r) 16 45
    ∷ objection (weekday_wrong r (get_or v weekday 0)) 6 42
    ∷ objection (zone_bad (get_or v zone 0)) 8 17
    ∷ objection (not (beq (is_long (length s)) (due_long r))) 9 (last_of (is_long (length s)))
    ∷ []

-- the marks of a minute
unfoldable pub read_objections : ℕ → List ℕ → List Objection
read_objections base s = said_objections base s (says s) (reading_of base (says s))

-- a reading with its head, and room for so many marks
unfoldable pub write_objections : ℕ → Reading → ℕ → ℕ → List Objection
write_objections base r h room =
    objection (ltb room (needed (carry_fault base r h) (due_long r))) 1 0
    ∷ base_objection base
    ∷ check_objections (time_bad r) (date_bad base r) (quality_bad r.quality || head_bad h) (not (offset_good r.offset.0)) (sixty_bad (utc_of r) r.second)
    ++ (objection (not_carried r) 11 0 ∷ [])

-- the codes that reader and writer can answer with
abbrev pub read_codes : List ℕ
read_codes = 1 ∷ 19 ∷ 2 ∷ 3 ∷ 4 ∷ 15 ∷ 16 ∷ 6 ∷ 8 ∷ 9 ∷ []

abbrev pub write_codes : List ℕ
write_codes = 1 ∷ 19 ∷ 15 ∷ 16 ∷ 17 ∷ 8 ∷ 9 ∷ 11 ∷ []

-- what is promised of an answer: where a time is told nothing is objected, and a refusal is the one to give
abbrev pub AnswerOwed : List Objection → List ℕ → Answer → Type 0
AnswerOwed objections codes (Ok (r, h)) = quiet objections ≡ true
AnswerOwed objections codes (Err x) = Owed objections codes x
