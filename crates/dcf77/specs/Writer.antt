-- The marks of a reading and its head, and what the writer refuses.
use Rattle.std.specs.Prelude.{Bool, true, false, not, ◌&&◌, ◌||◌, List, [], ◌∷◌, ℕ, ◌-◌, ◌/◌, ◌%◌, eqb, ltb, set, Err, Ok}
use Rattle.laws.specs.Tests.{same}
use Rattle.calendar.specs.Calendar.{weekday_of}
use Rattle.reading.specs.declared.Reading.{Reading}
use Rattle.reading.specs.declared.Fault.TheVariants.{Length, NotCarried}
use Rattle.reading.specs.Faults.{first, Verdict, no_fault}
use Rattle.reading.specs.Offset.{offset_good}
use Rattle.reading.specs.Universal.{date_of, utc_of}
use Rattle.reading.specs.Leap.{sixty_bad}
use Rattle.reading.specs.Checks.{on_base, time_bad, date_bad, quality_bad, first_fault}
use Rattle.reading.specs.Writing.{and_then}
use Rattle.pulses.specs.Row.{row, ones_of, bit}
use Rattle.dcf77_table.specs.Table.{minute_parity, hour_parity, date_parity, minute_marks}
use Rattle.dcf77.specs.Zones.{offset_in, zone_of}
use Rattle.dcf77.specs.Forms.{length_of, due_long, minute_place, minute_parity_place, hour_place, hour_parity_place, day_place, date_parity_place}

-- ---- the marks

-- what each group says, with the parity marks left 0: three fixed groups, head, change, zone, leap, then
-- minute, hour, day, weekday, month and year, the last digit before the tens
unfoldable pub plain_of : Reading → ℕ → List ℕ
plain_of r h =
    0 ∷ 0 ∷ 0 ∷ h ∷ bit r.change ∷ zone_of r.summer ∷ bit r.leap
    ∷ r.minute % 10 ∷ r.minute / 10 ∷ 0
    ∷ r.hour % 10 ∷ r.hour / 10 ∷ 0
    ∷ r.day % 10 ∷ r.day / 10 ∷ weekday_of (date_of r)
    ∷ r.month % 10 ∷ r.month / 10
    ∷ r.year % 10 ∷ r.year / 10 % 10 ∷ 0
    ∷ 0 ∷ 0 ∷ 0 ∷ 0 ∷ 0 ∷ 0 ∷ 0 ∷ 0 ∷ 0 ∷ 0 ∷ 0 ∷ []

-- the mark at place b that makes the ones from place a to b even in number
unfoldable pub evened : ℕ → ℕ → List ℕ → ℕ
evened a b s = ones_of a (b - a) s % 2

-- the values v with the parity marks for the marks s
unfoldable pub with_parity : List ℕ → List ℕ → List ℕ
with_parity v s =
    set (set (set v minute_parity (evened minute_place minute_parity_place s)) hour_parity (evened hour_place hour_parity_place s))
    date_parity
    (evened day_place date_parity_place s)

-- what each group says; both forms have the same marks up to the last parity
unfoldable pub values_of : Reading → ℕ → List ℕ
values_of r h = with_parity (plain_of r h) (row (minute_marks false) (plain_of r h))

-- the marks of the minute
unfoldable pub bytes_of : Reading → ℕ → List ℕ
bytes_of r h = row (minute_marks (due_long r)) (values_of r h)

-- ---- what is refused

-- "head over 32767"
unfoldable pub head_bad : ℕ → Bool
head_bad h = ltb 32767 h

-- the shared checks, with the base's before them and the head's beside the quality's
unfoldable pub checked_with : ℕ → Reading → ℕ → Verdict
checked_with base r h =
    on_base base
    (first_fault (time_bad r) (date_bad base r) (quality_bad r.quality || head_bad h) (not (offset_good r.offset.0)) (sixty_bad (utc_of r) r.second))

-- "second or quality not 0, or another zone than its two"
unfoldable pub not_carried : Reading → Bool
not_carried r = not (eqb r.second 0 && (eqb r.quality 0 && same r.offset.0 (offset_in r.summer)))

-- codes 19, 15, 16, 17, 8, 9 and 11
unfoldable pub carry_fault : ℕ → Reading → ℕ → Verdict
carry_fault base r h = and_then (checked_with base r h) (first (not_carried r) NotCarried no_fault)

-- the verdict is good
abbrev pub is_good : Verdict → Bool
is_good (Ok done) = true
is_good (Err fault) = false

-- "61 bytes where codes 2 to 11 let the reading through and the leap rule makes the minute long, and 60 otherwise"; among these are 15, 16
-- and 17, which by L5 stand in 5's position, and L12's 19
unfoldable pub needed : Verdict → Bool → ℕ
needed verdict long = length_of (is_good verdict && long)

-- a buffer of so many bytes is too short, before the verdict itself
unfoldable pub room_fault : Verdict → Bool → ℕ → Verdict
room_fault verdict long room = first (ltb room (needed verdict long)) Length verdict

-- the first fault of a reading, a head and a buffer of so many bytes
unfoldable pub write_fault : ℕ → Reading → ℕ → ℕ → Verdict
write_fault base r h room = room_fault (carry_fault base r h) (due_long r) room
