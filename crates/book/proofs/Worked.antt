-- Books whose records and stamps are computed from the definitions, every byte and number written out: the paper's own case, a
-- book with a body of each kind, and one that ends a byte before its body is whole.
use mathlib.Core.Bool.{Bool, true, false}
use mathlib.Core.List.{List, [], ◌∷◌, ◌++◌, map}
use mathlib.Core.Path.{◌≡◌, refl}
use Prim.Native.Nat.{ℕ}
use lib.IntN.{ℤ, pos, negsuc}
use Rattle.calendar.specs.Calendar.{leap_year, days_in, days_before, year_length, days_before_year, day_of_year, day_number, weekday_of, is_month, last_day, is_day, is_date, day_before, day_after, year_after, month_up_to, in_year, month_day}
use Rattle.reading.specs.declared.Reading.{Reading}
use Rattle.reading.specs.declared.Refusal.{Refusal}
use Rattle.reading.specs.declared.Since2000.{Since2000}
use Rattle.reading.specs.Faults.{number}
use Rattle.reading.specs.Offset.{west, east, offset_good, local_of}
use Rattle.reading.specs.Years.{usual_base as base, is_base, first_year, in_hundred, year_of}
use Rattle.reading.specs.Universal.{utc_minutes, on_day, utc_of}
use Rattle.reading.specs.Leap.{closes_with_leap, leap_minute, sixty_bad, after_leap}
use Rattle.reading.specs.Checks.{time_bad, date_bad, checked_of, day_bad, month_bad, weekday_wrong, sound_of}
use Rattle.reading.specs.Stamps.{has_stamp, stamp_number, stamp_at, stamp_of, count_of, count_zero}
use Rattle.wire.specs.Digits.{digit, pair}
use Rattle.wire.specs.Layout.{packed, exactly, from, either, one_of, within, beside, allowed, good_places}
use Rattle.strings.specs.Checks.{weekday_bad, fault_of}
use Rattle.meinberg.specs.Layout.{layout as meinbergLayout}
use Rattle.meinberg.specs.Zones.{offset_of as zoneOffset, summer_of}
use Rattle.meinberg.specs.Meaning.{quality_of, coasting_in, meaning, fault_in as meinbergFault, read_meinberg}
use Rattle.erlangen.specs.Layout.{layout as erlangenLayout}
use Rattle.erlangen.specs.Offset.{whole_units, units_of, too_far, offset_bad as erlangenOffsetBad, signed, offset_of as erlangenOffset}
use Rattle.erlangen.specs.Meaning.{shows, weekday_said, coasting_said, offset_wrong, mark_wrong, reading_of as erlangenReading, fault_in as erlangenFault, read_erlangen}
use Rattle.clock_string.specs.Reader.{read_string}
use Rattle.pulses.specs.Row.{group_of, weight_of, pulse_allowed, good_pulses, share_of, sum_of, sums_of, up_to, ones_from, lies_within, ones_of}
use Rattle.irig_table.specs.Table.{frame_pulses}
use Rattle.irig.specs.Meaning.{second_in, minute_in, hour_in, day_in, digits_in, halves_in, added_in, year_in, month_day_in, reading_of as frameReading, day_bad as frameDayBad, second_of_day_wrong, offset_bad as frameOffsetBad}
use Rattle.irig.specs.Faults.{is_odd, fields_fault, values_fault, fault_in as frameFault, read_frame}
use Rattle.dcf77_table.specs.Table.{shared_marks, last_marks, minute_marks}
use Rattle.dcf77.specs.Zones.{offset_in, zone_of, zone_bad}
use Rattle.dcf77.specs.Forms.{last_of, due_long}
use Rattle.dcf77.specs.Reader.{is_long, table_for, says, reading_of as minuteReading, length_bad, digit_fault, odd, parity_fault, field_fault, rule_fault, said_fault, read_fault, read_dcf77}
use Rattle.book.specs.Body.{body_length, read_body, accepted, refused}
use Rattle.book.specs.Book.{standing_at, next_at, records_from, records}
use Rattle.book.specs.Stamps.{stamping_of, stamped, unstamped}

-- ---- the readings

-- a local date and time, an offset in quarter hours east of UTC, leap announced; no other flag, quality 0
abbrev at : ℕ → ℕ → ℕ → ℕ → ℕ → ℕ → ℕ → Bool → Reading
at y mo d h mi s east leap =
    record {
      year = y;
      month = mo;
      day = d;
      hour = h;
      minute = mi;
      second = s;
      offset = record { 0 = pos east };
      summer = false;
      leap = leap;
      change = false;
      quality = 0;
    }

-- cases 2, 9, 6 and 8, and the minute after case 2
abbrev pub reading2 : Reading
reading2 = at 2016 12 31 23 59 60 0 true

abbrev pub reading9 : Reading
reading9 = at 2000 1 1 0 30 0 4 false

abbrev pub reading6 : Reading
reading6 = at 2024 2 29 12 34 56 4 false

abbrev pub reading8 : Reading
reading8 = at 2024 2 29 12 34 0 4 false

abbrev pub new_year : Reading
new_year = at 2017 1 1 1 0 0 4 true

-- 1990-01-01 00:30:00 an hour east, which by UTC is of 1989
abbrev before1990 : Reading
before1990 = at 1990 1 1 0 30 0 4 false

abbrev since : ℤ → Since2000
since z = record { 0 = z }

abbrev refusal : ℕ → ℕ → Refusal
refusal code place = record { code = code; place = place }

-- ---- the bodies

-- STX `D:31.12.16;T:6;U:23.59.60;  UA` ETX
abbrev string2 : List ℕ
string2 =
    2 ∷ 68 ∷ 58 ∷ 51 ∷ 49 ∷ 46 ∷ 49 ∷ 50 ∷ 46 ∷ 49 ∷ 54 ∷ 59 ∷ 84 ∷ 58 ∷ 54 ∷ 59
    ∷ 85 ∷ 58 ∷ 50 ∷ 51 ∷ 46 ∷ 53 ∷ 57 ∷ 46 ∷ 54 ∷ 48 ∷ 59 ∷ 32 ∷ 32 ∷ 85 ∷ 65 ∷ 3
    ∷ []

-- STX `D:01.01.00;T:6;U:00.30.00;    ` ETX
abbrev string9 : List ℕ
string9 =
    2 ∷ 68 ∷ 58 ∷ 48 ∷ 49 ∷ 46 ∷ 48 ∷ 49 ∷ 46 ∷ 48 ∷ 48 ∷ 59 ∷ 84 ∷ 58 ∷ 54 ∷ 59
    ∷ 85 ∷ 58 ∷ 48 ∷ 48 ∷ 46 ∷ 51 ∷ 48 ∷ 46 ∷ 48 ∷ 48 ∷ 59 ∷ 32 ∷ 32 ∷ 32 ∷ 32 ∷ 3
    ∷ []

-- STX `29.02.24; 4; 12:34:56; +01:00;        ; `, 26 spaces, ETX
abbrev erlangen6 : List ℕ
erlangen6 =
    2 ∷ 50 ∷ 57 ∷ 46 ∷ 48 ∷ 50 ∷ 46 ∷ 50 ∷ 52 ∷ 59 ∷ 32 ∷ 52 ∷ 59 ∷ 32 ∷ 49 ∷ 50 ∷ 58
    ∷ 51 ∷ 52 ∷ 58 ∷ 53 ∷ 54 ∷ 59 ∷ 32 ∷ 43 ∷ 48 ∷ 49 ∷ 58 ∷ 48 ∷ 48 ∷ 59 ∷ 32 ∷ 32 ∷ 32
    ∷ 32 ∷ 32 ∷ 32 ∷ 32 ∷ 32 ∷ 59 ∷ 32 ∷ 32 ∷ 32 ∷ 32 ∷ 32 ∷ 32 ∷ 32 ∷ 32 ∷ 32 ∷ 32 ∷ 32
    ∷ 32 ∷ 32 ∷ 32 ∷ 32 ∷ 32 ∷ 32 ∷ 32 ∷ 32 ∷ 32 ∷ 32 ∷ 32 ∷ 32 ∷ 32 ∷ 32 ∷ 32 ∷ 32 ∷ 3
    ∷ []

-- the IEEE 1344 frame of case 6: "ones at 2 3 6 8 12 15 16 21 25 36 37 52 56 64 65 75 84 85 86 87 93 94 96"
abbrev frame6 : List ℕ
frame6 =
    2 ∷ 0 ∷ 1 ∷ 1 ∷ 0 ∷ 0 ∷ 1 ∷ 0 ∷ 1 ∷ 2
    ∷ 0 ∷ 0 ∷ 1 ∷ 0 ∷ 0 ∷ 1 ∷ 1 ∷ 0 ∷ 0 ∷ 2
    ∷ 0 ∷ 1 ∷ 0 ∷ 0 ∷ 0 ∷ 1 ∷ 0 ∷ 0 ∷ 0 ∷ 2
    ∷ 0 ∷ 0 ∷ 0 ∷ 0 ∷ 0 ∷ 0 ∷ 1 ∷ 1 ∷ 0 ∷ 2
    ∷ 0 ∷ 0 ∷ 0 ∷ 0 ∷ 0 ∷ 0 ∷ 0 ∷ 0 ∷ 0 ∷ 2
    ∷ 0 ∷ 0 ∷ 1 ∷ 0 ∷ 0 ∷ 0 ∷ 1 ∷ 0 ∷ 0 ∷ 2
    ∷ 0 ∷ 0 ∷ 0 ∷ 0 ∷ 1 ∷ 1 ∷ 0 ∷ 0 ∷ 0 ∷ 2
    ∷ 0 ∷ 0 ∷ 0 ∷ 0 ∷ 0 ∷ 1 ∷ 0 ∷ 0 ∷ 0 ∷ 2
    ∷ 0 ∷ 0 ∷ 0 ∷ 0 ∷ 1 ∷ 1 ∷ 1 ∷ 1 ∷ 0 ∷ 2
    ∷ 0 ∷ 0 ∷ 0 ∷ 1 ∷ 1 ∷ 0 ∷ 1 ∷ 0 ∷ 0 ∷ 2
    ∷ []

-- the DCF77 minute of case 8: "ones at 18 20 23 25 26 28 30 33 36 39 41 44 46 52 55 58, 2 at 59"
abbrev minute8 : List ℕ
minute8 =
    0 ∷ 0 ∷ 0 ∷ 0 ∷ 0 ∷ 0 ∷ 0 ∷ 0 ∷ 0 ∷ 0
    ∷ 0 ∷ 0 ∷ 0 ∷ 0 ∷ 0 ∷ 0 ∷ 0 ∷ 0 ∷ 1 ∷ 0
    ∷ 1 ∷ 0 ∷ 0 ∷ 1 ∷ 0 ∷ 1 ∷ 1 ∷ 0 ∷ 1 ∷ 0
    ∷ 1 ∷ 0 ∷ 0 ∷ 1 ∷ 0 ∷ 0 ∷ 1 ∷ 0 ∷ 0 ∷ 1
    ∷ 0 ∷ 1 ∷ 0 ∷ 0 ∷ 1 ∷ 0 ∷ 1 ∷ 0 ∷ 0 ∷ 0
    ∷ 0 ∷ 0 ∷ 1 ∷ 0 ∷ 0 ∷ 1 ∷ 0 ∷ 0 ∷ 1 ∷ 2
    ∷ []

-- the minute before 2017-01-01 00:00 UTC, which ends with the leap second of case 2: 61 marks
abbrev long_minute : List ℕ
long_minute =
    0 ∷ 0 ∷ 0 ∷ 0 ∷ 0 ∷ 0 ∷ 0 ∷ 0 ∷ 0 ∷ 0
    ∷ 0 ∷ 0 ∷ 0 ∷ 0 ∷ 0 ∷ 0 ∷ 0 ∷ 0 ∷ 1 ∷ 1
    ∷ 1 ∷ 0 ∷ 0 ∷ 0 ∷ 0 ∷ 0 ∷ 0 ∷ 0 ∷ 0 ∷ 1
    ∷ 0 ∷ 0 ∷ 0 ∷ 0 ∷ 0 ∷ 1 ∷ 1 ∷ 0 ∷ 0 ∷ 0
    ∷ 0 ∷ 0 ∷ 1 ∷ 1 ∷ 1 ∷ 1 ∷ 0 ∷ 0 ∷ 0 ∷ 0
    ∷ 1 ∷ 1 ∷ 1 ∷ 0 ∷ 1 ∷ 0 ∷ 0 ∷ 0 ∷ 1 ∷ 0
    ∷ 2
    ∷ []

-- ---- the books

-- "the 32-byte string of case 2 after a byte 1, then a byte 9"
abbrev pub case_book : List ℕ
case_book = 1 ∷ string2 ++ (9 ∷ [])

-- a body of each kind
abbrev pub kinds_book : List ℕ
kinds_book = 1 ∷ string9 ++ (2 ∷ erlangen6) ++ (3 ∷ frame6) ++ (4 ∷ minute8) ++ (5 ∷ long_minute)

-- 60 marks where the kind asks for 61
abbrev pub short_book : List ℕ
short_book = 5 ∷ minute8

-- ---- what is answered

-- "1 Meinberg 32, 2 Uni Erlangen 68, 3 IEEE 1344 100, 4 DCF77 60, 5 DCF77 61", and no other kind
pub worked_lengths : map body_length (0 ∷ 1 ∷ 2 ∷ 3 ∷ 4 ∷ 5 ∷ 6 ∷ 255 ∷ []) ≡ 0 ∷ 32 ∷ 68 ∷ 100 ∷ 60 ∷ 61 ∷ 0 ∷ 0 ∷ []
unfolding body_length
worked_lengths = refl

pub worked_books :
    (records base case_book ≡ record { place = 0; found = accepted 1 reading2 } ∷ record { place = 33; found = refused 9 (refusal 14 0) } ∷ [])
    × (records base kinds_book
    ≡ record { place = 0; found = accepted 1 reading9 }
    ∷ record { place = 33; found = accepted 2 reading6 }
    ∷ record { place = 102; found = accepted 3 reading6 }
    ∷ record { place = 203; found = accepted 4 reading8 }
    ∷ record { place = 264; found = accepted 5 new_year }
    ∷ [])
    × (records base short_book ≡ record { place = 0; found = refused 5 (refusal 13 0) } ∷ [])
unfolding records_from standing_at next_at body_length read_body number
    year_of west east offset_good local_of utc_minutes on_day utc_of closes_with_leap leap_minute sixty_bad after_leap
    leap_year days_in days_before year_length days_before_year day_of_year day_number weekday_of is_month last_day is_day day_before day_after year_after month_up_to in_year month_day
    digit pair packed exactly from either one_of within beside allowed good_places day_bad month_bad weekday_bad weekday_wrong fault_of
    meinbergLayout zoneOffset summer_of quality_of coasting_in meaning meinbergFault read_meinberg
    erlangenLayout whole_units units_of too_far erlangenOffsetBad signed erlangenOffset shows weekday_said coasting_said offset_wrong mark_wrong erlangenReading erlangenFault read_erlangen read_string
    group_of weight_of pulse_allowed good_pulses share_of sum_of sums_of up_to ones_from lies_within ones_of
    frame_pulses second_in minute_in hour_in day_in digits_in halves_in added_in year_in month_day_in frameReading frameDayBad second_of_day_wrong frameOffsetBad is_odd fields_fault values_fault frameFault read_frame
    shared_marks last_marks minute_marks offset_in zone_of zone_bad last_of due_long is_long table_for says minuteReading length_bad digit_fault odd parity_fault field_fault rule_fault said_fault read_fault read_dcf77 first_year is_base
worked_books = (refl, refl, refl)

-- case 9 is "accepted, its stamp is code 12", which by L12 "is now -1801"; with the base 1990 the first half hour of 1990 is 12
pub worked_stamps :
    (stamping_of base (accepted 1 reading2) ≡ stamped 1 (since (pos 536550209)))
    × (stamping_of base (accepted 1 reading9) ≡ stamped 1 (since (negsuc 1800)))
    × (stamping_of base (accepted 2 reading6) ≡ stamped 2 (since (pos 762530521)))
    × (stamping_of base (accepted 3 reading6) ≡ stamped 3 (since (pos 762530521)))
    × (stamping_of base (accepted 4 reading8) ≡ stamped 4 (since (pos 762530465)))
    × (stamping_of base (accepted 5 new_year) ≡ stamped 5 (since (pos 536550210)))
    × (stamping_of 1990 (accepted 1 before1990) ≡ unstamped 1 (refusal 12 0))
unfolding stamp_of stamp_at stamp_number has_stamp checked_of time_bad date_bad in_hundred offset_good number
    leap_year days_in days_before year_length days_before_year day_of_year day_number is_month last_day is_day is_date day_before
    closes_with_leap leap_minute sixty_bad west east utc_minutes on_day utc_of first_year is_base sound_of count_of count_zero
worked_stamps = (refl, refl, refl, refl, refl, refl, refl)
