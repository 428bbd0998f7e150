-- Cases 6, 7 and 10 of document 01 with the offsets that L9 doubles, computed by the written definitions.
use Rattle.std.specs.Prelude.{Err, Ok}
use mathlib.Core.Bool.{true, false, cond}
use mathlib.Core.List.{[], ◌∷◌, map}
use mathlib.Core.Path.{◌≡◌, refl}
use Prim.Native.Nat.{ℕ}
use lib.IntN.{ℤ, pos, negsuc}
use lib.ListN.{set}
use Rattle.calendar.specs.Calendar.{
  leap_year,
  days_in,
  days_before,
  year_length,
  day_of_year,
  is_month,
  last_day,
  is_day,
  is_date,
  month_up_to,
  in_year,
  month_day,
}
use Rattle.laws.specs.Tests.{among}
use Rattle.reading.specs.declared.Reading.{Reading}
use Rattle.reading.specs.Faults.{number, no_fault}
use Rattle.reading.specs.Writing.{written_of, Written}
use Rattle.reading.specs.Years.{usual_base as base, in_hundred, year_of, is_base, first_year}
use Rattle.reading.specs.Offset.{west, east, offset_good, local_of}
use Rattle.reading.specs.Leap.{sixty_bad}
use Rattle.reading.specs.Checks.{time_bad, date_bad, checked_of, sound_of}
use Rattle.pulses.specs.Row.{group_of, weight_of, pulse_allowed, pulse_of, digit_of, pulse_for, row, good_pulses, share_of, sum_of, sums_of, up_to, ones_from}
use Rattle.irig_table.specs.Table.{frame_pulses}
use Rattle.irig_table.specs.Paper.{mark_due}
use Rattle.irig_table.proofs.WorkedFrame.{ones}
use Rattle.irig.specs.Offset.{odd_quarter}
use Rattle.irig.specs.Meaning.{
  second_in,
  minute_in,
  hour_in,
  day_in,
  digits_in,
  halves_in,
  added_in,
  year_in,
  month_day_in,
  reading_of,
  day_bad,
  second_of_day_wrong,
  offset_bad,
}
use Rattle.irig.specs.Faults.{frame_length, is_odd, fields_fault, values_fault, fault_in, read_frame, Answer}
use Rattle.irig.specs.Writing.{groups_of, values_of, parity_of, frame_of, carried_of, write_fault}
use Rattle.irig.proofs.CarriedLaws.{parts_carried}

-- 2024-02-29 12:34:56, no flags, quality 0, at an offset
abbrev pub at_offset : ℤ → Reading
at_offset z = record {
  year = 2024;
  month = 2;
  day = 29;
  hour = 12;
  minute = 34;
  second = 56;
  offset = record { 0 = z };
  summer = false;
  leap = false;
  change = false;
  quality = 0;
}

-- case 6: at offset +4, the ones stand where the paper says
abbrev pub case6 : Reading
case6 = at_offset (pos 4)

pub case_6 : frame_of case6 ≡ up_to (λ i. cond (mark_due i) 2 (cond (among i ones) 1 0)) frame_length
unfolding frame_of parity_of values_of groups_of day_of_year days_before days_in leap_year frame_pulses ones row pulse_for pulse_of digit_of group_of weight_of up_to ones_from
case_6 = refl

-- ---- which code the reader and the writer refuse by, 0 where they do not

abbrev pub read_code : Answer → ℕ
read_code (Ok r) = 0
read_code (Err x) = x.code

abbrev pub written_code : Written → ℕ
written_code (Ok n) = 0
written_code (Err x) = x.code

-- case 6; case 7: the same with pulse 84 cleared; case 10: 14 and 14 1/2 hours ahead of UTC, 12 and 12 1/2 behind it
pub cases_read :
    map (λ s. read_code (read_frame base s))
    (
    frame_of case6
    ∷ set (frame_of case6) 84 0
    ∷ frame_of (at_offset (pos 56)) ∷ frame_of (at_offset (pos 58))
    ∷ frame_of (at_offset (negsuc 47)) ∷ frame_of (at_offset (negsuc 49))
    ∷ []
    )
    ≡ 0 ∷ 7 ∷ 0 ∷ 8 ∷ 0 ∷ 8 ∷ []
unfolding number read_frame fault_in values_fault fields_fault is_odd reading_of year_in month_day_in second_in minute_in hour_in day_in digits_in halves_in added_in day_bad second_of_day_wrong offset_bad frame_of parity_of values_of groups_of good_pulses pulse_allowed sums_of sum_of share_of up_to row pulse_for pulse_of digit_of group_of weight_of frame_pulses ones_from day_of_year days_before days_in leap_year in_year year_length month_day month_up_to year_of west east offset_good local_of sixty_bad first_year is_base
cases_read = refl

-- "case 10's become +56 and -48 accepted, +57 and -49 refused"; "an odd quarter .. is 11": +1, -1, +23, +55 and -47
pub cases_written :
    map (λ z. written_code (written_of (write_fault base (at_offset z) frame_length) frame_length))
    (
    pos 4 ∷ pos 56 ∷ pos 57 ∷ negsuc 47 ∷ negsuc 48
    ∷ pos 1 ∷ negsuc 0 ∷ pos 23 ∷ pos 55 ∷ negsuc 46
    ∷ []
    )
    ≡ 0 ∷ 0 ∷ 8 ∷ 0 ∷ 8 ∷ 11 ∷ 11 ∷ 11 ∷ 11 ∷ 11 ∷ []
unfolding number write_fault carried_of odd_quarter checked_of time_bad date_bad in_hundred is_date is_month is_day last_day days_in leap_year offset_good west east sixty_bad first_year is_base sound_of
cases_written = refl

-- ---- a reading at any offset that one may have passes the checks, and at no odd quarter it is written and read

at_offset_checked : (z : ℤ) → offset_good z ≡ true → checked_of base (at_offset z) ≡ no_fault
unfolding checked_of time_bad date_bad in_hundred is_date is_month is_day last_day days_in leap_year sixty_bad first_year is_base sound_of
at_offset_checked z e = rw e

pub at_offset_carried : (z : ℤ) → offset_good z ≡ true → odd_quarter z ≡ false → carried_of base (at_offset z) ≡ no_fault
at_offset_carried z e f = parts_carried base (at_offset z) (at_offset_checked z e) f
