-- Case 8 of the paper, the long minute before the leap second of 2016, and its neighbour an hour later, computed from the definitions.
use Rattle.reading.specs.Faults.{no_fault}
use Rattle.std.specs.Prelude.{Ok}
use mathlib.Core.Bool.{Bool, true, false, cond}
use mathlib.Core.List.{List, [], ◌∷◌}
use mathlib.Core.Path.{◌≡◌, refl, subst}
use Prim.Native.Nat.{ℕ}
use lib.Dec.{eqb}
use lib.IntN.{pos}
use Rattle.laws.specs.Tests.{among}
use Rattle.calendar.specs.Calendar.{leap_year, days_in, days_before, year_length, days_before_year, day_of_year, day_number, weekday_of, is_month, last_day, is_day, is_date, day_before}
use Rattle.reading.specs.declared.Reading.{Reading}
use Rattle.reading.specs.Years.{usual_base as base, in_hundred, is_base, first_year}
use Rattle.reading.specs.Offset.{west, east, offset_good}
use Rattle.reading.specs.Universal.{utc_minutes, on_day, utc_of}
use Rattle.reading.specs.Leap.{closes_with_leap, sixty_bad, after_leap}
use Rattle.reading.specs.Checks.{time_bad, date_bad}
use Rattle.pulses.specs.Row.{up_to, row, pulse_for, pulse_of, digit_of, group_of, weight_of, ones_from, lies_within, ones_of}
use Rattle.dcf77_table.specs.Table.{shared_marks, last_marks, minute_marks}
use Rattle.dcf77.specs.Zones.{offset_in, zone_of}
use Rattle.dcf77.specs.Forms.{due_long}
use Rattle.dcf77.specs.Reader.{read_dcf77}
use Rattle.dcf77.specs.Writer.{plain_of, evened, with_parity, values_of, bytes_of, head_bad, checked_with, not_carried, carry_fault}
use Rattle.dcf77.proofs.RoundTrip.{bytes_read}

-- a row of so many marks, with ones at the places given and a 2 at its last place
pub marks_with : ℕ → ℕ → List ℕ → List ℕ
marks_with n last ones = up_to (λ i. cond (eqb i last) 2 (cond (among i ones) 1 0)) n

-- local time in winter, on a full minute
pub winter : ℕ → ℕ → ℕ → ℕ → ℕ → Bool → Reading
winter y m d h n announced =
    record {
      year = y;
      month = m;
      day = d;
      hour = h;
      minute = n;
      second = 0;
      offset = record { 0 = pos 4 };
      summer = false;
      leap = announced;
      change = false;
      quality = 0;
    }

-- ---- case 8

-- 2024-02-29 12:34, an hour ahead of UTC
pub case_8 : Reading
case_8 = winter 2024 2 29 12 34 false

pub ones_8 : List ℕ
ones_8 = 18 ∷ 20 ∷ 23 ∷ 25 ∷ 26 ∷ 28 ∷ 30 ∷ 33 ∷ 36 ∷ 39 ∷ 41 ∷ 44 ∷ 46 ∷ 52 ∷ 55 ∷ 58 ∷ []

pub case_8_marks : bytes_of case_8 0 ≡ marks_with 60 59 ones_8
unfolding case_8 ones_8 winter marks_with up_to bytes_of values_of with_parity plain_of evened ones_of lies_within ones_from row pulse_for pulse_of digit_of group_of weight_of minute_marks shared_marks last_marks due_long zone_of weekday_of day_number day_of_year days_before_year days_before days_in year_length leap_year
case_8_marks = refl

carried_8 : carry_fault base case_8 0 ≡ no_fault
unfolding case_8 winter carry_fault checked_with not_carried head_bad time_bad date_bad in_hundred is_date is_month is_day last_day days_in leap_year offset_good offset_in west east sixty_bad first_year is_base
carried_8 = refl

pub case_8_read : read_dcf77 base (marks_with 60 59 ones_8) ≡ Ok (case_8, 0)
case_8_read = subst (λ (s : List ℕ). read_dcf77 base s ≡ Ok (case_8, 0)) case_8_marks (bytes_read base case_8 0 carried_8)

-- ---- the minute before 2017-01-01 00:00 UTC, with the leap second announced

pub new_year_lem : Reading
new_year_lem = winter 2017 1 1 1 0 true

pub new_year_ones : List ℕ
new_year_ones = 18 ∷ 19 ∷ 20 ∷ 29 ∷ 35 ∷ 36 ∷ 42 ∷ 43 ∷ 44 ∷ 45 ∷ 50 ∷ 51 ∷ 52 ∷ 54 ∷ 58 ∷ []

pub new_year_marks : bytes_of new_year_lem 0 ≡ marks_with 61 60 new_year_ones
unfolding new_year_lem new_year_ones winter marks_with up_to bytes_of values_of with_parity plain_of evened ones_of lies_within ones_from row pulse_for pulse_of digit_of group_of weight_of minute_marks shared_marks last_marks due_long after_leap closes_with_leap day_before utc_of utc_minutes on_day west east zone_of weekday_of day_number day_of_year days_before_year days_before days_in year_length leap_year
new_year_marks = refl

carried_new_year : carry_fault base new_year_lem 0 ≡ no_fault
unfolding new_year_lem winter carry_fault checked_with not_carried head_bad time_bad date_bad in_hundred is_date is_month is_day last_day days_in leap_year offset_good offset_in west east sixty_bad first_year is_base
carried_new_year = refl

pub new_year_read : read_dcf77 base (marks_with 61 60 new_year_ones) ≡ Ok (new_year_lem, 0)
new_year_read =
    subst (λ (s : List ℕ). read_dcf77 base s ≡ Ok (new_year_lem, 0)) new_year_marks (bytes_read base new_year_lem 0 carried_new_year)

-- an hour later the leap second is still announced, and the minute has 60 marks
pub hour_later : due_long (winter 2017 1 1 2 0 true) ≡ false
unfolding winter due_long after_leap utc_of utc_minutes on_day west east
hour_later = refl
