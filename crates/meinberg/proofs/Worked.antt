-- Cases 2 and 5 of the paper, what each letter says, and which of several faults is told: literal bytes and literal answers,
-- computed from the definitions.
use Rattle.std.specs.Prelude.{Err, Ok}
use mathlib.Core.Bool.{Bool, true, false}
use mathlib.Core.List.{List, [], ◌∷◌, map}
use mathlib.Core.Path.{◌≡◌, refl}
use Prim.Native.Nat.{ℕ}
use lib.IntN.{ℤ, pos}
use Rattle.calendar.specs.Calendar.{leap_year, days_in, days_before, year_length, days_before_year, day_of_year, day_number, weekday_of, is_month, last_day, is_day, is_date}
use Rattle.reading.specs.declared.Reading.{Reading}
use Rattle.reading.specs.Faults.{number}
use Rattle.reading.specs.Leap.{closes_with_leap, leap_minute, sixty_bad}
use Rattle.reading.specs.Offset.{west, east, offset_good}
use Rattle.reading.specs.Universal.{utc_minutes, on_day, utc_of}
use Rattle.reading.specs.Years.{usual_base as base, is_base, first_year, in_hundred, year_of}
use Rattle.reading.specs.Checks.{time_bad, date_bad, sound_of, checked_of, day_bad, month_bad, weekday_wrong}
use Rattle.reading.specs.Stamps.{has_stamp, count_of, count_zero, stamp_number, stamp_is, stamp_at, stamp_of}
use Rattle.wire.specs.Digits.{digit, pair}
use Rattle.wire.specs.Layout.{packed, exactly, from, either, one_of, within, beside, allowed, good_places}
use Rattle.strings.specs.Checks.{weekday_bad, fault_of, Answer}
use Rattle.meinberg.specs.Layout.{layout}
use Rattle.meinberg.specs.Zones.{offset_of, summer_of}
use Rattle.meinberg.specs.Meaning.{quality_of, coasting_in, meaning, fault_in, read_meinberg}

-- `D:31.12.16;T:6;U:23.59.60;  UA`
abbrev pub leap_second : List ℕ
leap_second =
    2
    ∷ 68 ∷ 58 ∷ 51 ∷ 49 ∷ 46 ∷ 49 ∷ 50 ∷ 46 ∷ 49 ∷ 54 ∷ 59
    ∷ 84 ∷ 58 ∷ 54 ∷ 59
    ∷ 85 ∷ 58 ∷ 50 ∷ 51 ∷ 46 ∷ 53 ∷ 57 ∷ 46 ∷ 54 ∷ 48 ∷ 59
    ∷ 32 ∷ 32 ∷ 85 ∷ 65
    ∷ 3
    ∷ []

-- `D:29.02.24;T:w;U:12.34.56;uvxy`
abbrev string : ℕ → ℕ → ℕ → ℕ → ℕ → List ℕ
string w u v x y =
    2
    ∷ 68 ∷ 58 ∷ 50 ∷ 57 ∷ 46 ∷ 48 ∷ 50 ∷ 46 ∷ 50 ∷ 52 ∷ 59
    ∷ 84 ∷ 58 ∷ w ∷ 59
    ∷ 85 ∷ 58 ∷ 49 ∷ 50 ∷ 46 ∷ 51 ∷ 52 ∷ 46 ∷ 53 ∷ 54 ∷ 59
    ∷ u ∷ v ∷ x ∷ y
    ∷ 3
    ∷ []

-- `D:29.02.24;T:4;U:12.34.56;    `
abbrev pub leap_day : List ℕ
leap_day = string 52 32 32 32 32

-- `D:29.02.23;T:3;U:12.34.56;    `
abbrev pub no_such_day : List ℕ
no_such_day =
    2
    ∷ 68 ∷ 58 ∷ 50 ∷ 57 ∷ 46 ∷ 48 ∷ 50 ∷ 46 ∷ 50 ∷ 51 ∷ 59
    ∷ 84 ∷ 58 ∷ 51 ∷ 59
    ∷ 85 ∷ 58 ∷ 49 ∷ 50 ∷ 46 ∷ 51 ∷ 52 ∷ 46 ∷ 53 ∷ 54 ∷ 59
    ∷ 32 ∷ 32 ∷ 32 ∷ 32
    ∷ 3
    ∷ []

-- UTC 2016-12-31 23:59:60, a leap second announced
abbrev pub at_leap_second : Reading
at_leap_second =
    record {
      year = 2016;
      month = 12;
      day = 31;
      hour = 23;
      minute = 59;
      second = 60;
      offset = record { 0 = pos 0 };
      summer = false;
      leap = true;
      change = false;
      quality = 0;
    }

-- 2024-02-29 12:34:56 at an offset, with a summer flag, a leap second or a change announced, and a quality
abbrev on_leap_day : ℤ → Bool → Bool → Bool → ℕ → Reading
on_leap_day offset summer leap change quality =
    record {
      year = 2024;
      month = 2;
      day = 29;
      hour = 12;
      minute = 34;
      second = 56;
      offset = record { 0 = offset };
      summer = summer;
      leap = leap;
      change = change;
      quality = quality;
    }

abbrev refused : ℕ → ℕ → Answer
refused code place = Err (record { code = code; place = place })

-- case 2; case 5: "29.02.24 is weekday 4. 29.02.23: code 5", which by L5 is 16 at the day
pub worked :
    map (read_meinberg base) (leap_second ∷ leap_day ∷ no_such_day ∷ [])
    ≡ Ok (at_leap_second, false) ∷ Ok ((on_leap_day (pos 4) false false false 0), false) ∷ refused 16 3 ∷ []
unfolding read_meinberg fault_in meaning coasting_in quality_of offset_of summer_of
    layout packed exactly from either one_of within beside allowed good_places digit pair
    fault_of day_bad month_bad weekday_bad weekday_wrong number year_of
    leap_year days_in days_before year_length days_before_year day_of_year day_number weekday_of is_month last_day is_day is_date
    closes_with_leap leap_minute sixty_bad west east utc_minutes on_day utc_of first_year is_base
worked = refl

-- "x is `U` (offset 0), space (offset +2 half hours) or `S` (+4, summer)" with offsets that L9 doubles, "u is `#` (quality 15) or space
-- (0)", "v is `*` (coasting) or space", "y is `!`, `A` or space"; weekday 0, 8 or 9 is code 16, another than the date's is 6, and `%` is
-- no u
pub worked_letters :
    (map (read_meinberg base) (
    string 52 32 32 85 32 ∷ string 52 32 32 32 32 ∷ string 52 32 32 83 32
    ∷ string 52 35 32 32 32 ∷ string 52 32 42 32 32 ∷ string 52 32 32 32 33 ∷ string 52 32 32 32 65 ∷ [])
    ≡ Ok ((on_leap_day (pos 0) false false false 0), false) ∷ Ok ((on_leap_day (pos 4) false false false 0), false) ∷ Ok ((on_leap_day (pos 8) true false false 0), false)
    ∷ Ok ((on_leap_day (pos 4) false false false 15), false) ∷ Ok ((on_leap_day (pos 4) false false false 0), true)
    ∷ Ok ((on_leap_day (pos 4) false false true 0), false) ∷ Ok ((on_leap_day (pos 4) false true false 0), false) ∷ [])
    × (map (read_meinberg base) (string 48 32 32 32 32 ∷ string 56 32 32 32 32 ∷ string 57 32 32 32 32 ∷ string 51 32 32 32 32 ∷ string 52 37 32 32 32 ∷ [])
    ≡ refused 16 14 ∷ refused 16 14 ∷ refused 16 14 ∷ refused 6 14 ∷ refused 2 27 ∷ [])
unfolding read_meinberg fault_in meaning coasting_in quality_of offset_of summer_of
    layout packed exactly from either one_of within beside allowed good_places digit pair
    fault_of day_bad month_bad weekday_bad weekday_wrong number year_of
    leap_year days_in days_before year_length days_before_year day_of_year day_number weekday_of is_month last_day is_day is_date
    closes_with_leap leap_minute sixty_bad west east utc_minutes on_day utc_of first_year is_base
worked_letters = (refl, refl)

-- "stamp 536550209"
pub worked_stamp : stamp_of base at_leap_second ≡ stamp_is (pos 536550209)
unfolding stamp_of stamp_at stamp_number has_stamp checked_of time_bad date_bad in_hundred offset_good
    leap_year days_in days_before year_length days_before_year day_of_year day_number is_month last_day is_day is_date
    closes_with_leap leap_minute sixty_bad west east utc_minutes on_day utc_of first_year is_base sound_of count_of count_zero
worked_stamp = refl
