-- What the values of a frame without a fault say: each check's fact, and back.
use Rattle.reading.specs.Faults.{no_fault}
use mathlib.Core.Path.{◌≡◌}
use mathlib.Core.Bool.{Bool, true, false, not, ◌&&◌, ◌||◌}
use mathlib.Core.List.{List}
use Prim.Native.Nat.{ℕ, ◌≤◌}
use lib.Dec.{eqb}
use borrow.Author.Tests.{not-false, ltb-false, le-ltb, eqb-true, eq-eqb}
use Rattle.laws.proofs.Bools.{neither}
use Rattle.calendar.specs.Calendar.{leap_year, in_year}
use Rattle.reading.specs.Offset.{offset_good, local_of}
use Rattle.reading.specs.Universal.{utc_of}
use Rattle.reading.specs.Leap.{sixty_bad}
use Rattle.reading.specs.Checks.{hour_bad, minute_bad, second_bad}
use Rattle.reading.proofs.CheckLaws.{first_good}
use Rattle.pulses.specs.Row.{over_nine}
use Rattle.irig_table.specs.Table.{seconds, minutes, hours, days, tens_of_days, years, tens_of_years, deletion, minus, second_of_day}
use Rattle.irig.specs.Meaning.{
  said,
  is_set,
  second_in,
  minute_in,
  hour_in,
  day_in,
  halves_in,
  added_in,
  year_in,
  reading_of,
  day_bad,
  second_of_day_at,
  second_of_day_wrong,
  offset_bad,
}
use Rattle.irig.specs.Faults.{fields_fault, values_fault}

pub record Digits (v : List ℕ) : Type 0 where
  pub second : said v seconds ≤ 9
  pub minute : said v minutes ≤ 9
  pub hour : said v hours ≤ 9
  pub day : said v days ≤ 9
  pub tens_of_day : said v tens_of_days ≤ 9
  pub year : said v years ≤ 9
  pub tens_of_year : said v tens_of_years ≤ 9

pub record Sound (base : ℕ) (v : List ℕ) : Type 0 where
  pub second : second_in v ≤ 60
  pub minute : minute_in v ≤ 59
  pub hour : hour_in v ≤ 23
  pub day : in_year (leap_year (year_in base v)) (day_in v) ≡ true
  pub second_of_day : said v second_of_day ≡ second_of_day_at (hour_in v) (minute_in v) (second_in v)
  pub sign : (is_set v minus && eqb (halves_in v) 0) ≡ false
  pub offset : offset_good (local_of (added_in v)) ≡ true
  pub leap : sixty_bad (utc_of (reading_of base v)) (second_in v) ≡ false
  pub insertion : is_set v deletion ≡ false

module _ (base : ℕ) (v : List ℕ) where
  fields_sound : fields_fault base v ≡ no_fault → Sound base v
  unfolding fields_fault day_bad second_of_day_wrong offset_bad
  fields_sound e =
      let second = first_good (second_bad (second_in v)) _ _ e in
      let minute = first_good (minute_bad (minute_in v)) _ _ second.1 in
      let hour = first_good (hour_bad (hour_in v)) _ _ minute.1 in
      let day = first_good (day_bad base v) _ _ hour.1 in
      let ofday = first_good (second_of_day_wrong v) _ _ day.1 in
      let offset = first_good (offset_bad v) _ _ ofday.1 in
      let leap = first_good (sixty_bad (utc_of (reading_of base v)) (second_in v)) _ _ offset.1 in
      let deleted = first_good (is_set v deletion) _ _ leap.1 in
      let eight = neither (is_set v minus && eqb (halves_in v) 0) (not (offset_good (local_of (added_in v)))) offset.0 in
      record {
        second = ltb-false 60 (second_in v) second.0;
        minute = ltb-false 59 (minute_in v) minute.0;
        hour = ltb-false 23 (hour_in v) hour.0;
        day = not-false (in_year (leap_year (year_in base v)) (day_in v)) day.0;
        second_of_day = eqb-true _ _ (not-false _ ofday.0);
        sign = eight.0;
        offset = not-false _ eight.1;
        leap = leap.0;
        insertion = deleted.0;
      }

  sound_fields : Sound base v → fields_fault base v ≡ no_fault
  unfolding fields_fault day_bad second_of_day_wrong offset_bad
  sound_fields s =
      rw (
        le-ltb 60 (second_in v) s.second,
        le-ltb 59 (minute_in v) s.minute,
        le-ltb 23 (hour_in v) s.hour,
        s.day,
        eq-eqb (said v second_of_day) (second_of_day_at (hour_in v) (minute_in v) (second_in v)) s.second_of_day,
        s.sign,
        s.offset,
        s.leap,
        s.insertion,
      )

  module _ (odd : Bool) where
    pub values-sound : values_fault base v odd ≡ no_fault → Digits v × (odd ≡ false) × Sound base v
    unfolding values_fault
    values-sound e =
        let second = first_good (over_nine v seconds) _ _ e in
        let minute = first_good (over_nine v minutes) _ _ second.1 in
        let hour = first_good (over_nine v hours) _ _ minute.1 in
        let day = first_good (over_nine v days || over_nine v tens_of_days) _ _ hour.1 in
        let year = first_good (over_nine v years || over_nine v tens_of_years) _ _ day.1 in
        let even = first_good odd _ _ year.1 in
        let two = neither (over_nine v days) (over_nine v tens_of_days) day.0 in
        let last = neither (over_nine v years) (over_nine v tens_of_years) year.0 in (
          record {
            second = ltb-false 9 _ second.0;
            minute = ltb-false 9 _ minute.0;
            hour = ltb-false 9 _ hour.0;
            day = ltb-false 9 _ two.0;
            tens_of_day = ltb-false 9 _ two.1;
            year = ltb-false 9 _ last.0;
            tens_of_year = ltb-false 9 _ last.1;
          },
          even.0,
          fields_sound even.1,
        )

    pub sound-values : Digits v → odd ≡ false → Sound base v → values_fault base v odd ≡ no_fault
    unfolding values_fault
    sound-values d e s =
        rw (
          le-ltb 9 (said v seconds) d.second,
          le-ltb 9 (said v minutes) d.minute,
          le-ltb 9 (said v hours) d.hour,
          le-ltb 9 (said v days) d.day,
          le-ltb 9 (said v tens_of_days) d.tens_of_day,
          le-ltb 9 (said v years) d.year,
          le-ltb 9 (said v tens_of_years) d.tens_of_year,
          e,
        )
        (sound_fields s)
