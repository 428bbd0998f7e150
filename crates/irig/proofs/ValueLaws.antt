-- The values that a reading which a frame carries lays in the frame's groups: they fit, they say that reading, and no fault is
-- found in them.
use mathlib.Core.Path.{◌≡◌, refl, ap, subst, ◌∙◌}
use mathlib.Core.Bool.{false}
use Prim.Native.Nat.{ℕ, ◌+◌, ◌-◌, ◌*◌, ◌/◌, ◌%◌, ◌^◌, ◌<◌, ◌≤◌}
use native.Mathlib.Omega.{arith}
use lib.ListN.{get_or}
use Rattle.calendar.specs.Calendar.{leap_year, day_of_year}
use Rattle.calendar.proofs.MonthLaws.{year_least}
use Rattle.calendar.proofs.DateLaws.{Real, real}
use Rattle.calendar.proofs.DayOfYearLaws.{within, year_has, month_day_of}
use Rattle.reading.specs.declared.Reading.{Reading}
use Rattle.reading.specs.Years.{year_of}
use Rattle.reading.specs.Offset.{opposite, local_of}
use Rattle.reading.specs.Universal.{date_of}
use Rattle.reading.proofs.YearLaws.{year_back}
use Rattle.reading.proofs.CheckLaws.{Checked}
use Rattle.irig_table.specs.Table.{leap_pending, deletion, change_pending, summer, minus, quality, second_of_day}
use Rattle.pulses.proofs.BitLaws.{bit_small, bit_back}
use Rattle.irig_table.proofs.TableLaws.{widths}
use Rattle.irig.specs.Offset.{is_minus, halves_of}
use Rattle.irig.specs.Meaning.{
  said,
  second_of_day_at,
  is_set,
  second_in,
  minute_in,
  hour_in,
  day_in,
  digits_in,
  halves_in,
  added_in,
  year_in,
  month_day_in,
  reading_of,
}
use Rattle.irig.specs.Writing.{groups_of, values_of}
use Rattle.irig.proofs.Each.{Each, each_at}
use Rattle.irig.proofs.GroupLaws.{Values}
use Rattle.irig.proofs.OffsetLaws.{amount_back, no_minus-zero, offset_back, halves_few, even_whole}
use Rattle.irig.proofs.CarriedLaws.{Carried}
use Rattle.irig.proofs.FieldLaws.{Digits, Sound}

-- ---- the values of a reading that a frame carries

module _ (base : ℕ) (r : Reading) (p : ℕ) (carried : Carried base r) where
  c : Checked base r
  c = carried.checked

  date_real : Real (date_of r)
  date_real = real (date_of r) c.date

  day_within : (1 ≤ day_of_year (date_of r)) × (day_of_year (date_of r) ≤ 366)
  day_within =
      let w = within (leap_year r.year) (day_of_year (date_of r)) (year_has (date_of r) date_real) in
      (w.0, omega (arith, w.1, (year_least (leap_year r.year)).1))

  -- each fits in the pulses of its group
  fits_each : p < 2 → Each (λ k. get_or (values_of r p) (k + 3) 0 < 2 ^ get_or widths (k + 3) 0) 29
  unfolding values_of groups_of widths
  fits_each small =
      let h = c.hour in
      let m = c.minute in
      let s = c.second in
      let q = c.quality in
      let d = day_within in
      let o = halves_few r.offset.0 c.offset in
      let a = bit_small r.leap in
      let b = bit_small r.change in
      let e = bit_small r.summer in
      let f = bit_small (is_minus (opposite r.offset.0)) in
      omega arith

  pub values_fit : p < 2 → Values (values_of r p)
  unfolding values_of groups_of
  values_fit small = record {
    long = refl;
    none = each_at (λ g. get_or (values_of r p) g 0 ≡ 0) 3 (((tt, refl), refl), refl);
    fits = λ g h k. let e : g - 3 + 3 ≡ g = omega arith in
        subst (λ (n : ℕ). get_or (values_of r p) n 0 < 2 ^ get_or widths n 0) e
        (each_at (λ k. get_or (values_of r p) (k + 3) 0 < 2 ^ get_or widths (k + 3) 0) 29 (fits_each small) (g - 3) (omega arith));
  }

  -- ---- they say the reading

  second_back : second_in (values_of r p) ≡ r.second
  unfolding second_in values_of groups_of
  second_back = omega arith

  minute_back : minute_in (values_of r p) ≡ r.minute
  unfolding minute_in values_of groups_of
  minute_back = omega arith

  hour_back : hour_in (values_of r p) ≡ r.hour
  unfolding hour_in values_of groups_of
  hour_back = omega arith

  day_back : day_in (values_of r p) ≡ day_of_year (date_of r)
  unfolding day_in values_of groups_of
  day_back = omega arith

  year_again : year_in base (values_of r p) ≡ r.year
  unfolding year_in digits_in values_of groups_of
  year_again =
      let e : r.year % 10 + 10 * (r.year % 100 / 10) ≡ r.year % 100 = omega arith in
      ap (year_of base) e ∙ year_back base r.year c.year

  date_back : month_day_in base (values_of r p) ≡ record { month = r.month; day = r.day }
  unfolding month_day_in
  date_back = rw (year_again, day_back) (month_day_of (date_of r) date_real)

  halves_is : halves_in (values_of r p) ≡ halves_of (opposite r.offset.0)
  unfolding halves_in values_of groups_of
  halves_is = omega arith

  sign_is : is_set (values_of r p) minus ≡ is_minus (opposite r.offset.0)
  unfolding values_of groups_of
  sign_is = bit_back (is_minus (opposite r.offset.0))

  added_back : added_in (values_of r p) ≡ opposite r.offset.0
  unfolding added_in
  added_back = rw (sign_is, halves_is) (amount_back (opposite r.offset.0) (even_whole r.offset.0 carried.even))

  local_back : local_of (added_in (values_of r p)) ≡ r.offset.0
  local_back = ap local_of added_back ∙ offset_back r.offset.0 c.offset

  summer_back : is_set (values_of r p) summer ≡ r.summer
  unfolding values_of groups_of
  summer_back = bit_back r.summer

  leap_back : is_set (values_of r p) leap_pending ≡ r.leap
  unfolding values_of groups_of
  leap_back = bit_back r.leap

  change_back : is_set (values_of r p) change_pending ≡ r.change
  unfolding values_of groups_of
  change_back = bit_back r.change

  quality_back : said (values_of r p) quality ≡ r.quality
  unfolding values_of groups_of
  quality_back = refl

  pub reading_back : reading_of base (values_of r p) ≡ r
  unfolding reading_of
  reading_back = λ i. record {
    year = year_again i;
    month = (date_back i).month;
    day = (date_back i).day;
    hour = hour_back i;
    minute = minute_back i;
    second = second_back i;
    offset = record { 0 = local_back i };
    summer = summer_back i;
    leap = leap_back i;
    change = change_back i;
    quality = quality_back i;
  }

  -- ---- and no fault

  pub values_digits : Digits (values_of r p)
  unfolding values_of groups_of
  values_digits = record {
    second = omega arith;
    minute = omega arith;
    hour = omega arith;
    day = omega arith;
    tens_of_day = omega arith;
    year = omega arith;
    tens_of_year = omega arith;
  }

  second_of_day_back : said (values_of r p) second_of_day ≡ second_of_day_at r.hour r.minute r.second
  unfolding values_of groups_of
  second_of_day_back = refl

  insertion_back : is_set (values_of r p) deletion ≡ false
  unfolding values_of groups_of
  insertion_back = refl

  pub values_are_sound : Sound base (values_of r p)
  values_are_sound = record {
    second = rw second_back c.second;
    minute = rw minute_back c.minute;
    hour = rw hour_back c.hour;
    day = rw (year_again, day_back) (year_has (date_of r) date_real);
    second_of_day = rw (hour_back, minute_back, second_back) second_of_day_back;
    sign = rw (sign_is, halves_is) (no_minus-zero (opposite r.offset.0) (even_whole r.offset.0 carried.even));
    offset = rw local_back c.offset;
    leap = rw (reading_back, second_back) c.leap;
    insertion = insertion_back;
  }
