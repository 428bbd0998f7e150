-- The reading of values in which no fault is found: a frame carries it, and it lays those values again.
use mathlib.Core.Path.{◌≡◌, refl, sym, ap, subst, ◌∙◌}
use mathlib.Core.Bool.{true}
use mathlib.Core.List.{List}
use Prim.Native.Nat.{ℕ, ◌+◌, ◌-◌, ◌*◌, ◌%◌, ◌^◌, ◌<◌}
use native.Mathlib.Omega.{arith}
use native.Mathlib.Decide.{dec_lt}
use borrow.Author.Tests.{eqb-false}
use lib.Dec.{T, eqb, eqb→eq}
use lib.ListN.{length, get_or}
use lib.Seq.{ext_get_or}
use Rattle.laws.specs.Tests.{below}
use Rattle.laws.proofs.Tested.{at}
use Rattle.calendar.specs.Calendar.{leap_year, day_of_year, is_date}
use Rattle.calendar.proofs.DateLaws.{is_date_lem}
use Rattle.calendar.proofs.DayOfYearLaws.{OnDay, on_day_lem, of_year}
use Rattle.reading.specs.declared.Reading.{Reading}
use Rattle.reading.specs.Years.{is_base, in_hundred}
use Rattle.reading.specs.Offset.{west, east, opposite}
use Rattle.reading.specs.Universal.{date_of}
use Rattle.reading.proofs.YearLaws.{digits_of, year_in_lem}
use Rattle.pulses.specs.Row.{groups, first_data, bit}
use Rattle.pulses.proofs.BitLaws.{bit_there}
use Rattle.irig_table.specs.Table.{leap_pending, deletion, change_pending, summer, minus, offset_hours, half_hour, quality, parity}
use Rattle.irig_table.proofs.TableLaws.{widths}
use Rattle.irig.specs.Offset.{per_half, is_minus, halves_of}
use Rattle.irig.specs.Meaning.{said, is_set, second_in, minute_in, hour_in, day_in, digits_in, halves_in, added_in, year_in, month_day_in, reading_of}
use Rattle.irig.specs.Writing.{groups_of, values_of}
use Rattle.irig.proofs.Each.{Each, each, each_at}
use Rattle.irig.proofs.GroupLaws.{Values}
use Rattle.irig.proofs.OffsetLaws.{sign_back, halves_back, local_of_amount, twice_the_halves}
use Rattle.irig.proofs.CarriedLaws.{Carried}
use Rattle.irig.proofs.FieldLaws.{Digits, Sound}

-- the groups from 24 on have no pulses
no_pulses : T (below (λ k. eqb (get_or widths (k + 24) 0) 0) 8)
unfolding widths
no_pulses = tt

nothing_said : (v : List ℕ) → Values v → (k : ℕ) → k < 8 → said v (k + 24) ≡ 0
nothing_said v w k h =
    let e = eqb→eq _ 0 (at (λ k. eqb (get_or widths (k + 24) 0) 0) 8 no_pulses k h) in
    let f : said v (k + 24) < 2 ^ 0 = subst (λ (n : ℕ). said v (k + 24) < 2 ^ n) e (w.fits (k + 24) (omega arith) (omega arith)) in
    omega arith

-- what the other groups can say
record Bounds (v : List ℕ) : Type 0 where
  leap : said v leap_pending < 2
  deleted : said v deletion < 2
  change : said v change_pending < 2
  summer_time : said v summer < 2
  sign : said v minus < 2
  hours : said v offset_hours < 16
  half : said v half_hour < 2
  quality_high : said v quality < 16

module _ (base : ℕ) (v : List ℕ) (g : is_base base ≡ true) (w : Values v) (d : Digits v) (s : Sound base v) where
  abbrev r : Reading
  r = reading_of base v

  on : OnDay (leap_year (year_in base v)) (day_in v) (month_day_in base v)
  unfolding month_day_in
  on = on_day_lem (leap_year (year_in base v)) (day_in v) s.day

  date_good : is_date (date_of r) ≡ true
  unfolding reading_of
  date_good = is_date_lem (date_of r) (record { one = on.one; last = on.last })

  year_good : in_hundred base (year_in base v) ≡ true
  unfolding year_in
  year_good = year_in_lem base (digits_in v)

  -- what the groups can say
  bounds : Bounds v
  unfolding widths
  bounds = record {
    leap = w.fits leap_pending (omega arith) (omega arith);
    deleted = w.fits deletion (omega arith) (omega arith);
    change = w.fits change_pending (omega arith) (omega arith);
    summer_time = w.fits summer (omega arith) (omega arith);
    sign = w.fits minus (omega arith) (omega arith);
    hours = w.fits offset_hours (omega arith) (omega arith);
    half = w.fits half_hour (omega arith) (omega arith);
    quality_high = w.fits quality (omega arith) (omega arith);
  }

  -- the pulses say few half hours
  halves_small : per_half * halves_in v < 128
  unfolding halves_in
  halves_small = omega (arith, bounds.hours, bounds.half)

  -- the reading passes the checks, at no odd quarter
  pub reading_carried : Carried base r
  unfolding reading_of added_in
  reading_carried = record {
    checked = record {
      base_good = g;
      hour = s.hour;
      minute = s.minute;
      second = s.second;
      year = year_good;
      date = date_good;
      quality = omega (arith, bounds.quality_high);
      offset = s.offset;
      leap = s.leap;
    };
    even = (twice_the_halves (is_set v minus) (halves_in v) halves_small).1;
  }

  -- its quarter hours are twice those half hours
  pub offset_twice : west r.offset.0 + east r.offset.0 ≡ per_half * halves_in v
  unfolding reading_of added_in
  offset_twice = (twice_the_halves (is_set v minus) (halves_in v) halves_small).0

  -- ---- and lays the same values

  day_again : day_of_year (date_of r) ≡ day_in v
  unfolding reading_of
  day_again = of_year (date_of r) ∙ on.is

  digits_again : r.year % 100 ≡ digits_in v
  unfolding reading_of year_in digits_in
  digits_again = digits_of base (digits_in v) ∙ omega (arith, d.year, d.tens_of_year)

  offset_again : opposite r.offset.0 ≡ added_in v
  unfolding reading_of added_in
  offset_again = local_of_amount (is_set v minus) (halves_in v) halves_small

  sign_again : is_minus (opposite r.offset.0) ≡ is_set v minus
  unfolding added_in
  sign_again = ap is_minus offset_again ∙ sign_back (is_set v minus) (halves_in v) s.sign

  halves_again : halves_of (opposite r.offset.0) ≡ halves_in v
  unfolding added_in
  halves_again = ap halves_of offset_again ∙ halves_back (is_set v minus) (halves_in v)

  again : Each (λ k. get_or (values_of r (said v parity)) (k + 3) 0 ≡ said v (k + 3)) 29
  unfolding values_of groups_of reading_of second_in minute_in hour_in day_in digits_in halves_in
  again =
      let f = bounds in
      let a = bit_there (said v leap_pending) bounds.leap in
      let b = bit_there (said v change_pending) bounds.change in
      let c = bit_there (said v summer) bounds.summer_time in
      let e = ap bit sign_again ∙ bit_there (said v minus) bounds.sign in
      let g = halves_again in
      let h = day_again in
      let i = digits_again in
      let j = s.second_of_day in
      let k = eqb-false (said v deletion) 1 s.insertion in
      let l = each (λ k. said v (k + 24) ≡ 0) 8 (nothing_said v w) in
      omega (arith, d)

  pub values_again : values_of r (said v parity) ≡ v
  unfolding values_of groups_of
  values_again =
      ext_get_or 0 (values_of r (said v parity)) v (long ∙ sym w.long) (λ g h. let k : g < groups = rw long at h in same g k (dec_lt g first_data))
    where
      long : length (values_of r (said v parity)) ≡ groups
      long = refl

      same : (g : ℕ) → g < groups → Dec (g < first_data) → get_or (values_of r (said v parity)) g 0 ≡ get_or v g 0
      same g k (yes h) =
          each_at (λ g. get_or (values_of r (said v parity)) g 0 ≡ 0) 3 (((tt, refl), refl), refl) g h ∙ sym (w.none g h)
      same g k (no h) =
          let e : g - 3 + 3 ≡ g = omega arith in
          subst (λ (n : ℕ). get_or (values_of r (said v parity)) n 0 ≡ said v n) e
          (each_at (λ k. get_or (values_of r (said v parity)) (k + 3) 0 ≡ said v (k + 3)) 29 again (g - 3) (omega arith))
