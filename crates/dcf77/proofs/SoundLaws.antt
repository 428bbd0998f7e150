-- What marks without a fault say: each check's fact, and back.
use Rattle.reading.specs.Faults.{no_fault}
use Rattle.std.specs.Prelude.{Err}
use mathlib.Core.Bool.{Bool, true, false, not, beq, ◌||◌}
use mathlib.Core.List.{List}
use mathlib.Core.Path.{◌≡◌, refl}
use Prim.Native.Nat.{ℕ, ◌≤◌}
use native.Mathlib.Omega.{arith}
use lib.Dec.{eqb}
use lib.ListN.{length, get_or}
use borrow.Author.Tests.{not-false, ltb-false, le-ltb, ne_eqb}
use Rattle.laws.proofs.Bools.{neither, holds, same_bool}
use Rattle.calendar.specs.Calendar.{weekday_of, is_date}
use Rattle.calendar.proofs.WeekdayLaws.{weekday_range}
use Rattle.reading.specs.declared.Reading.{Reading}
use Rattle.reading.specs.declared.Fault.TheVariants.{LeapSecond}
use Rattle.reading.specs.Universal.{date_of}
use Rattle.reading.specs.Checks.{hour_bad, minute_bad, day_bad, month_bad, weekday_wrong}
use Rattle.reading.proofs.CheckLaws.{first_good, date_there, date_parts, weekday_there, weekday_fits}
use Rattle.reading.proofs.WrittenLaws.{then_good}
use Rattle.pulses.specs.Row.{over_nine}
use Rattle.dcf77_table.specs.Table.{zone, minutes, hours, days, weekday, months, years, tens_of_years}
use Rattle.dcf77.specs.Zones.{zone_bad}
use Rattle.dcf77.specs.Forms.{last_of, due_long, minute_place, minute_parity_place, hour_place, hour_parity_place, day_place, date_parity_place}
use Rattle.dcf77.specs.Reader.{is_long, digit_fault, odd, parity_fault, field_fault, rule_fault, said_fault}

-- the six digits that could be over 9
pub record Digits (v : List ℕ) : Type 0 where
  pub minute : get_or v minutes 0 ≤ 9
  pub hour : get_or v hours 0 ≤ 9
  pub day : get_or v days 0 ≤ 9
  pub month : get_or v months 0 ≤ 9
  pub year : get_or v years 0 ≤ 9
  pub decade : get_or v tens_of_years 0 ≤ 9

-- the three parities
pub record Evens (s : List ℕ) : Type 0 where
  pub minute : odd minute_place minute_parity_place s ≡ false
  pub hour : odd hour_place hour_parity_place s ≡ false
  pub date : odd day_place date_parity_place s ≡ false

-- the time, the date with its weekday w, the zone z and the form
pub record Fields (r : Reading) (w z : ℕ) (long : Bool) : Type 0 where
  pub minute : r.minute ≤ 59
  pub hour : r.hour ≤ 23
  pub date : is_date (date_of r) ≡ true
  pub week : w ≡ weekday_of (date_of r)
  pub zone_good : zone_bad z ≡ false
  pub form : long ≡ due_long r

-- ---- code 3

digits_good : (v : List ℕ) → digit_fault v ≡ no_fault → Digits v
unfolding digit_fault
digits_good v e =
    let a = first_good (over_nine v minutes) _ _ e in
    let b = first_good (over_nine v hours) _ _ a.1 in
    let c = first_good (over_nine v days) _ _ b.1 in
    let d = first_good (over_nine v months) _ _ c.1 in
    let f = first_good (over_nine v years || over_nine v tens_of_years) _ _ d.1 in
    let g = neither (over_nine v years) (over_nine v tens_of_years) f.0 in
    record {
      minute = ltb-false 9 (get_or v minutes 0) a.0;
      hour = ltb-false 9 (get_or v hours 0) b.0;
      day = ltb-false 9 (get_or v days 0) c.0;
      month = ltb-false 9 (get_or v months 0) d.0;
      year = ltb-false 9 (get_or v years 0) g.0;
      decade = ltb-false 9 (get_or v tens_of_years 0) g.1;
    }

good_digits : (v : List ℕ) → Digits v → digit_fault v ≡ no_fault
unfolding digit_fault
good_digits v p =
    rw (
      le-ltb 9 (get_or v minutes 0) p.minute,
      le-ltb 9 (get_or v hours 0) p.hour,
      le-ltb 9 (get_or v days 0) p.day,
      le-ltb 9 (get_or v months 0) p.month,
      le-ltb 9 (get_or v years 0) p.year,
      le-ltb 9 (get_or v tens_of_years 0) p.decade,
    )

-- ---- code 4

evens_good : (s : List ℕ) → parity_fault s ≡ no_fault → Evens s
unfolding parity_fault
evens_good s e =
    let a = first_good (odd minute_place minute_parity_place s) _ _ e in
    let b = first_good (odd hour_place hour_parity_place s) _ _ a.1 in
    let c = first_good (odd day_place date_parity_place s) _ _ b.1 in
    record { minute = a.0; hour = b.0; date = c.0 }

good_evens : (s : List ℕ) → Evens s → parity_fault s ≡ no_fault
unfolding parity_fault
good_evens s p = rw (p.minute, p.hour, p.date)

-- ---- codes 15, 16, 6, 8 and 9

module _ (r : Reading) (w z : ℕ) (long : Bool) where
  fields_good : field_fault r w ≡ no_fault → rule_fault r w z long ≡ no_fault → Fields r w z long
  unfolding field_fault rule_fault
  fields_good e q =
      let a = first_good (minute_bad r.minute) _ _ e in
      let b = first_good (hour_bad r.hour) _ _ a.1 in
      let c = first_good (day_bad r) _ _ b.1 in
      let d = first_good (eqb w 0) _ _ c.1 in
      let f = first_good (month_bad r) _ _ d.1 in
      let g = first_good (weekday_wrong r w) _ _ q in
      let h = first_good (zone_bad z) _ _ g.1 in
      let i = first_good (not (beq long (due_long r))) _ _ h.1 in
      record {
        minute = ltb-false 59 r.minute a.0;
        hour = ltb-false 23 r.hour b.0;
        date = date_there r c.0 f.0;
        week = weekday_there r w g.0;
        zone_good = h.0;
        form = same_bool long (due_long r) (holds _ (not-false (beq long (due_long r)) i.0));
      }

  beq_self : (b : Bool) → beq b b ≡ true
  beq_self true = refl
  beq_self false = refl

  good_fields : Fields r w z long → field_fault r w ≡ no_fault
  unfolding field_fault
  good_fields p =
      let d = date_parts r p.date in
      let week = weekday_range (date_of r) in
      rw (le-ltb 59 r.minute p.minute, le-ltb 23 r.hour p.hour, d.1, ne_eqb w 0 (λ q. omega (arith, p.week)), d.0)

  good_rules : Fields r w z long → rule_fault r w z long ≡ no_fault
  unfolding rule_fault
  good_rules p = rw (weekday_fits r w p.week, p.zone_good, p.form, beq_self (due_long r))

-- ---- all of them

beq_other : (b : Bool) → beq (not b) b ≡ false
beq_other true = refl
beq_other false = refl

pub record Sound (s v : List ℕ) (r : Reading) : Type 0 where
  pub digits : Digits v
  pub evens : Evens s
  pub fields : Fields r (get_or v weekday 0) (get_or v zone 0) (is_long (length s))

module _ (s v : List ℕ) (r : Reading) where
  pub sound : said_fault s v r ≡ no_fault → Sound s v r
  unfolding said_fault
  sound e =
      let a = then_good (digit_fault v) _ e in
      let b = then_good (parity_fault s) _ a.1 in
      let c = then_good (field_fault r (get_or v weekday 0)) _ b.1 in
      record {
        digits = digits_good v a.0;
        evens = evens_good s b.0;
        fields = fields_good r (get_or v weekday 0) (get_or v zone 0) (is_long (length s)) c.0 c.1;
      }

  pub faultless : Sound s v r → said_fault s v r ≡ no_fault
  unfolding said_fault
  faultless p =
      rw (
        good_digits v p.digits,
        good_evens s p.evens,
        good_fields r (get_or v weekday 0) (get_or v zone 0) (is_long (length s)) p.fields,
        good_rules r (get_or v weekday 0) (get_or v zone 0) (is_long (length s)) p.fields,
      )

  -- "DCF77 length against the leap rule": where nothing else is wrong, 9 at the last place
  pub length_against : Digits v → Evens s → Fields r (get_or v weekday 0) (get_or v zone 0) (due_long r) → is_long (length s) ≡ not (due_long r)
      → said_fault s v r ≡ Err (LeapSecond (last_of (not (due_long r))))
  unfolding said_fault rule_fault
  length_against d e f other =
      rw (
        good_digits v d,
        good_evens s e,
        good_fields r (get_or v weekday 0) (get_or v zone 0) (due_long r) f,
        weekday_fits r (get_or v weekday 0) f.week,
        f.zone_good,
        other,
        beq_other (due_long r),
      )
