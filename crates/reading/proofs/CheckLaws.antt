-- What a good reading is: the facts behind each check, one after the other.
use mathlib.Core.Bool.{Bool, true, false, not, ◌&&◌, ◌||◌}
use mathlib.Core.Path.{◌≡◌, refl}
use Prim.Native.Nat.{ℕ, ◌≤◌}
use native.Mathlib.Omega.{arith}
use lib.Dec.{eqb, leb}
use borrow.Author.Tests.{not-true, not-false, ltb-false, le-ltb, eqb-true, eq-eqb}
use Rattle.calendar.specs.Calendar.{leap_year, weekday_of, is_month, last_day, is_day, is_date}
use Rattle.laws.proofs.Bools.{both, neither}
use Rattle.reading.specs.declared.Reading.{Reading}
use Rattle.reading.specs.declared.Fault.{Fault}
use Rattle.reading.specs.Faults.{first, Verdict, no_fault}
use Rattle.reading.specs.Years.{is_base, in_hundred}
use Rattle.reading.specs.Offset.{offset_good}
use Rattle.reading.specs.Universal.{date_of, utc_of}
use Rattle.reading.specs.Leap.{sixty_bad}
use Rattle.reading.specs.Checks.{hour_bad, minute_bad, second_bad, time_bad, date_bad, quality_bad, sound_of, checked_of, day_bad, month_bad, weekday_wrong}

pub clash : {A : Type 0} → ◌≡◌ {A = ℕ} 0 1 → A
clash z = absurd (no z)
  where
    no : ◌≡◌ {A = ℕ} 0 1 → ⊥
    no z = omega arith

-- a verdict is good where its condition fails and the rest is good
pub first_good : (b : Bool) (x : Fault) (v : Verdict) → first b x v ≡ no_fault → (b ≡ false) × (v ≡ no_fault)
first_good false x v e = (refl, e)
first_good true x v e = let z : ◌≡◌ {A = ℕ} 0 1 = cc in clash z

pub record Checked (base : ℕ) (r : Reading) : Type 0 where
  pub base_good : is_base base ≡ true
  pub hour : r.hour ≤ 23
  pub minute : r.minute ≤ 59
  pub second : r.second ≤ 60
  pub year : in_hundred base r.year ≡ true
  pub date : is_date (date_of r) ≡ true
  pub quality : r.quality ≤ 15
  pub offset : offset_good r.offset.0 ≡ true
  pub leap : sixty_bad (utc_of r) r.second ≡ false

time_good : (r : Reading) → time_bad r ≡ false → (r.hour ≤ 23) × (r.minute ≤ 59) × (r.second ≤ 60)
unfolding time_bad
time_good r e =
    let p = neither (hour_bad r.hour) (minute_bad r.minute || second_bad r.second) e in
    let q = neither (minute_bad r.minute) (second_bad r.second) p.1 in
    (ltb-false 23 r.hour p.0, ltb-false 59 r.minute q.0, ltb-false 60 r.second q.1)

date_good : (base : ℕ) (r : Reading) → date_bad base r ≡ false → (in_hundred base r.year ≡ true) × (is_date (date_of r) ≡ true)
unfolding date_bad
date_good base r e = both (in_hundred base r.year) (is_date (date_of r)) (not-false (in_hundred base r.year && is_date (date_of r)) e)

-- a base and a reading pass where the base is one and the reading alone passes
pub base_and_sound : (base : ℕ) (r : Reading) → checked_of base r ≡ no_fault → (is_base base ≡ true) × (sound_of base r ≡ no_fault)
unfolding checked_of
base_and_sound base r e = let a = first_good (not (is_base base)) _ _ e in (not-false (is_base base) a.0, a.1)

pub sound_checked : (base : ℕ) (r : Reading) → is_base base ≡ true → sound_of base r ≡ no_fault → checked_of base r ≡ no_fault
unfolding checked_of
sound_checked base r b e = rw (b, e)

pub checked_is : (base : ℕ) (r : Reading) → checked_of base r ≡ no_fault → Checked base r
unfolding sound_of
checked_is base r good =
    let bs = base_and_sound base r good in
    let a = first_good (time_bad r) _ _ bs.1 in
    let b = first_good (date_bad base r) _ _ a.1 in
    let c = first_good (quality_bad r.quality) _ _ b.1 in
    let d = first_good (not (offset_good r.offset.0)) _ _ c.1 in
    let f = first_good (sixty_bad (utc_of r) r.second) _ _ d.1 in
    let t = time_good r a.0 in
    let u = date_good base r b.0 in
    record {
      base_good = bs.0;
      hour = t.0;
      minute = t.1;
      second = t.2;
      year = u.0;
      date = u.1;
      quality = ltb-false 15 r.quality c.0;
      offset = not-false (offset_good r.offset.0) d.0;
      leap = f.0;
    }

pub is_checked : (base : ℕ) (r : Reading) → Checked base r → checked_of base r ≡ no_fault
unfolding checked_of sound_of time_bad date_bad
is_checked base r p =
    rw (
      p.base_good,
      le-ltb 23 r.hour p.hour,
      le-ltb 59 r.minute p.minute,
      le-ltb 60 r.second p.second,
      p.year,
      p.date,
      le-ltb 15 r.quality p.quality,
      p.offset,
      p.leap,
    )

-- ---- what a reader's two checks tell, and back

pub date_there : (r : Reading) → day_bad r ≡ false → month_bad r ≡ false → is_date (date_of r) ≡ true
unfolding day_bad month_bad is_date
date_there r d m = rw (not-false (is_month r.month) m, not-false (is_day (leap_year r.year) r.month r.day) d)

pub date_parts : (r : Reading) → is_date (date_of r) ≡ true → (month_bad r ≡ false) × (day_bad r ≡ false)
unfolding day_bad month_bad is_date
date_parts r e = let p = both (is_month r.month) (is_day (leap_year r.year) r.month r.day) e in (rw p.0, rw p.1)

-- "Under a bad month a day is bad only outside 1..31."
pub under_bad_month : (r : Reading) → month_bad r ≡ true → day_bad r ≡ not (leb 1 r.day && leb r.day 31)
unfolding day_bad month_bad is_day last_day
under_bad_month r e = rw (not-true (is_month r.month) e)

pub weekday_there : (r : Reading) (w : ℕ) → weekday_wrong r w ≡ false → w ≡ weekday_of (date_of r)
unfolding weekday_wrong
weekday_there r w e = eqb-true w (weekday_of (date_of r)) (not-false (eqb w (weekday_of (date_of r))) e)

pub weekday_fits : (r : Reading) (w : ℕ) → w ≡ weekday_of (date_of r) → weekday_wrong r w ≡ false
unfolding weekday_wrong
weekday_fits r w e = rw (eq-eqb w (weekday_of (date_of r)) e)
