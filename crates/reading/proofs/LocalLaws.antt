-- From a minute of UTC to the one after it, and to local time and back.
use mathlib.Core.Bool.{Bool, true, false, cond}
use mathlib.Core.Path.{◌≡◌, refl}
use Prim.Native.Nat.{suc, ◌+◌, ◌-◌, ◌*◌, ◌/◌, ◌%◌, ◌≤◌, ◌<◌}
use native.Mathlib.Omega.{arith}
use lib.Dec.{ltb}
use lib.IntN.{ℤ}
use borrow.Author.Tests.{lt-ltb, ltb-true, ltb-false}
use Rattle.calendar.specs.declared.Date.{Date}
use Rattle.calendar.specs.Calendar.{leap_year, day_number, last_year, day_after}
use Rattle.calendar.proofs.MonthLaws.{year_least}
use Rattle.calendar.proofs.YearLaws.{year_later}
use Rattle.calendar.proofs.DateLaws.{Real, number_is, number_top, last_number, same_number, day_after_is}
use Rattle.reading.specs.declared.Utc.{Utc}
use Rattle.reading.specs.Offset.{unit, west, east, offset_good}
use Rattle.reading.specs.Universal.{day, on_day, utc_minutes, date_of, utc_of, minute_after, within_day, local_minutes, shown_at, local_at}
use Rattle.reading.proofs.OffsetLaws.{offset_range}
use Rattle.reading.proofs.UtcLaws.{Counted, on_day_is, minutes_is}

-- ---- the minute after

-- n is one minute later than u
pub record Next (u n : Utc) : Type 0 where
  pub real : Real n.date
  pub minute : n.minute < day
  pub minutes : day_number n.date * day + n.minute ≡ day_number u.date * day + u.minute + 1

pub minute_after_is : (u : Utc) → Real u.date → u.minute < day → day_number u.date < last_number → Next u (minute_after u)
unfolding minute_after
minute_after_is u p h far = go (ltb u.minute (day - 1)) refl
  where
    go : (b : Bool) → ltb u.minute (day - 1) ≡ b
        → Next u (cond b (record { date = u.date; minute = u.minute + 1 }) (record { date = day_after u.date; minute = 0 }))
    go true e = let k = ltb-true u.minute (day - 1) e in record { real = p; minute = omega arith; minutes = omega arith }
    go false e =
        let k = ltb-false u.minute (day - 1) e in
        let f = day_after_is u.date p far in
        record { real = f.0; minute = omega arith; minutes = omega (arith, f.1) }

-- ---- local time

-- a date with a day before it and a day after it, and these with such days too
pub record Inner (t : Date) : Type 0 where
  pub real : Real t
  pub after : 2 < day_number t
  pub before : day_number t + 1 < last_number

pub inner : (t : Date) → Real t → 1 ≤ t.year → t.year < last_year → Inner t
inner t p h k =
    record {
      real = p;
      after = omega (arith, p.one, number_is t, year_later 0 t.year h, (year_least (leap_year 0)).0);
      before =
          omega (
            arith,
            number_top t p,
            year_later (suc t.year) (suc last_year) (omega arith),
            (year_least (leap_year (suc t.year))).0,
          );
    }

-- what has the same count of minutes is the same minute
pub same_minute : (u v : Utc) → Real u.date → Real v.date → u.minute < day → v.minute < day
    → day_number u.date * day + u.minute ≡ day_number v.date * day + v.minute → u ≡ v
same_minute u v p q h k e =
    let d = same_number u.date v.date p q (omega arith) in
    let m : u.minute ≡ v.minute = omega arith in
    λ i. record { date = d i; minute = m i }

module _ (u : Utc) (z : ℤ) (i : Inner u.date) (h : u.minute < day) (g : offset_good z ≡ true) where
  -- the local day and the minute of it
  abbrev local : Utc
  local = on_day u.date (local_minutes u.minute z)

  local_minutes_lem : local_minutes u.minute z ≡ day + u.minute + unit * east z - unit * west z
  unfolding local_minutes within_day
  local_minutes_lem = rw (lt-ltb u.minute day h)

  counted : Counted u.date (local_minutes u.minute z) local
  counted =
      let o = offset_range z g in
      let a = i.after in
      let b = i.before in
      on_day_is u.date (local_minutes u.minute z) i.real (omega arith) (omega arith) (omega (arith, local_minutes_lem))

  back : Counted local.date (utc_minutes (local.minute / 60) (local.minute % 60) z) (on_day local.date (utc_minutes (local.minute / 60) (local.minute % 60) z))
  back =
      let o = offset_range z g in
      let a = i.after in
      let b = i.before in
      let c = counted in
      let m = c.minutes in
      let k = c.minute in
      let n = local_minutes_lem in
      on_day_is local.date (utc_minutes (local.minute / 60) (local.minute % 60) z) c.real (omega arith) (omega arith)
      (omega (arith, minutes_is (local.minute / 60) (local.minute % 60) z))

  -- local time less the offset is the minute of UTC that it was worked out from
  pub local_utc : utc_of (local_at u z) ≡ u
  unfolding utc_of local_at shown_at
  local_utc =
      let o = offset_range z g in
      let c = counted in
      let d = back in
      same_minute _ u d.real i.real d.minute h
      (omega (arith, c.minutes, d.minutes, c.minute, local_minutes_lem, minutes_is (local.minute / 60) (local.minute % 60) z))

  -- its date stands in the calendar, and its hour and minute on a clock
  pub local_date : Real (date_of (local_at u z))
  unfolding local_at shown_at
  local_date = counted.real

  pub local_hour : (local_at u z).hour ≤ 23
  unfolding local_at shown_at
  local_hour = let k = counted.minute in omega arith

  pub local_minute : (local_at u z).minute ≤ 59
  unfolding local_at shown_at
  local_minute = omega arith
