-- UTC, counted in minutes, is local time less the offset, and its date stands in the calendar.
use mathlib.Core.Bool.{Bool, true, false, cond}
use mathlib.Core.Path.{◌≡◌, refl}
use Prim.Native.Nat.{ℕ, ◌+◌, ◌-◌, ◌*◌, ◌%◌, ◌≤◌, ◌<◌}
use native.Mathlib.Omega.{arith}
use lib.Dec.{ltb}
use lib.IntN.{ℤ}
use borrow.Author.Tests.{ltb-true, ltb-false}
use Rattle.calendar.specs.declared.Date.{Date}
use Rattle.calendar.specs.Calendar.{leap_year, day_number, day_after, day_before}
use Rattle.calendar.proofs.MonthLaws.{year_least}
use Rattle.calendar.proofs.YearLaws.{year_later}
use Rattle.calendar.proofs.DateLaws.{Real, real, number_is, last_number, before_last, day_after_is, day_before_is}
use Rattle.reading.specs.declared.Reading.{Reading}
use Rattle.reading.specs.declared.Utc.{Utc}
use Rattle.reading.specs.Offset.{unit, west, east}
use Rattle.reading.specs.Universal.{day, utc_minutes, on_day, date_of, utc_of}
use Rattle.reading.proofs.YearLaws.{starts_between, hundred}
use Rattle.reading.proofs.OffsetLaws.{offset_range}
use Rattle.reading.proofs.CheckLaws.{Checked}

-- the day and minute that lie n minutes after the start of the day before t
pub record Counted (t : Date) (n : ℕ) (u : Utc) : Type 0 where
  pub real : Real u.date
  pub minute : u.minute < day
  pub minutes : day_number u.date * day + u.minute + day ≡ day_number t * day + n

pub on_day_is : (t : Date) (n : ℕ) → Real t → 1 < day_number t → day_number t < last_number → n < 3 * day → Counted t n (on_day t n)
unfolding on_day
on_day_is t n p a b h = before (ltb n day) refl
  where
    after : (c : Bool) → ltb n (2 * day) ≡ c → day ≤ n → Counted t n (cond c (record { date = t; minute = n - day }) (record { date = day_after t; minute = n - 2 * day }))
    after true e g = let k = ltb-true n (2 * day) e in record { real = p; minute = omega arith; minutes = omega arith }
    after false e g =
        let k = ltb-false n (2 * day) e in
        let f = day_after_is t p b in
        record { real = f.0; minute = omega arith; minutes = omega (arith, f.1) }

    before : (c : Bool) → ltb n day ≡ c → Counted t n (cond c (record { date = day_before t; minute = n }) (cond (ltb n (2 * day)) (record { date = t; minute = n - day }) (record { date = day_after t; minute = n - 2 * day })))
    before true e =
        let k = ltb-true n day e in
        let f = day_before_is t p a in
        record { real = f.0; minute = k; minutes = omega (arith, f.1) }
    before false e = after (ltb n (2 * day)) refl (ltb-false n day e)

-- no more minutes of its day than were counted
pub on_day_small : (t : Date) (n top : ℕ) → n ≤ top → (on_day t n).minute ≤ top
unfolding on_day
on_day_small t n top h = before (ltb n day)
  where
    after : (c : Bool) → (cond {A = Utc} c (record { date = t; minute = n - day }) (record { date = day_after t; minute = n - 2 * day })).minute ≤ top
    after true = omega arith
    after false = omega arith

    before : (c : Bool)
        → (cond {A = Utc} c (record { date = day_before t; minute = n })
        (cond (ltb n (2 * day)) (record { date = t; minute = n - day }) (record { date = day_after t; minute = n - 2 * day }))
        ).minute
        ≤ top
    before true = h
    before false = after (ltb n (2 * day))

-- the minute of its day is what was counted, less whole days
pub on_day_minute : (t : Date) (n : ℕ) → (on_day t n).minute % day ≡ n % day
unfolding on_day
on_day_minute t n = before (ltb n day) refl
  where
    after : (c : Bool) → day ≤ n → ltb n (2 * day) ≡ c
        → (cond {A = Utc} c (record { date = t; minute = n - day }) (record { date = day_after t; minute = n - 2 * day })).minute % day ≡ n % day
    after true g e = omega arith
    after false g e = let k = ltb-false n (2 * day) e in omega arith

    before : (c : Bool) → ltb n day ≡ c
        → (cond {A = Utc} c (record { date = day_before t; minute = n })
        (cond (ltb n (2 * day)) (record { date = t; minute = n - day }) (record { date = day_after t; minute = n - 2 * day }))
        ).minute
        % day
        ≡ n % day
    before true e = refl
    before false e = after (ltb n (2 * day)) (ltb-false n day e) refl

pub minutes_is : (h m : ℕ) (z : ℤ) → utc_minutes h m z ≡ day + h * 60 + m + unit * west z - unit * east z
unfolding utc_minutes
minutes_is h m z = refl

-- a date from the year 1 on has a day before it
old_enough : (t : Date) → Real t → 1 ≤ t.year → 1 < day_number t
old_enough t p h = omega (arith, p.one, number_is t, year_later 0 t.year h, (year_least (leap_year 0)).0)

-- "UTC is local time less the offset": the same count of minutes, from the start of the year 0
pub record Universal (r : Reading) : Type 0 where
  pub real : Real (utc_of r).date
  pub minute : (utc_of r).minute < day
  pub minutes : day_number (utc_of r).date * day + (utc_of r).minute + unit * east r.offset.0 ≡ day_number (date_of r) * day + r.hour * 60 + r.minute + unit * west r.offset.0

pub universal : (b : ℕ) (r : Reading) → Checked b r → Universal r
unfolding utc_of
universal b r p =
    let z = r.offset.0 in
    let t = date_of r in
    let q = real t p.date in
    let s = starts_between b in
    let y = hundred b r.year p.year in
    let o = offset_range z p.offset in
    let m = minutes_is r.hour r.minute z in
    let n = utc_minutes r.hour r.minute z in
    let h = p.hour in
    let k = p.minute in
    let c =
    on_day_is t n q (old_enough t q (omega arith)) (before_last t q (omega arith)) (omega arith) in
    record { real = c.real; minute = c.minute; minutes = omega (arith, c.minutes) }
