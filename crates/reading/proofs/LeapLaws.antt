-- The leap rule by the firsts of the months: a leap second may close a day exactly where the day after it is the first of a month,
-- and the minute after it is "00:00 UTC on the first of any month".
use mathlib.Core.Bool.{Bool, true, false, cond, ◌&&◌}
use mathlib.Core.Path.{◌≡◌, refl, sym, ap, ◌∙◌}
use Prim.Native.Nat.{ℕ, ◌+◌, ◌-◌, ◌%◌, ◌≤◌, ◌<◌}
use native.Mathlib.Omega.{arith}
use lib.Dec.{eqb, ltb}
use borrow.Author.Tests.{eq-eqb, ne_eqb, eqb-false, ltb-true, ltb-false, lt-ltb, le-ltb}
use Rattle.calendar.specs.declared.Date.{Date}
use Rattle.calendar.specs.Calendar.{leap_year, days_in, day_number, year_after, day_after, day_before}
use Rattle.calendar.proofs.DateLaws.{Real, last_number, before_after}
use Rattle.reading.specs.declared.Utc.{Utc}
use Rattle.reading.specs.Universal.{day, on_day, minute_after}
use Rattle.reading.specs.Leap.{closes_with_leap, last_minute, leap_minute, ends_day, after_leap}
use Rattle.reading.proofs.UtcLaws.{on_day_minute}

-- a day closes so exactly where the day after it is the first of a month
pub closes_before_first : (t : Date) → Real t → closes_with_leap t ≡ eqb (day_after t).day 1
unfolding day_after closes_with_leap
closes_before_first t p = go (ltb t.day last) refl
  where
    last : ℕ
    last = days_in (leap_year t.year) t.month

    next-month : Date
    next-month = record { year = t.year; month = t.month + 1; day = 1 }

    next_year : Date
    next_year = record { year = year_after t.year; month = 1; day = 1 }

    first : (b : Bool) → eqb (cond b next-month next_year).day 1 ≡ true
    first true = refl
    first false = refl

    go : (a : Bool) → ltb t.day last ≡ a
        → eqb t.day last
        ≡ eqb (cond a (record { year = t.year; month = t.month; day = t.day + 1 }) (cond (ltb t.month 12) next-month next_year)).day 1
    go true e =
        let h = ltb-true t.day last e in
        ne_eqb t.day last (λ q. omega arith) ∙ sym (ne_eqb (t.day + 1) 1 (λ q. omega (arith, p.one)))
    go false e =
        let h = ltb-false t.day last e in
        eq-eqb t.day last (omega (arith, p.last)) ∙ sym (first (ltb t.month 12))

december : (l : Bool) → eqb 31 (days_in l 12) ≡ true
unfolding days_in
december l = refl

-- the day before a first, or before a day 0, closes so
pub closed_before_first : (t : Date) → t.day ≤ 1 → closes_with_leap (day_before t) ≡ true
unfolding day_before closes_with_leap
closed_before_first t h = rw (le-ltb 1 t.day h) (month (ltb 1 t.month))
  where
    l : Bool
    l = leap_year t.year

    last-month : Date
    last-month = record { year = t.year; month = t.month - 1; day = days_in l (t.month - 1) }

    last-year : Date
    last-year = record { year = t.year - 1; month = 12; day = 31 }

    month : (b : Bool) → closes_with_leap (cond b last-month last-year) ≡ true
    month true = eq-eqb (days_in l (t.month - 1)) (days_in l (t.month - 1)) refl
    month false = december (leap_year (t.year - 1))

pub closed_before_later : (t : Date) → 1 < t.day → closes_with_leap (day_before t) ≡ eqb (t.day - 1) (days_in (leap_year t.year) t.month)
unfolding day_before closes_with_leap
closed_before_later t h = rw (lt-ltb 1 t.day h)

-- the day before closes so exactly where the day is a first; also of the calendar's very first day, whose day before stays in its year
closed_before : (t : Date) → Real t → closes_with_leap (day_before t) ≡ eqb t.day 1
closed_before t p = go (ltb 1 t.day) refl
  where
    go : (a : Bool) → ltb 1 t.day ≡ a → closes_with_leap (day_before t) ≡ eqb t.day 1
    go true e =
        let h = ltb-true 1 t.day e in
        closed_before_later t h
        ∙ ne_eqb (t.day - 1) (days_in (leap_year t.year) t.month) (λ q. omega (arith, p.last))
        ∙ sym (ne_eqb t.day 1 (λ q. omega arith))
    go false e = let h = ltb-false 1 t.day e in closed_before_first t h ∙ sym (eq-eqb t.day 1 (omega (arith, p.one)))

-- the minute after is 00:00 of a first, and no other
pub after_leap_first : (u : Utc) → Real u.date → after_leap u ≡ (eqb u.minute 0 && eqb u.date.day 1)
unfolding after_leap
after_leap_first u p = rw (closed_before u.date p)

-- the minute that a leap second may close, and no other, is followed by such a minute
pub after_leap_minute : (u : Utc) → Real u.date → u.minute < day → day_number u.date < last_number → after_leap (minute_after u) ≡ leap_minute u
unfolding after_leap leap_minute minute_after
after_leap_minute u p h far = go (ltb u.minute (day - 1)) refl
  where
    go : (b : Bool) → ltb u.minute (day - 1) ≡ b
        → after_leap (cond b (record { date = u.date; minute = u.minute + 1 }) (record { date = day_after u.date; minute = 0 }))
        ≡ (eqb u.minute last_minute && closes_with_leap u.date)
    go true e =
        let k = ltb-true u.minute (day - 1) e in
        rw (ne_eqb (u.minute + 1) 0 (λ q. omega arith), ne_eqb u.minute last_minute (λ q. omega arith))
    go false e =
        let k = ltb-false u.minute (day - 1) e in
        rw (eq-eqb u.minute last_minute (omega arith)) (ap closes_with_leap (before_after u.date p far))

-- what comes to no 23:59 is no minute that a leap second may close, whatever the date
pub no_leap : (t : Date) (n : ℕ) → ends_day n ≡ false → leap_minute (on_day t n) ≡ false
unfolding ends_day leap_minute
no_leap t n e = rw (ne_eqb (on_day t n).minute last_minute (λ q. eqb-false (n % day) last_minute e (omega (arith, on_day_minute t n))))
