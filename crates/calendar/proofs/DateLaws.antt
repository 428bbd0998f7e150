-- Dates and their numbers: the later date has the larger number, number and date are inverse, and a neighbour's number is one off.
use mathlib.Core.Bool.{Bool, true, false, cond, ◌&&◌}
use mathlib.Core.Logic.{◌⊎◌, inl, inr, ⊎_elim}
use mathlib.Core.Path.{◌≡◌, refl, sym, ap, subst}
use Prim.Native.Nat.{ℕ, zero, suc, ◌+◌, ◌-◌, ◌≤◌, ◌<◌}
use native.Mathlib.Nat.{not-suc-le-zero}
use native.Mathlib.Decide.{ℕ_discrete, dec_lt}
use native.Mathlib.Numerals.{add-one}
use native.Mathlib.Omega.{arith}
use lib.Dec.{leb, ltb}
use borrow.Author.Tests.{le-leb, lt-ltb, leb-true, ltb-true, ltb-false}
use Rattle.laws.proofs.Bools.{both}
use Rattle.calendar.specs.declared.Date.{Date}
use Rattle.calendar.specs.Order.{Earlier}
use Rattle.calendar.specs.Calendar.{leap_year, days_in, days_before, days_before_year, day_of_year, day_number, is_month, last_day, is_day, is_date, last_year, year_after, day_after, day_before, date_after}
use Rattle.calendar.proofs.MonthLaws.{before_next, before_first, year_whole, month_later, month_top, month_low, month_ends_lem, month_has_days, year_least}
use Rattle.calendar.proofs.YearLaws.{year_next, year_later}

-- ---- a date that stands in the calendar

pub record Real (t : Date) : Type 0 where
  pub one : 1 ≤ t.day
  pub last : t.day ≤ days_in (leap_year t.year) t.month

pub month_of : (t : Date) → Real t → (1 ≤ t.month) × (t.month ≤ 12)
month_of t p =
    let l = leap_year t.year in
    let n : 1 ≤ days_in l t.month = omega (arith, p.one, p.last) in
    (month_low l t.month n, omega (arith, month_top l t.month n))

in_month : (l : Bool) (m d : ℕ) → is_month m ≡ true → d ≤ last_day l m → d ≤ days_in l m
unfolding last_day
in_month l m d e h = rw e at h

pub real : (t : Date) → is_date t ≡ true → Real t
unfolding is_date is_day
real t e =
    let l = leap_year t.year in
    let p = both (is_month t.month) (leb 1 t.day && leb t.day (last_day l t.month)) e in
    let q = both (leb 1 t.day) (leb t.day (last_day l t.month)) p.1 in
    record { one = leb-true 1 t.day q.0; last = in_month l t.month t.day p.0 (leb-true t.day (last_day l t.month) q.1) }

-- and back
pub is_date_lem : (t : Date) → Real t → is_date t ≡ true
unfolding is_date is_month is_day last_day
is_date_lem t p =
    let m = month_of t p in
    rw (le-leb 1 t.month m.0, le-leb t.month 12 m.1, le-leb 1 t.day p.one, le-leb t.day (days_in (leap_year t.year) t.month) p.last)

-- ---- dates in order

pub number_is : (t : Date) → day_number t ≡ days_before_year t.year + (days_before (leap_year t.year) t.month + t.day)
unfolding day_number day_of_year
number_is t = refl

-- a date's number lies within its year
pub number_top : (t : Date) → Real t → day_number t ≤ days_before_year (suc t.year)
number_top t p = omega (arith, number_is t, year_next t.year, month_ends_lem (leap_year t.year) t.month t.day p.one p.last)

pub later : (s t : Date) → Real s → Real t → Earlier s t → day_number s < day_number t
later s t p q (inl h) = omega (arith, q.one, number_top s p, number_is t, year_next s.year, year_later s.year t.year h)
later s t p q (inr (inl h)) =
    omega (
      arith,
      p.last,
      q.one,
      number_is s,
      number_is t,
      ap days_before_year h.0,
      ap (λ (y : ℕ). days_before (leap_year y) t.month) h.0,
      month_later (leap_year s.year) s.month t.month h.1,
    )
later s t p q (inr (inr h)) =
    omega (
      arith,
      number_is s,
      number_is t,
      ap days_before_year h.0,
      h.2,
      ap (λ (y : ℕ). days_before (leap_year y) t.month) h.0,
      ap (days_before (leap_year s.year)) h.1,
    )

-- two dates are the same, or one of them is the earlier
pub compared : (s t : Date) → (s ≡ t) ⊎ (Earlier s t ⊎ Earlier t s)
compared s t = years (ℕ_discrete s.year t.year)
  where
    apart : {a b : ℕ} → (a ≡ b → ⊥) → (a < b) ⊎ (b < a)
    apart {a} {b} d = lt (dec_lt a b)
      where
        lt : Dec (a < b) → (a < b) ⊎ (b < a)
        lt (yes h) = inl h
        lt (no h) = inr (omega arith)

    days : s.year ≡ t.year → s.month ≡ t.month → Dec (s.day ≡ t.day) → (s ≡ t) ⊎ (Earlier s t ⊎ Earlier t s)
    days a b (yes c) = inl (λ i. record { year = a i; month = b i; day = c i })
    days a b (no d) = inr (⊎_elim (λ h. inl (inr (inr (a, b, h)))) (λ h. inr (inr (inr (sym a, sym b, h)))) (apart d))

    months : s.year ≡ t.year → Dec (s.month ≡ t.month) → (s ≡ t) ⊎ (Earlier s t ⊎ Earlier t s)
    months a (yes b) = days a b (ℕ_discrete s.day t.day)
    months a (no d) = inr (⊎_elim (λ h. inl (inr (inl (a, h)))) (λ h. inr (inr (inl (sym a, h)))) (apart d))

    years : Dec (s.year ≡ t.year) → (s ≡ t) ⊎ (Earlier s t ⊎ Earlier t s)
    years (yes a) = months a (ℕ_discrete s.month t.month)
    years (no d) = inr (⊎_elim (λ h. inl (inl h)) (λ h. inr (inl h)) (apart d))

pub same_number : (s t : Date) → Real s → Real t → day_number s ≡ day_number t → s ≡ t
same_number s t p q e = ⊎_elim (λ (h : s ≡ t). h) (λ h. absurd (⊎_elim (λ k. no-later s t p q e k) (λ k. no-later t s q p (sym e) k) h)) (compared s t)
  where
    no-later : (s t : Date) → Real s → Real t → day_number s ≡ day_number t → Earlier s t → ⊥
    no-later s t p q e h = omega (arith, later s t p q h)

-- ---- the day after

abbrev Follows : Date → Date → Type 0
Follows t n = Real n × (day_number n ≡ day_number t + 1)

-- the number of the last day of the last year that a date holds
abbrev pub last_number : ℕ
last_number = days_before_year (suc last_year)

pub before_last : (t : Date) → Real t → t.year < last_year → day_number t < last_number
before_last t p h = omega (arith, number_top t p, year_later (suc t.year) (suc last_year) (omega arith), (year_least (leap_year (suc t.year))).0)

-- a year that ends before the last day has a year after it
after_year : (y : ℕ) → days_before_year (suc y) < last_number → year_after y ≡ suc y
unfolding year_after
after_year y h = go (dec_lt y last_year)
  where
    go : Dec (y < last_year) → cond (ltb y last_year) (y + 1) y ≡ suc y
    go (yes k) = rw (lt-ltb y last_year k, add-one)
    go (no k) = absurd (past (ℕ_discrete y last_year))
      where
        past : Dec (y ≡ last_year) → ⊥
        past (yes e) = omega (arith, ap (λ (x : ℕ). days_before_year (suc x)) e)
        past (no d) = omega (arith, year_later (suc last_year) (suc y) (omega arith))

-- the last day of a year, and the first of the next
year_ends : (t : Date) → t.month ≡ 12 → t.day ≡ days_in (leap_year t.year) t.month → day_number t ≡ days_before_year (suc t.year)
year_ends t m d = let l = leap_year t.year in omega (arith, d, number_is t, before_next l 12, year_whole l, ap (days_before l) m, ap (days_in l) m, year_next t.year)

new_year_lem : (t : Date) (y : ℕ) → Real t → t.month ≡ 12 → t.day ≡ days_in (leap_year t.year) t.month → y ≡ suc t.year → Follows t (record { year = y; month = 1; day = 1 })
new_year_lem t y p m d e =
    let n : Date = record { year = y; month = 1; day = 1 } in (
      record { one = omega arith; last = omega (arith, month_has_days (leap_year y) 1 (omega arith) (omega arith)) },
      omega (arith, year_ends t m d, number_is n, before_first (leap_year y), ap days_before_year e),
    )

pub day_after_is : (t : Date) → Real t → day_number t < last_number → Follows t (day_after t)
unfolding day_after
day_after_is t p far = day (ltb t.day (days_in (leap_year t.year) t.month)) refl
  where
    l : Bool
    l = leap_year t.year

    same-month : Date
    same-month = record { year = t.year; month = t.month; day = t.day + 1 }

    next-month : Date
    next-month = record { year = t.year; month = t.month + 1; day = 1 }

    next_year : Date
    next_year = record { year = year_after t.year; month = 1; day = 1 }

    month : (b : Bool) → ltb t.month 12 ≡ b → t.day ≡ days_in l t.month → Follows t (cond b next-month next_year)
    month true e d =
        let h = ltb-true t.month 12 e in (
          record { one = omega arith; last = omega (arith, month_has_days l (t.month + 1) (omega arith) (omega arith)) },
          omega (arith, d, number_is t, number_is next-month, before_next l t.month, ap (days_before l) (add-one t.month)),
        )
    month false e d =
        let m : t.month ≡ 12 = omega (arith, ltb-false t.month 12 e, (month_of t p).1) in
        new_year_lem t (year_after t.year) p m d (after_year t.year (omega (arith, year_ends t m d)))

    day : (b : Bool) → ltb t.day (days_in (leap_year t.year) t.month) ≡ b → Follows t (cond b same-month (cond (ltb t.month 12) next-month next_year))
    day true e = (
      record { one = omega arith; last = omega (arith, ltb-true t.day (days_in l t.month) e) },
      omega (arith, number_is t, number_is same-month),
    )
    day false e = month (ltb t.month 12) refl (omega (arith, p.last, ltb-false t.day (days_in l t.month) e))

-- ---- the day before

abbrev Leads : Date → Date → Type 0
Leads t n = Real n × (day_number n + 1 ≡ day_number t)

december_long : (l : Bool) → days_in l 12 ≡ 31
unfolding days_in
december_long l = refl

no_years : days_before_year 0 ≡ 0
unfolding days_before_year
no_years = refl

-- a first of January that is not the first day of all has a year before it
has_year_before : (y : ℕ) → 1 ≤ days_before_year y → y ≡ suc (y - 1)
has_year_before zero h = absurd (not-suc-le-zero (subst (λ (n : ℕ). 1 ≤ n) no_years h))
has_year_before (suc y) h = omega arith

pub day_before_is : (t : Date) → Real t → 1 < day_number t → Leads t (day_before t)
unfolding day_before
day_before_is t p old = day (ltb 1 t.day) refl
  where
    l : Bool
    l = leap_year t.year

    same-month : Date
    same-month = record { year = t.year; month = t.month; day = t.day - 1 }

    last-month : Date
    last-month = record { year = t.year; month = t.month - 1; day = days_in l (t.month - 1) }

    last-year : Date
    last-year = record { year = t.year - 1; month = 12; day = 31 }

    month : (b : Bool) → ltb 1 t.month ≡ b → t.day ≡ 1 → Leads t (cond b last-month last-year)
    month true e d =
        let h = ltb-true 1 t.month e in
        let k : suc (t.month - 1) ≡ t.month = omega arith in (
          record { one = omega (arith, month_has_days l (t.month - 1) (omega arith) (omega (arith, (month_of t p).1))); last = omega arith },
          omega (arith, d, number_is t, number_is last-month, before_next l (t.month - 1), ap (days_before l) k),
        )
    month false e d = turned (new_year_lem last-year t.year december refl (sym (december_long (leap_year (t.year - 1)))) year)
      where
        first : t.month ≡ 1
        first = omega (arith, ltb-false 1 t.month e, (month_of t p).0)

        year : t.year ≡ suc (t.year - 1)
        year = has_year_before t.year (omega (arith, d, number_is t, ap (days_before l) first, before_first l))

        december : Real last-year
        december = record { one = omega arith; last = omega (arith, december_long (leap_year (t.year - 1))) }

        is : t ≡ record { year = t.year; month = 1; day = 1 }
        is = λ i. record { year = t.year; month = first i; day = d i }

        turned : Follows last-year (record { year = t.year; month = 1; day = 1 }) → Leads t last-year
        turned f = (december, omega (arith, f.1, ap day_number is))

    day : (b : Bool) → ltb 1 t.day ≡ b → Leads t (cond b same-month (cond (ltb 1 t.month) last-month last-year))
    day true e =
        let h = ltb-true 1 t.day e in (
          record { one = omega arith; last = omega (arith, p.last) },
          omega (arith, number_is t, number_is same-month),
        )
    day false e = month (ltb 1 t.month) refl (omega (arith, p.one, ltb-false 1 t.day e))

-- each undoes the other
pub before_after : (t : Date) → Real t → day_number t < last_number → day_before (day_after t) ≡ t
before_after t p h =
    let f = day_after_is t p h in
    let g = day_before_is (day_after t) f.0 (omega (arith, f.1, number_is t, p.one)) in
    same_number (day_before (day_after t)) t g.0 p (omega (arith, f.1, g.1))

pub after_before : (t : Date) → Real t → 1 < day_number t → day_number t ≤ last_number → day_after (day_before t) ≡ t
after_before t p h k =
    let g = day_before_is t p h in
    let f = day_after_is (day_before t) g.0 (omega (arith, g.1)) in
    same_number (day_after (day_before t)) t f.0 p (omega (arith, f.1, g.1))

-- ---- number and date are inverse

first_day : Date
first_day = record { year = 0; month = 1; day = 1 }

first_is : Real first_day × (day_number first_day ≡ 1)
unfolding first_day
first_is = (
  record { one = omega arith; last = omega (arith, month_has_days (leap_year 0) 1 (omega arith) (omega arith)) },
  omega (arith, number_is first_day, before_first (leap_year 0), no_years),
)

pub date_after_is : (n : ℕ) → n < last_number → Real (date_after n) × (day_number (date_after n) ≡ n + 1)
unfolding date_after first_day
date_after_is zero h = first_is
date_after_is (suc n) h = step (date_after n) (date_after_is n (omega arith))
  where
    step : (t : Date) → Real t × (day_number t ≡ n + 1) → Real (day_after t) × (day_number (day_after t) ≡ suc n + 1)
    step t r = let f = day_after_is t r.0 (omega (arith, r.1)) in (f.0, omega (arith, f.1, r.1))

pub date_of_number : (t : Date) → Real t → day_number t ≤ last_number → date_after (day_number t - 1) ≡ t
date_of_number t p h =
    let n : 1 ≤ day_number t = omega (arith, number_is t, p.one) in
    let d = date_after_is (day_number t - 1) (omega arith) in
    same_number (date_after (day_number t - 1)) t d.0 p (omega (arith, d.1))
