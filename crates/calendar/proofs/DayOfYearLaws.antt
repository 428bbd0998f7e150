-- Day of the year to month and day: January by a test of its own, and from 1 February on formulas for the month, by one computed test over
-- every day of both kinds of year; and the way back to the day of the year.
use mathlib.Core.Bool.{Bool, true, false, ◌&&◌}
use mathlib.Core.Path.{◌≡◌, refl, sym, subst}
use Prim.Native.Nat.{ℕ, ◌+◌, ◌-◌, ◌*◌, ◌/◌, ◌≤◌, ◌<◌}
use native.Mathlib.Omega.{arith}
use lib.Dec.{T, eqb, eqb→eq, leb, leb→le, le→leb, ltb}
use borrow.Author.Tests.{leb-true, le-leb, lt-ltb}
use Rattle.laws.proofs.Bools.{both, holds, where_so, then}
use Rattle.laws.specs.Tests.{below}
use Rattle.laws.proofs.Tested.{at, and_left, and_right}
use Rattle.calendar.specs.declared.Date.{Date}
use Rattle.calendar.specs.declared.MonthDay.{MonthDay}
use Rattle.calendar.specs.Calendar.{leap_year, days_in, days_before, year_length, day_of_year, month_up_to, in_year, month_day}
use Rattle.calendar.proofs.MonthLaws.{before_first, month_ends_lem, year_least, month_short}
use Rattle.calendar.proofs.DateLaws.{Real, number_is, same_number}

pub no_such_day_lem : (l : Bool) (k : ℕ) → in_year l k ≡ false → record { month = 0; day = 0 } ≡ month_day l k
unfolding month_day
no_such_day_lem l k e = rw e

pub within : (l : Bool) (k : ℕ) → in_year l k ≡ true → (1 ≤ k) × (k ≤ year_length l)
unfolding in_year
within l k e = let p = both (leb 1 k) (leb k (year_length l)) e in (leb-true 1 k p.0, leb-true k (year_length l) p.1)

-- ---- the month of a day, by a formula

-- with n days after it in its year, day k lies in month (a - b * n) / c, if it is past January
unfoldable pub fits_on : ℕ → ℕ → ℕ → Bool → ℕ → Bool
fits_on a b c l k = where_so (in_year l k && ltb 31 k) (eqb ((a - b * (year_length l - k)) / c) (month_up_to l 12 k))

-- on every day of a leap year and of a common one
unfoldable pub fits : ℕ → ℕ → ℕ → Bool
fits a b c = below (fits_on a b c true) 367 && below (fits_on a b c false) 367

-- what fits on every day is the month that counting gives; that the code's three numbers fit, the proof of `month_of` computes
pub month_rule : (a b c : ℕ) → T (fits a b c) → (l : Bool) (k : ℕ) → in_year l k ≡ true → 31 < k → (a - b * (year_length l - k)) / c ≡ month_up_to l 12 k
unfolding fits fits_on
month_rule a b c t l k e h =
    let y = year_least l in
    let w = within l k e in
    let so = in_year l k && ltb 31 k in
    eqb→eq _ _ (then so (eqb ((a - b * (year_length l - k)) / c) (month_up_to l 12 k)) (at (fits_on a b c l) 367 (half l) k (omega arith)) (holds so (rw (e, lt-ltb 31 k h))))
  where
    half : (l : Bool) → T (below (fits_on a b c l) 367)
    half true = and_left (below (fits_on a b c true) 367) (below (fits_on a b c false) 367) t
    half false = and_right (below (fits_on a b c true) 367) (below (fits_on a b c false) 367) t

is_first : Bool → ℕ → Bool
is_first l k = where_so (leb 1 k) (eqb 1 (month_up_to l 12 k))

all_first : (l : Bool) → T (below (is_first l) 32)
unfolding is_first month_up_to days_before days_in
all_first true = tt
all_first false = tt

first_month : (l : Bool) (k : ℕ) → 1 ≤ k → k < 32 → 1 ≡ month_up_to l 12 k
unfolding is_first
first_month l k a h = eqb→eq _ _ (then (leb 1 k) (eqb 1 (month_up_to l 12 k)) (at (is_first l) 32 (all_first l) k h) (le→leb 1 k a))

pub is_month_day : (l : Bool) (k m : ℕ) → in_year l k ≡ true → m ≡ month_up_to l 12 k → record { month = m; day = k - days_before l m } ≡ month_day l k
unfolding month_day
is_month_day l k m e p = rw (e, p)

pub in_january : (l : Bool) (k : ℕ) → in_year l k ≡ true → k < 32 → record { month = 1; day = k } ≡ month_day l k
in_january l k e h =
    let whole : k - 0 ≡ k = omega arith in
    rw (before_first l, whole) at (is_month_day l k 1 e (first_month l k (within l k e).0 h))

-- ---- month and day, and the day of the year again

back_test : Bool → ℕ → Bool
back_test l k =
    let p = month_day l k in
    where_so (in_year l k) (leb 1 p.day && (leb p.day (days_in l p.month) && eqb (days_before l p.month + p.day) k))

all_back : (l : Bool) → T (below (back_test l) 367)
unfolding back_test month_day in_year year_length month_up_to days_before days_in
all_back true = tt
all_back false = tt

pub record OnDay (l : Bool) (k : ℕ) (p : MonthDay) : Type 0 where
  pub one : 1 ≤ p.day
  pub last : p.day ≤ days_in l p.month
  pub is : days_before l p.month + p.day ≡ k

-- a day that the year has is on the month and day that it is given as
pub on_day_lem : (l : Bool) (k : ℕ) → in_year l k ≡ true → OnDay l k (month_day l k)
unfolding back_test
on_day_lem l k e =
    let p = month_day l k in
    let a = leb 1 p.day in
    let b = leb p.day (days_in l p.month) in
    let c = eqb (days_before l p.month + p.day) k in
    let y = year_least l in
    let h = within l k e in
    let t = then (in_year l k) (a && (b && c)) (at (back_test l) 367 (all_back l) k (omega arith)) (holds (in_year l k) e) in
    record {
      one = leb→le _ _ (and_left a (b && c) t);
      last = leb→le _ _ (and_left b c (and_right a (b && c) t));
      is = eqb→eq _ _ (and_right b c (and_right a (b && c) t));
    }

-- the same of the month and of what is left of the day
pub in_month : (l : Bool) (k m : ℕ) → in_year l k ≡ true → m ≡ month_up_to l 12 k → OnDay l k (record { month = m; day = k - days_before l m })
in_month l k m e p = subst (OnDay l k) (sym (is_month_day l k m e p)) (on_day_lem l k e)

pub month_begun : (l : Bool) (k m : ℕ) → in_year l k ≡ true → m ≡ month_up_to l 12 k → days_before l m ≤ k
month_begun l k m e p = let d = (in_month l k m e p).is in omega arith

pub year_has : (t : Date) → Real t → in_year (leap_year t.year) (day_of_year t) ≡ true
unfolding in_year day_of_year
year_has t p =
    let l = leap_year t.year in
    let e = month_ends_lem l t.month t.day p.one p.last in
    rw (le-leb 1 (days_before l t.month + t.day) (omega (arith, p.one)), le-leb (days_before l t.month + t.day) (year_length l) e)

pub of_year : (t : Date) → day_of_year t ≡ days_before (leap_year t.year) t.month + t.day
unfolding day_of_year
of_year t = refl

pub month_day_of : (t : Date) → Real t → month_day (leap_year t.year) (day_of_year t) ≡ record { month = t.month; day = t.day }
month_day_of t p = let e = same_number u t (record { one = o.one; last = o.last }) p (omega (arith, o.is, number_is u, number_is t, of_year t)) in λ i. record { month = (e i).month; day = (e i).day }
  where
    o : OnDay (leap_year t.year) (day_of_year t) (month_day (leap_year t.year) (day_of_year t))
    o = on_day_lem (leap_year t.year) (day_of_year t) (year_has t p)

    u : Date
    u = record { year = t.year; month = (month_day (leap_year t.year) (day_of_year t)).month; day = (month_day (leap_year t.year) (day_of_year t)).day }

-- ---- what `month_day` rests on

pub ruleset day_in_months = (in_january, is_month_day, in_month, month_begun, month_short)
