-- What a rule that is not refused is: each of its set dates stands in every year, at least six days before its end, and in every year
-- the latest start is before the earliest end.
use mathlib.Core.Bool.{Bool, true, false, ◌&&◌, ◌||◌}
use mathlib.Core.Path.{◌≡◌, ap}
use Prim.Native.Nat.{ℕ, ◌+◌, ◌≤◌, ◌<◌}
use native.Mathlib.Decide.{ℕ_discrete}
use native.Mathlib.Omega.{arith}
use lib.Dec.{T, leb, leb→le}
use borrow.Author.Tests.{leb-true, leb-false, ltb-false, eq-eqb, not-false}
use Rattle.laws.specs.Tests.{below}
use Rattle.laws.proofs.Tested.{at}
use Rattle.laws.proofs.Bools.{both, neither}
use Rattle.calendar.specs.Calendar.{leap_year, days_in, days_before, year_length, day_of_year, is_month, last_day, is_day}
use Rattle.calendar.proofs.MonthLaws.{before_next, year_whole, month_later}
use Rattle.calendar.proofs.DateLaws.{Real}
use Rattle.calendar.proofs.DayOfYearLaws.{of_year}
use Rattle.summer.specs.declared.SetDay.{SetDay}
use Rattle.summer.specs.declared.SummerRule.{SummerRule}
use Rattle.summer.specs.Changes.{set_date}
use Rattle.summer.specs.Rules.{weekday_bad, date_bad, too_late, set_day_bad, day_in, crossed, rule_bad}

-- ---- a set day that is not refused

pub record GoodDay (s : SetDay) : Type 0 where
  pub weekday : (1 ≤ s.weekday) × (s.weekday ≤ 7)
  pub month : s.month ≤ 12
  pub one : 1 ≤ s.day
  pub last : s.day ≤ days_in false s.month
  pub early : s.month ≡ 12 → s.day ≤ 25

weekday_good : (w : ℕ) → weekday_bad w ≡ false → (1 ≤ w) × (w ≤ 7)
unfolding weekday_bad
weekday_good w e =
    let p = both (leb 1 w) (leb w 7) (not-false (leb 1 w && leb w 7) e) in
    (leb-true 1 w p.0, leb-true w 7 p.1)

date_good : (m d : ℕ) → date_bad m d ≡ false → (m ≤ 12) × (1 ≤ d) × (d ≤ days_in false m)
unfolding date_bad is_day last_day is_month
date_good m d e =
    let p = both (is_month m) (is_day false m d) (not-false (is_month m && is_day false m d) e) in
    let q = both (leb 1 m) (leb m 12) p.0 in
    let r = both (leb 1 d) (leb d (last_day false m)) p.1 in
    let last : d ≤ last_day false m = leb-true d (last_day false m) r.1 in
    (leb-true m 12 q.1, leb-true 1 d r.0, rw p.0 at last)

early_good : (m d : ℕ) → too_late m d ≡ false → m ≡ 12 → d ≤ 25
unfolding too_late
early_good m d e k = ltb-false 25 d (rw (eq-eqb m 12 k) at e)

pub good_day : (s : SetDay) → set_day_bad s ≡ false → GoodDay s
unfolding set_day_bad
good_day s e =
    let a = neither (weekday_bad s.weekday) (date_bad s.month s.day || too_late s.month s.day) e in
    let b = neither (date_bad s.month s.day) (too_late s.month s.day) a.1 in
    let d = date_good s.month s.day b.0 in
    record {
      weekday = weekday_good s.weekday a.0;
      month = d.0;
      one = d.1;
      last = d.2;
      early = early_good s.month s.day b.1;
    }

-- a month has no fewer days in a leap year
no_fewer : (l : Bool) (m : ℕ) → m ≤ 12 → days_in false m ≤ days_in l m
unfolding days_in
no_fewer l m h = leb→le _ _ (at (λ k. leb (days_in false k) (days_in l k)) 13 (all l) m (omega arith))
  where
    all : (l : Bool) → T (below (λ k. leb (days_in false k) (days_in l k)) 13)
    all true = tt
    all false = tt

-- the date stands in every year
pub set-real : (s : SetDay) (y : ℕ) → GoodDay s → Real (set_date s y)
set-real s y g = record { one = g.one; last = omega (arith, g.last, no_fewer (leap_year y) s.month g.month) }

december : (l : Bool) → days_before l 12 + 31 ≡ year_length l
unfolding days_in
december l = omega (arith, before_next l 12, year_whole l)

-- and so do six days after it
pub six_more : (s : SetDay) (y : ℕ) → GoodDay s → day_of_year (set_date s y) + 6 ≤ year_length (leap_year y)
six_more s y g = go (ℕ_discrete s.month 12)
  where
    go : Dec (s.month ≡ 12) → day_of_year (set_date s y) + 6 ≤ year_length (leap_year y)
    go (yes e) = omega (arith, of_year (set_date s y), g.early e, december (leap_year y), ap (days_before (leap_year y)) e)
    go (no d) =
        omega (
          arith,
          of_year (set_date s y),
          (set-real s y g).last,
          g.month,
          december (leap_year y),
          month_later (leap_year y) s.month 12 (omega (arith, g.month)),
        )

-- ---- a rule that is not refused

pub record GoodRule (rule : SummerRule) : Type 0 where
  pub start : GoodDay rule.start
  pub end : GoodDay rule.end
  pub apart : (l : Bool) → day_in l rule.start + 6 < day_in l rule.end

apart_in : (l : Bool) (rule : SummerRule) → crossed l rule ≡ false → day_in l rule.start + 6 < day_in l rule.end
unfolding crossed
apart_in l rule e = leb-false (day_in l rule.end) (day_in l rule.start + 6) e

pub good_rule : (rule : SummerRule) → rule_bad rule ≡ false → GoodRule rule
unfolding rule_bad
good_rule rule e =
    let a = neither (set_day_bad rule.start || set_day_bad rule.end) (crossed true rule || crossed false rule) e in
    let b = neither (set_day_bad rule.start) (set_day_bad rule.end) a.0 in
    let c = neither (crossed true rule) (crossed false rule) a.1 in
    record { start = good_day rule.start b.0; end = good_day rule.end b.1; apart = apart c.0 c.1 }
  where
    apart : crossed true rule ≡ false → crossed false rule ≡ false → (l : Bool) → day_in l rule.start + 6 < day_in l rule.end
    apart t f true = apart_in true rule t
    apart t f false = apart_in false rule f

pub day_in_year : (s : SetDay) (y : ℕ) → day_of_year (set_date s y) ≡ day_in (leap_year y) s
unfolding day_in
day_in_year s y = of_year (set_date s y)
