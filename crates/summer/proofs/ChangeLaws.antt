-- The rule is a calendar's: the day found is the first of its weekday at or after the set date, both days of a rule that is not refused
-- stand in their year, the start before the end, and summer lies between these two minutes of UTC.
use mathlib.Core.Bool.{Bool, true, false, not, ◌&&◌}
use mathlib.Core.Logic.{◌⊎◌, inl, inr, ⊎_elim}
use mathlib.Core.Path.{◌≡◌, refl, sym, ap, ◌∙◌}
use Prim.Native.Nat.{ℕ, ◌+◌, ◌-◌, ◌*◌, ◌%◌, ◌≤◌, ◌<◌}
use native.Mathlib.Omega.{arith}
use lib.Dec.{eqb, leb, ltb}
use borrow.Author.Tests.{le-leb, lt-leb, lt-ltb, eq-eqb, leb-true, leb-false, ltb-true, eqb-true}
use Rattle.laws.proofs.Bools.{both, either, or_true}
use Rattle.calendar.specs.declared.Date.{Date}
use Rattle.calendar.specs.Calendar.{leap_year, year_length, days_before_year, day_of_year, day_number, weekday_of, in_year, month_day}
use Rattle.calendar.proofs.DateLaws.{Real, number_is, same_number}
use Rattle.calendar.proofs.WeekdayLaws.{weekday_is}
use Rattle.calendar.proofs.DayOfYearLaws.{OnDay, on_day_lem, of_year}
use Rattle.summer.specs.declared.SetDay.{SetDay}
use Rattle.summer.specs.declared.SummerRule.{SummerRule}
use Rattle.summer.specs.Changes.{set_date, days_until, change_day, change_date, day, change_minute, changed, is_summer, hour_before, announces_change}
use Rattle.summer.specs.Rules.{rule_bad}
use Rattle.summer.proofs.RuleLaws.{GoodDay, six_more, GoodRule, good_rule, day_in_year}

-- ---- the first day at or after a date that falls on a weekday

pub until_is : (from to : ℕ) → days_until from to ≡ (to + 7 - from) % 7
unfolding days_until
until_is from to = refl

-- d is the first day at or after t that falls on weekday w
pub record First (t : Date) (w : ℕ) (d : Date) : Type 0 where
  pub real : Real d
  pub year : d.year ≡ t.year
  pub at_or_after : day_number t ≤ day_number d
  pub within_six : day_number d ≤ day_number t + 6
  pub weekday : weekday_of d ≡ w
  pub no_earlier : (e : Date) → day_number t ≤ day_number e → day_number e < day_number d → weekday_of e ≡ w → ⊥

-- the number of a day by its day of the year
numbered : (t : Date) → day_number t ≡ days_before_year t.year + day_of_year t
numbered t = omega (arith, number_is t, of_year t)

module _ (s : SetDay) (y : ℕ) (g : GoodDay s) where
  -- the year has the day
  pub change_there : in_year (leap_year y) (change_day s y) ≡ true
  unfolding in_year
  change_there =
      let t = set_date s y in
      let k = six_more s y g in
      let one = of_year t in
      let u = until_is (weekday_of t) s.weekday in
      let o = g.one in
      rw (le-leb 1 (change_day s y) (omega arith), le-leb (change_day s y) (year_length (leap_year y)) (omega arith))

  on : OnDay (leap_year y) (change_day s y) (month_day (leap_year y) (change_day s y))
  on = on_day_lem (leap_year y) (change_day s y) change_there

  pub change_day_of : day_of_year (change_date s y) ≡ change_day s y
  unfolding change_date
  change_day_of = of_year (change_date s y) ∙ on.is

  pub change_real : Real (change_date s y)
  unfolding change_date
  change_real = record { one = on.one; last = on.last }

  change_year : (change_date s y).year ≡ y
  unfolding change_date
  change_year = refl

  -- its number
  pub change_number : day_number (change_date s y) ≡ day_number (set_date s y) + days_until (weekday_of (set_date s y)) s.weekday
  change_number =
      omega (arith, numbered (change_date s y), numbered (set_date s y), ap days_before_year change_year, change_day_of)

  -- "the first day, at or after a set date, that falls on a set weekday"
  pub first_found : First (set_date s y) s.weekday (change_date s y)
  first_found =
      let t = set_date s y in
      let w = g.weekday in
      let n = change_number in
      let u = until_is (weekday_of t) s.weekday in
      let k = weekday_is t in
      record {
        real = change_real;
        year = change_year;
        at_or_after = omega arith;
        within_six = omega arith;
        weekday = omega (arith, weekday_is (change_date s y));
        no_earlier = λ e a b c. omega (arith, weekday_is e);
      }

-- the hour before a change is 00:00 to 00:59 UTC of the day found, and of no other
announced_day : (s : SetDay) (t : Date) (m : ℕ) → GoodDay s → Real t → hour_before s t m ≡ true → (t ≡ change_date s t.year) × (m < change_minute)
unfolding hour_before
announced_day s t m g p e =
    let y = t.year in
    let q = both (eqb (day_of_year t) (change_day s y)) (ltb m change_minute) e in
    let k = eqb-true (day_of_year t) (change_day s y) q.0 in (
      same_number t (change_date s y) p (change_real s y g)
          (omega (arith, numbered t, numbered (change_date s y), ap days_before_year (change_year s y g), change_day_of s y g)),
      ltb-true m change_minute q.1,
    )

day_announced : (s : SetDay) (t : Date) (m : ℕ) → GoodDay s → t ≡ change_date s t.year → m < change_minute → hour_before s t m ≡ true
unfolding hour_before
day_announced s t m g e h =
    rw (eq-eqb (day_of_year t) (change_day s t.year) (ap day_of_year e ∙ change_day_of s t.year g), lt-ltb m change_minute h)

-- ---- both days of a rule that is not refused stand in every year, the start before the end

module _ (rule : SummerRule) (good : rule_bad rule ≡ false) (y : ℕ) where
  abbrev g : GoodRule rule
  g = good_rule rule good

  pub start_found : First (set_date rule.start y) rule.start.weekday (change_date rule.start y)
  start_found = first_found rule.start y g.start

  pub end_found : First (set_date rule.end y) rule.end.weekday (change_date rule.end y)
  end_found = first_found rule.end y g.end

  pub start_before_end : day_number (change_date rule.start y) < day_number (change_date rule.end y)
  start_before_end =
      let a = start_found in
      let b = end_found in
      let p = a.within_six in
      let q = b.at_or_after in
      let apart = g.apart (leap_year y) in
      omega (arith, numbered (set_date rule.start y), numbered (set_date rule.end y), day_in_year rule.start y, day_in_year rule.end y)

-- ---- summer lies between the two

-- the minutes of UTC from the start of the year 0 on
abbrev pub counted : Date → ℕ → ℕ
counted t m = day_number t * day + m

-- both sides of a comparison moved by as much
moved : (a b c d k : ℕ) → c ≡ a + k → d ≡ b + k → leb a b ≡ leb c d
moved a b c d k e f = go (leb a b) refl
  where
    go : (x : Bool) → leb a b ≡ x → x ≡ leb c d
    go true p = sym (le-leb c d (omega (arith, leb-true a b p)))
    go false p = sym (lt-leb c d (omega (arith, leb-false a b p)))

changed_counted : (s : SetDay) (t : Date) (m : ℕ) → GoodDay s → changed s t m ≡ leb (counted (change_date s t.year) change_minute) (counted t m)
unfolding changed
changed_counted s t m g =
    moved (change_day s t.year * day + change_minute) (day_of_year t * day + m) (counted (change_date s t.year) change_minute) (counted t m)
    (days_before_year t.year * day)
    (omega (arith, numbered (change_date s t.year), ap days_before_year (change_year s t.year g), change_day_of s t.year g))
    (omega (arith, numbered t))

-- from the change of spring, included, to the change of autumn, excluded
pub summer_between : (rule : SummerRule) (t : Date) (m : ℕ) → rule_bad rule ≡ false
    → is_summer rule t m
    ≡ (leb (counted (change_date rule.start t.year) change_minute) (counted t m)
    && not (leb (counted (change_date rule.end t.year) change_minute) (counted t m)))
unfolding is_summer
summer_between rule t m good =
    let g = good_rule rule good in
    rw (changed_counted rule.start t m g.start, changed_counted rule.end t m g.end)

-- ---- a change is announced in the hour before it, and in no other

-- one of the two days of change of its year
abbrev pub OnChangeDay : SummerRule → Date → Type 0
OnChangeDay rule t = (t ≡ change_date rule.start t.year) ⊎ (t ≡ change_date rule.end t.year)

-- from 00:00 to 00:59 UTC of these days, and of no other date
pub announced_exactly : (rule : SummerRule) (t : Date) (m : ℕ) → rule_bad rule ≡ false → Real t
    → (announces_change rule t m ≡ true → OnChangeDay rule t × (m < change_minute))
    × (OnChangeDay rule t × (m < change_minute) → announces_change rule t m ≡ true)
unfolding announces_change
announced_exactly rule t m good p = (
  λ e. ⊎_elim (λ h. let a = announced_day rule.start t m g.start p h in (inl a.0, a.1))
      (λ h. let a = announced_day rule.end t m g.end p h in (inr a.0, a.1))
      (either (hour_before rule.start t m) (hour_before rule.end t m) e),
  λ e. ⊎_elim (λ d. rw (day_announced rule.start t m g.start d e.1))
      (λ d. rw (day_announced rule.end t m g.end d e.1) (or_true (hour_before rule.start t m)))
      e.0,
)
  where
    g : GoodRule rule
    g = good_rule rule good
