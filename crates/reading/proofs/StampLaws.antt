-- The stamp: what an answer tells, when there is one, and by which codes alone it is refused.
use Rattle.std.specs.Prelude.{Err, Ok}
use mathlib.Core.Bool.{Bool, true, false, cond}
use mathlib.Core.Logic.{◌⊎◌, inl, inr}
use mathlib.Core.Path.{◌≡◌, refl, sym, ap, ◌∙◌}
use Prim.Native.Nat.{ℕ, suc, ◌+◌, ◌*◌, ◌≤◌, ◌<◌}
use native.Mathlib.Omega.{arith}
use native.Mathlib.Decide.{ℕ_discrete}
use lib.Dec.{leb, eqb}
use lib.IntN.{ℤ, pos, sub_ℕ}
use borrow.Author.Tests.{leb-true, eq-eqb, eqb-true, not-false}
use Rattle.calendar.specs.Calendar.{leap_year, days_before_year, year_length, day_number}
use Rattle.calendar.proofs.DateLaws.{Real, number_is, number_top}
use Rattle.calendar.proofs.YearLaws.{year_later}
use Rattle.calendar.proofs.WeekdayLaws.{start_number}
use Rattle.laws.proofs.Bools.{both}
use Rattle.reading.specs.declared.Reading.{Reading}
use Rattle.reading.specs.declared.Utc.{Utc}
use Rattle.reading.specs.declared.Fault.{Fault}
use Rattle.reading.specs.declared.Fault.TheVariants.{OutsideYears}
use Rattle.reading.specs.Faults.{number, Verdict, no_fault}
use Rattle.reading.specs.Universal.{day, utc_of}
use Rattle.reading.specs.Leap.{last_minute, closes_with_leap, leap_minute, sixty_bad}
use Rattle.reading.specs.Checks.{checked_of}
use Rattle.reading.specs.Stamps.{day_zero, has_stamp, count_of, count_zero, stamp_number, stamp_is, stamp_at, unless_bad, stamp_of, Stamp}
use Rattle.reading.proofs.CheckLaws.{checked_is, clash}
use Rattle.reading.proofs.UtcLaws.{universal}

-- a stamp is there exactly where the checks pass and UTC is in the years that have stamps
good_verdict : (v : Verdict) (a : Stamp) (n : ℤ) → unless_bad v a ≡ stamp_is n → (v ≡ no_fault) × (a ≡ stamp_is n)
good_verdict (Ok done) a n e = (refl, e)
good_verdict (Err x) a n e = let z : ◌≡◌ {A = ℕ} 0 1 = cc in clash z

abbrev number_in : Stamp → ℤ
number_in (Ok s) = s.0
number_in (Err x) = pos 0

stamp_there : (b : Bool) (m n : ℤ) → cond b (stamp_is m) (Err (number OutsideYears)) ≡ stamp_is n → (b ≡ true) × (n ≡ m)
stamp_there true m n e = (refl, sym (ap number_in e))
stamp_there false m n e = let z : ◌≡◌ {A = ℕ} 0 1 = cc in clash z

pub record Stamped (base : ℕ) (r : Reading) (v : ℤ) : Type 0 where
  pub checked : checked_of base r ≡ no_fault
  pub year : has_stamp (utc_of r).date.year ≡ true
  pub value : v ≡ stamp_number (utc_of r) r.second

pub stamp_is_lem : (base : ℕ) (r : Reading) (v : ℤ) → stamp_of base r ≡ stamp_is v → Stamped base r v
unfolding stamp_of stamp_at
stamp_is_lem base r v e =
    let a = good_verdict (checked_of base r) _ v e in
    let b = stamp_there (has_stamp (utc_of r).date.year) (stamp_number (utc_of r) r.second) v a.1 in
    record { checked = a.0; year = b.0; value = b.1 }

pub is_stamp : (base : ℕ) (r : Reading) (v : ℤ) → Stamped base r v → stamp_of base r ≡ stamp_is v
unfolding stamp_of stamp_at
is_stamp base r v p = rw (p.checked, p.year, p.value)

-- a reading that passes the shared checks is refused by 12 alone
pub refused_by_12 : (base : ℕ) (r : Reading) → checked_of base r ≡ no_fault → has_stamp (utc_of r).date.year ≡ false → stamp_of base r ≡ Err (number OutsideYears)
unfolding stamp_of stamp_at
refused_by_12 base r e h = rw (e, h)

pub refused_by_fault : (base : ℕ) (r : Reading) (x : Fault) → checked_of base r ≡ Err x → stamp_of base r ≡ Err (number x)
unfolding stamp_of
refused_by_fault base r x e = rw e

-- ---- the numbers behind a stamp

count_is : (u : Utc) (s : ℕ) → count_of u s ≡ day_number u.date * 86401 + (u.minute * 60 + s)
unfolding count_of
count_is u s = refl

-- the count at the start of day 0
pub count-zero : count_zero ≡ 63114720886
unfolding count_zero count_of
count-zero = omega (arith, start_number)

pub number_of : (u : Utc) (s : ℕ) → stamp_number u s ≡ sub_ℕ (count_of u s) 63114720886
unfolding stamp_number
number_of u s = ap (λ (n : ℕ). sub_ℕ (count_of u s) n) count-zero

-- the count behind the stamp of a reading
abbrev pub counted : Reading → ℕ
counted r = count_of (utc_of r) r.second

pub stamp_count : (base : ℕ) (r : Reading) (v : ℤ) → stamp_of base r ≡ stamp_is v → v ≡ sub_ℕ (counted r) 63114720886
stamp_count base r v e = (stamp_is_lem base r v e).value ∙ number_of (utc_of r) r.second

stamp_years : (y : ℕ) → has_stamp y ≡ true → (1990 ≤ y) × (y ≤ 2099)
unfolding has_stamp
stamp_years y e = let p = both (leb 1990 y) (leb y 2099) e in (leb-true 1990 y p.0, leb-true y 2099 p.1)

-- second 60 stands in the last minute of the day alone
sixty_last : (u : Utc) (s : ℕ) → s ≤ 60 → sixty_bad u s ≡ false → (s < 60) ⊎ (u.minute ≡ last_minute)
unfolding sixty_bad leap_minute
sixty_last u s h e = go (ℕ_discrete s 60)
  where
    go : Dec (s ≡ 60) → (s < 60) ⊎ (u.minute ≡ last_minute)
    go (no d) = inl (omega arith)
    go (yes k) = inr (eqb-true u.minute last_minute (both (eqb u.minute last_minute) (closes_with_leap u.date) (not-false _ (rw (eq-eqb s 60 k) at e))).0)

-- the UTC day, minute and second of a stamp, as numbers, and their count: from 3652 days before day 0 on
pub record Parts (r : Reading) : Type 0 where
  pub real : Real (utc_of r).date
  pub from : day_number day_zero ≤ day_number (utc_of r).date + 3652
  pub to : day_number (utc_of r).date < day_number day_zero + 36525
  pub minute : (utc_of r).minute < day
  pub second : r.second ≤ 60
  pub last : (r.second < 60) ⊎ ((utc_of r).minute ≡ last_minute)
  pub value : counted r ≡ day_number (utc_of r).date * 86401 + ((utc_of r).minute * 60 + r.second)

-- the days before 1990 and before 2100
year_1990 : days_before_year 1990 ≡ 726833
unfolding days_before_year year_length leap_year
year_1990 = refl

year_2100 : days_before_year 2100 ≡ 767010
unfolding days_before_year year_length leap_year
year_2100 = refl

pub not_before : (y z : ℕ) → y ≤ z → days_before_year y ≤ days_before_year z
not_before y z h = go (ℕ_discrete y z)
  where
    go : Dec (y ≡ z) → days_before_year y ≤ days_before_year z
    go (yes e) = omega (arith, ap days_before_year e)
    go (no d) = omega (arith, year_later y z (omega arith))

pub parts : (base : ℕ) (r : Reading) (v : ℤ) → stamp_of base r ≡ stamp_is v → Parts r
parts base r v e =
    let p = stamp_is_lem base r v e in
    let k = checked_is base r p.checked in
    let u = universal base r k in
    let t = (utc_of r).date in
    let y = stamp_years t.year p.year in
    record {
      real = u.real;
      from = omega (arith, start_number, number_is t, u.real.one, not_before 1990 t.year y.0, year_1990);
      to = omega (arith, start_number, number_top t u.real, not_before (suc t.year) 2100 (omega arith), year_2100);
      minute = u.minute;
      second = k.second;
      last = sixty_last (utc_of r) r.second k.second k.leap;
      value = count_is (utc_of r) r.second;
    }
