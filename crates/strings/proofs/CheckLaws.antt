-- What a string without a fault says: each check's fact, and back. And what an answer that tells a time says of the verdict behind it.
use Rattle.reading.specs.declared.Fault.{Fault}
use Rattle.std.specs.Prelude.{Err, Ok}
use Rattle.reading.specs.Faults.{Verdict, first, no_fault}
use Rattle.reading.specs.Writing.{and_then}
use mathlib.Core.Bool.{Bool, true, false, ◌||◌}
use mathlib.Core.Path.{◌≡◌, refl, ap, ◌∙◌}
use Prim.Native.Nat.{ℕ, ◌≤◌}
use native.Mathlib.Omega.{arith}
use borrow.Author.Tests.{ltb-false, le-ltb}
use Rattle.laws.proofs.Bools.{neither}
use Rattle.calendar.specs.Calendar.{weekday_of, is_date}
use Rattle.calendar.proofs.WeekdayLaws.{weekday_range}
use Rattle.reading.specs.declared.Reading.{Reading}
use Rattle.reading.specs.Universal.{date_of, utc_of}
use Rattle.reading.specs.Leap.{sixty_bad}
use Rattle.reading.specs.Checks.{hour_bad, minute_bad, second_bad, day_bad, month_bad, weekday_wrong}
use Rattle.reading.proofs.CheckLaws.{first_good, date_there, date_parts, weekday_there, weekday_fits, clash}
use Rattle.strings.specs.declared.Places.{Places}
use Rattle.strings.specs.Checks.{weekday_bad, time_fault, date_fault, rest_fault, fault_of, answer_of}

-- the first fault of three checks comes before those of the checks after them
three_first : (a b c : Bool) (x y z : Fault) (w : Verdict) → first a x (first b y (first c z w)) ≡ and_then (first a x (first b y (first c z no_fault))) w
three_first true b c x y z w = refl
three_first false true c x y z w = refl
three_first false false true x y z w = refl
three_first false false false x y z w = refl

-- the three checks one after the other
pub in_steps : (r : Reading) (w : ℕ) (offset mark : Bool) (p : Places)
    → fault_of r w offset mark p
    ≡ and_then (time_fault (hour_bad r.hour) (minute_bad r.minute) (second_bad r.second) p no_fault)
    (and_then (date_fault (day_bad r) (month_bad r) (weekday_bad w) p no_fault)
    (rest_fault (weekday_wrong r w) offset (sixty_bad (utc_of r) r.second || mark) p))
unfolding fault_of
in_steps r w offset mark p =
    let time = three_first (hour_bad r.hour) (minute_bad r.minute) (second_bad r.second) _ _ _ _ in
    let date = three_first (day_bad r) (month_bad r) (weekday_bad w) _ _ _ _ in
    time ∙ ap (and_then (time_fault (hour_bad r.hour) (minute_bad r.minute) (second_bad r.second) p no_fault)) date

pub record Sound (r : Reading) (w : ℕ) (offset mark : Bool) : Type 0 where
  pub hour : r.hour ≤ 23
  pub minute : r.minute ≤ 59
  pub second : r.second ≤ 60
  pub date : is_date (date_of r) ≡ true
  pub weekday : w ≡ weekday_of (date_of r)
  pub offset_good : offset ≡ false
  pub mark_good : mark ≡ false
  pub leap : sixty_bad (utc_of r) r.second ≡ false

module _ (r : Reading) (w : ℕ) (offset mark : Bool) (p : Places) where
  pub sound : fault_of r w offset mark p ≡ no_fault → Sound r w offset mark
  unfolding fault_of
  sound e =
      let hour = first_good (hour_bad r.hour) _ _ e in
      let minute = first_good (minute_bad r.minute) _ _ hour.1 in
      let second = first_good (second_bad r.second) _ _ minute.1 in
      let day = first_good (day_bad r) _ _ second.1 in
      let month = first_good (month_bad r) _ _ day.1 in
      let range = first_good (weekday_bad w) _ _ month.1 in
      let wrong = first_good (weekday_wrong r w) _ _ range.1 in
      let zone = first_good offset _ _ wrong.1 in
      let leap = first_good (sixty_bad (utc_of r) r.second || mark) _ _ zone.1 in
      let nine = neither (sixty_bad (utc_of r) r.second) mark leap.0 in
      record {
        hour = ltb-false 23 r.hour hour.0;
        minute = ltb-false 59 r.minute minute.0;
        second = ltb-false 60 r.second second.0;
        date = date_there r day.0 month.0;
        weekday = weekday_there r w wrong.0;
        offset_good = zone.0;
        mark_good = nine.1;
        leap = nine.0;
      }

  pub faultless : Sound r w offset mark → fault_of r w offset mark p ≡ no_fault
  unfolding fault_of weekday_bad
  faultless s =
      let date = date_parts r s.date in
      let week = weekday_range (date_of r) in
      let low : 1 ≤ w = omega (arith, s.weekday) in
      let high : w ≤ 7 = omega (arith, s.weekday) in
      rw (
        le-ltb 23 r.hour s.hour,
        le-ltb 59 r.minute s.minute,
        le-ltb 60 r.second s.second,
        date.1,
        date.0,
        le-ltb w 1 low,
        le-ltb 7 w high,
        weekday_fits r w s.weekday,
        s.offset_good,
        s.leap,
        s.mark_good,
      )

-- a time is told where nothing is at fault, and it is the one that the string says
pub told_of : (v : Verdict) (m r : Reading) (a b : Bool) → answer_of v m a ≡ Ok (r, b) → (v ≡ no_fault) × (m ≡ r) × (a ≡ b)
told_of (Ok done) m r a b e =
    let both : ◌≡◌ {A = Reading × Bool} (m, a) (r, b) = cc in
    (refl, ap (λ (x : Reading × Bool). x.0) both, ap (λ (x : Reading × Bool). x.1) both)
told_of (Err x) m r a b e = let z : ◌≡◌ {A = ℕ} 0 1 = cc in clash z
