-- Which stamps are negative. From 2000 on a stamp is the number that it was before L12, before 2000 it lies below zero; and where a reading
-- is read with the base 2000 its UTC lies before 2000 on 31 December 1999 alone.
use Rattle.reading.specs.Faults.{no_fault}
use mathlib.Core.Bool.{true}
use mathlib.Core.Path.{◌≡◌, refl, ap, ◌∙◌}
use Prim.Native.Nat.{ℕ, suc, ◌+◌, ◌-◌, ◌*◌, ◌≤◌, ◌<◌}
use native.Mathlib.Omega.{arith}
use lib.IntN.{ℤ, pos, negsuc, sub_ℕ}
use borrow.Author.Tests.{lt-ltb, le-ltb}
use Rattle.calendar.specs.declared.Date.{Date}
use Rattle.calendar.specs.Calendar.{leap_year, days_in, days_before, day_of_year, days_before_year, year_length, day_number, is_month, last_day, is_day, is_date}
use Rattle.calendar.proofs.DateLaws.{Real, real, number_is, number_top, same_number}
use Rattle.calendar.proofs.WeekdayLaws.{start_number}
use Rattle.reading.specs.declared.Reading.{Reading}
use Rattle.reading.specs.Universal.{date_of, utc_of}
use Rattle.reading.specs.Checks.{checked_of}
use Rattle.reading.specs.Stamps.{day_zero, stamp_is, stamp_of}
use Rattle.reading.proofs.YearLaws.{starts_there, hundred}
use Rattle.reading.proofs.OffsetLaws.{offset_range}
use Rattle.reading.proofs.CheckLaws.{checked_is}
use Rattle.reading.proofs.UtcLaws.{universal}
use Rattle.reading.proofs.StampLaws.{not_before, counted, stamp_count, parts}

year_2000 : days_before_year 2000 ≡ 730485
unfolding days_before_year year_length leap_year
year_2000 = refl

-- a date from 2000 on is day 0 or later, and one before it is earlier
from_day-zero : (t : Date) → Real t → 2000 ≤ t.year → 730486 ≤ day_number t
from_day-zero t p h = omega (arith, number_is t, p.one, not_before 2000 t.year h, year_2000)

before_day-zero : (t : Date) → Real t → t.year < 2000 → day_number t < 730486
before_day-zero t p h = omega (arith, number_top t p, not_before (suc t.year) 2000 h, year_2000)

not-less : (a b : ℕ) → b ≤ a → sub_ℕ a b ≡ pos (a - b)
not-less a b h = rw (le-ltb a b h)

less : (a b : ℕ) → a < b → sub_ℕ a b ≡ negsuc (b - suc a)
less a b h = rw (lt-ltb a b h)

module _ (base : ℕ) (r : Reading) (v : ℤ) (e : stamp_of base r ≡ stamp_is v) where
  -- "UTC day number times 86401 plus UTC second of the day. Day 0 is 1 January 2000.": by L12 "day 0 unchanged"
  pub from_2000 : 2000 ≤ (utc_of r).date.year → v ≡ pos ((day_number (utc_of r).date - day_number day_zero) * 86401 + ((utc_of r).minute * 60 + r.second))
  from_2000 h =
      let p = parts base r v e in
      let d = from_day-zero (utc_of r).date p.real h in
      let n : counted r - 63114720886 ≡ (day_number (utc_of r).date - day_number day_zero) * 86401 + ((utc_of r).minute * 60 + r.second) = omega (arith, p.value, start_number) in
      stamp_count base r v e ∙ not-less (counted r) 63114720886 (omega (arith, p.value)) ∙ ap pos n

  -- "negative before 2000"
  pub before_2000 : (utc_of r).date.year < 2000 → (n : ℕ) × (v ≡ negsuc n)
  before_2000 h =
      let p = parts base r v e in
      let d = before_day-zero (utc_of r).date p.real h in
      let m = p.minute in
      let s = p.second in
      (63114720886 - suc (counted r), stamp_count base r v e ∙ less (counted r) 63114720886 (omega (arith, p.value)))

-- "With base 2000 every answer of 01 stays but stamps on UTC day 31 December 1999"

last_day_number : day_number (record { year = 1999; month = 12; day = 31 }) ≡ 730485
unfolding day_number day_of_year days_before days_in days_before_year year_length leap_year
last_day_number = refl

last_day_real : is_date (record { year = 1999; month = 12; day = 31 }) ≡ true
unfolding is_date is_month is_day last_day days_in leap_year
last_day_real = refl

pub that_day_alone : (r : Reading) → checked_of 2000 r ≡ no_fault → (utc_of r).date.year < 2000 → (utc_of r).date ≡ record { year = 1999; month = 12; day = 31 }
that_day_alone r e h =
    let c = checked_is 2000 r e in
    let u = universal 2000 r c in
    let y = hundred 2000 r.year c.year in
    let first = starts_there 2000 c.base_good in
    let q = real (date_of r) c.date in
    let from = from_day-zero (date_of r) q (omega arith) in
    let to = before_day-zero (utc_of r).date u.real h in
    let o = offset_range r.offset.0 c.offset in
    let m = u.minutes in
    let k = u.minute in
    same_number (utc_of r).date _ u.real (real _ last_day_real) (omega (arith, last_day_number))
