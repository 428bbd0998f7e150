-- The weekday: it starts as the paper says, moves by one a day, and repeats by seven.
use mathlib.Core.Bool.{cond}
use mathlib.Core.Path.{◌≡◌, refl}
use Prim.Native.Nat.{◌+◌, ◌%◌, ◌≤◌, ◌<◌}
use native.Mathlib.Decide.{ℕ_discrete}
use native.Mathlib.Omega.{arith}
use lib.Dec.{eqb}
use borrow.Author.Tests.{eq-eqb, ne_eqb}
use Rattle.calendar.specs.declared.Date.{Date}
use Rattle.calendar.specs.Calendar.{leap_year, days_in, days_before, year_length, days_before_year, day_of_year, day_number, weekday_of, day_after}
use Rattle.calendar.proofs.DateLaws.{Real, last_number, day_after_is}

-- 1 January 2000
abbrev pub start : Date
start = record { year = 2000; month = 1; day = 1 }

pub start_number : day_number start ≡ 730486
unfolding day_number day_of_year days_before_year days_before days_in year_length leap_year
start_number = refl

pub start_saturday : weekday_of start ≡ 6
unfolding weekday_of
start_saturday = rw start_number

pub weekday_is : (t : Date) → weekday_of t ≡ (day_number t + 4) % 7 + 1
unfolding weekday_of
weekday_is t = refl

pub weekday_range : (t : Date) → (1 ≤ weekday_of t) × (weekday_of t ≤ 7)
weekday_range t = (omega (arith, weekday_is t), omega (arith, weekday_is t))

pub week_later : (s t : Date) → day_number t ≡ day_number s + 7 → weekday_of t ≡ weekday_of s
week_later s t e = omega (arith, weekday_is s, weekday_is t)

pub day_later : (t : Date) → Real t → day_number t < last_number → weekday_of (day_after t) ≡ cond (eqb (weekday_of t) 7) 1 (weekday_of t + 1)
day_later t p h = go (ℕ_discrete (weekday_of t) 7)
  where
    next : day_number (day_after t) ≡ day_number t + 1
    next = (day_after_is t p h).1

    go : Dec (weekday_of t ≡ 7) → weekday_of (day_after t) ≡ cond (eqb (weekday_of t) 7) 1 (weekday_of t + 1)
    go (yes e) = rw (eq-eqb (weekday_of t) 7 e) (omega (arith, next, weekday_is t, weekday_is (day_after t)))
    go (no d) = rw (ne_eqb (weekday_of t) 7 d) (omega (arith, next, weekday_is t, weekday_is (day_after t)))
