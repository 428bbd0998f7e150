-- The days of the years before a year, by the leap years' rule instead of by counting.
use mathlib.Core.Bool.{Bool, true, false, not, cond, ◌&&◌, ◌||◌}
use mathlib.Core.Path.{◌≡◌, refl, ap}
use Prim.Native.Nat.{ℕ, zero, suc, ◌+◌, ◌*◌, ◌/◌, ◌%◌, ◌≤◌, ◌<◌}
use native.Mathlib.Nat.{not-suc-le-zero}
use native.Mathlib.Decide.{ℕ_discrete}
use native.Mathlib.Omega.{arith}
use lib.Dec.{eqb}
use borrow.Author.Tests.{eqb-true, eqb-false}
use Rattle.calendar.specs.Calendar.{leap_year, year_length, days_before_year}

pub year_next : (y : ℕ) → days_before_year (suc y) ≡ days_before_year y + year_length (leap_year y)
unfolding days_before_year
year_next y = refl

pub year_later : (y z : ℕ) → y < z → days_before_year y + year_length (leap_year y) ≤ days_before_year z
year_later y zero h = absurd (not-suc-le-zero h)
year_later y (suc z) h = go (year_later y z) (ℕ_discrete y z)
  where
    go : (y < z → days_before_year y + year_length (leap_year y) ≤ days_before_year z) → Dec (y ≡ z) → days_before_year y + year_length (leap_year y) ≤ days_before_year (suc z)
    go r (yes e) = omega (arith, year_next z, ap days_before_year e, ap (λ (x : ℕ). year_length (leap_year x)) e)
    go r (no d) = omega (arith, year_next z, r (omega arith))

-- a multiple of n lies between y and the next year exactly where n divides y
abbrev hit : Bool → ℕ
hit b = cond b 1 0

fours : (y : ℕ) (b : Bool) → eqb (y % 4) 0 ≡ b → (suc y + 3) / 4 ≡ (y + 3) / 4 + hit b
fours y true e = omega (arith, eqb-true (y % 4) 0 e)
fours y false e = omega (arith, eqb-false (y % 4) 0 e)

hundreds : (y : ℕ) (b : Bool) → eqb (y % 100) 0 ≡ b → (suc y + 99) / 100 ≡ (y + 99) / 100 + hit b
hundreds y true e = omega (arith, eqb-true (y % 100) 0 e)
hundreds y false e = omega (arith, eqb-false (y % 100) 0 e)

four_hundreds : (y : ℕ) (b : Bool) → eqb (y % 400) 0 ≡ b → (suc y + 399) / 400 ≡ (y + 399) / 400 + hit b
four_hundreds y true e = omega (arith, eqb-true (y % 400) 0 e)
four_hundreds y false e = omega (arith, eqb-false (y % 400) 0 e)

-- the leap day of a year: a hundred is a four, and a four hundred a hundred
leap_day_lem : (y : ℕ) (a b c : Bool) → eqb (y % 4) 0 ≡ a → eqb (y % 100) 0 ≡ b → eqb (y % 400) 0 ≡ c → 365 + hit a + hit c ≡ year_length (a && (not b || c)) + hit b
unfolding year_length
leap_day_lem y true true true p q r = refl
leap_day_lem y true true false p q r = refl
leap_day_lem y true false true p q r = omega (arith, eqb-false (y % 100) 0 q, eqb-true (y % 400) 0 r)
leap_day_lem y true false false p q r = refl
leap_day_lem y false true true p q r = omega (arith, eqb-false (y % 4) 0 p, eqb-true (y % 100) 0 q)
leap_day_lem y false true false p q r = omega (arith, eqb-false (y % 4) 0 p, eqb-true (y % 100) 0 q)
leap_day_lem y false false true p q r = omega (arith, eqb-false (y % 4) 0 p, eqb-true (y % 400) 0 r)
leap_day_lem y false false false p q r = refl

next_year : (y : ℕ) → 365 + (suc y + 3) / 4 + (suc y + 399) / 400 + (y + 99) / 100 ≡ year_length (leap_year y) + (y + 3) / 4 + (y + 399) / 400 + (suc y + 99) / 100
unfolding leap_year
next_year y =
    let a = eqb (y % 4) 0 in
    let b = eqb (y % 100) 0 in
    let c = eqb (y % 400) 0 in
    omega (arith, fours y a refl, hundreds y b refl, four_hundreds y c refl, leap_day_lem y a b c refl refl refl)

pub years_formula : (y : ℕ) → 365 * y + (y + 3) / 4 + (y + 399) / 400 ≡ days_before_year y + (y + 99) / 100
unfolding days_before_year
years_formula zero = refl
years_formula (suc y) = omega (arith, years_formula y, next_year y)
