-- Two digits and a base name one year of the base's hundred, and the year gives its digits back. Where nothing is said of the
-- base, it is any number: one that is no base has the hundred of 2000, and is refused before a year is asked for.
use mathlib.Core.Bool.{Bool, true, false, cond}
use mathlib.Core.Logic.{◌⊎◌, inl, inr, ⊎_elim}
use mathlib.Core.Path.{◌≡◌, refl}
use Prim.Native.Nat.{ℕ, ◌+◌, ◌%◌, ◌≤◌, ◌<◌}
use native.Mathlib.Omega.{arith}
use lib.Dec.{eqb, leb, ltb}
use borrow.Author.Tests.{le-leb, lt-ltb, leb-true, ltb-true, eqb-true}
use Rattle.laws.proofs.Bools.{both, either}
use Rattle.reading.specs.Years.{is_base, usual_base, first_year, in_hundred, year_of}

-- ---- the two bases

-- "1990 or 2000"
pub base_is : (b : ℕ) → is_base b ≡ true → (b ≡ 1990) ⊎ (b ≡ 2000)
unfolding is_base
base_is b e = ⊎_elim (λ h. inl (eqb-true b 1990 h)) (λ h. inr (eqb-true b 2000 h)) (either (eqb b 1990) (eqb b 2000) e)

-- each of them is one, and the second is what a program takes without an argument
pub both_bases : (is_base 1990 ≡ true) × (is_base 2000 ≡ true)
unfolding is_base
both_bases = (refl, refl)

pub usual_base_lem : is_base usual_base ≡ true
usual_base_lem = both_bases.1

-- the hundred of a base starts with it
pub starts_there : (b : ℕ) → is_base b ≡ true → first_year b ≡ b
unfolding first_year
starts_there b e = ⊎_elim (λ h. rw h) (λ h. rw h) (base_is b e)

-- and no hundred starts elsewhere
pub starts_between : (b : ℕ) → (1990 ≤ first_year b) × (first_year b ≤ 2000)
unfolding first_year
starts_between b = go (eqb b 1990)
  where
    go : (t : Bool) → (1990 ≤ cond t 1990 2000) × (cond t 1990 2000 ≤ 2000)
    go true = (omega arith, omega arith)
    go false = (omega arith, omega arith)

-- ---- the years of a hundred

pub hundred : (b y : ℕ) → in_hundred b y ≡ true → (first_year b ≤ y) × (y < first_year b + 100)
unfolding in_hundred
hundred b y e = let p = both (leb (first_year b) y) (ltb y (first_year b + 100)) e in (leb-true (first_year b) y p.0, ltb-true y (first_year b + 100) p.1)

pub in_hundred_lem : (b y : ℕ) → first_year b ≤ y → y < first_year b + 100 → in_hundred b y ≡ true
unfolding in_hundred
in_hundred_lem b y h k = rw (le-leb (first_year b) y h, lt-ltb y (first_year b + 100) k)

-- the year named is one of the hundred, and has the digits
pub year_in_lem : (b d : ℕ) → in_hundred b (year_of b d) ≡ true
unfolding year_of
year_in_lem b d = in_hundred_lem b (year_of b d) (omega arith) (omega arith)

pub digits_of : (b d : ℕ) → year_of b d % 100 ≡ d % 100
unfolding year_of
digits_of b d = omega arith

-- and it is the only one
pub year_back : (b y : ℕ) → in_hundred b y ≡ true → year_of b (y % 100) ≡ y
unfolding year_of
year_back b y e = let h = hundred b y e in omega arith

-- "the one matching year of the hundred that start there": from the base on, fewer than a hundred years later, with the digits
pub the_one_year : (b y d : ℕ) → is_base b ≡ true → b ≤ y → y < b + 100 → y % 100 ≡ d % 100 → y ≡ year_of b d
unfolding year_of
the_one_year b y d s h k e = let first = starts_there b s in omega arith
