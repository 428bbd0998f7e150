-- The base year, the hundred years that start with it, and the two digits that name one of them.
use Rattle.std.specs.Prelude.{Bool, cond, ◌&&◌, ◌||◌, ℕ, ◌+◌, ◌-◌, ◌%◌, eqb, leb, ltb}

-- L12: "a base year, 1990 or 2000"
unfoldable pub is_base : ℕ → Bool
is_base b = eqb b 1990 || eqb b 2000

-- what a program takes that is given no base: "2000 without one"
abbrev pub usual_base : ℕ
usual_base = 2000

-- the first of "the hundred that start there". Any other base is refused before a year is asked for, so that it does not matter here
-- that it counts as 2000
unfoldable pub first_year : ℕ → ℕ
first_year b = cond (eqb b 1990) 1990 2000

-- one of the hundred years of a base: 01's "Local year 2000..2099", which L12 has start with the base
unfoldable pub in_hundred : ℕ → ℕ → Bool
in_hundred b y = leb (first_year b) y && ltb y (first_year b + 100)

-- "the one matching year of the hundred": the one with the two last digits d
unfoldable pub year_of : ℕ → ℕ → ℕ
year_of b d = first_year b + (d + (100 - first_year b % 100)) % 100
