-- The marks of a DCF77 minute, as tables of the crate `pulses`: a line for each field, as they stand in the paper.
-- Each decimal digit is a group of its own, so that its marks weigh 1, 2, 4 and 8.
use Rattle.std.specs.Prelude.{Bool, cond, List, [], ◌∷◌, ◌++◌, ℕ, ◌+◌, ◌*◌}
use Rattle.pulses.specs.Row.{unit, marks}

-- a mark of group g that weighs w
abbrev pub at : ℕ → ℕ → ℕ
at g w = g * unit + w

-- a mark that is always 0
abbrev pub zeroed : ℕ
zeroed = at 0 0

-- the missing mark, a 2
abbrev pub missing : ℕ
missing = at marks 0

-- a mark that is always 1
abbrev pub one : ℕ
one = at 1 0

-- ---- the groups of data

-- the head, 0..32767
abbrev pub head : ℕ
head = 3

-- a change of the offset is announced
abbrev pub change : ℕ
change = 4

-- the zone: mark 17 weighs 1 and mark 18 weighs 2
abbrev pub zone : ℕ
zone = 5

-- a leap second is announced
abbrev pub leap : ℕ
leap = 6

-- the last digit of the minute
abbrev pub minutes : ℕ
minutes = 7

-- the tens of the minute
abbrev pub tens_of_minutes : ℕ
tens_of_minutes = 8

-- the parity of the minute
abbrev pub minute_parity : ℕ
minute_parity = 9

-- the last digit of the hour
abbrev pub hours : ℕ
hours = 10

-- the tens of the hour
abbrev pub tens_of_hours : ℕ
tens_of_hours = 11

-- the parity of the hour
abbrev pub hour_parity : ℕ
hour_parity = 12

-- the last digit of the day
abbrev pub days : ℕ
days = 13

-- the tens of the day
abbrev pub tens_of_days : ℕ
tens_of_days = 14

-- the weekday, 1 is Monday
abbrev pub weekday : ℕ
weekday = 15

-- the last digit of the month
abbrev pub months : ℕ
months = 16

-- the tens of the month
abbrev pub tens_of_months : ℕ
tens_of_months = 17

-- the last digit of the year
abbrev pub years : ℕ
years = 18

-- the tens of the year
abbrev pub tens_of_years : ℕ
tens_of_years = 19

-- the parity of day, weekday, month and year
abbrev pub date_parity : ℕ
date_parity = 20

-- the marks 0 to 58, which both forms share
unfoldable pub shared_marks : List ℕ
shared_marks =
    zeroed ∷ at head 1 ∷ at head 2 ∷ at head 4 ∷ at head 8 ∷ at head 16 ∷ at head 32 ∷ at head 64 ∷ at head 128 ∷ at head 256 ∷ at head 512 ∷ at head 1024 ∷ at head 2048 ∷ at head 4096 ∷ at head 8192 ∷ at head 16384
    ∷ at change 1 ∷ at zone 1 ∷ at zone 2 ∷ at leap 1 ∷ one
    ∷ at minutes 1 ∷ at minutes 2 ∷ at minutes 4 ∷ at minutes 8 ∷ at tens_of_minutes 1 ∷ at tens_of_minutes 2 ∷ at tens_of_minutes 4 ∷ at minute_parity 1
    ∷ at hours 1 ∷ at hours 2 ∷ at hours 4 ∷ at hours 8 ∷ at tens_of_hours 1 ∷ at tens_of_hours 2 ∷ at hour_parity 1
    ∷ at days 1 ∷ at days 2 ∷ at days 4 ∷ at days 8 ∷ at tens_of_days 1 ∷ at tens_of_days 2
    ∷ at weekday 1 ∷ at weekday 2 ∷ at weekday 4
    ∷ at months 1 ∷ at months 2 ∷ at months 4 ∷ at months 8 ∷ at tens_of_months 1
    ∷ at years 1 ∷ at years 2 ∷ at years 4 ∷ at years 8 ∷ at tens_of_years 1 ∷ at tens_of_years 2 ∷ at tens_of_years 4 ∷ at tens_of_years 8 ∷ at date_parity 1
    ∷ []

-- what follows them: the missing mark, and in the long form a 0 before it
unfoldable pub last_marks : Bool → List ℕ
last_marks long = cond long (zeroed ∷ missing ∷ []) (missing ∷ [])

-- the 60 marks of a minute, the 61 of a long one
unfoldable pub minute_marks : Bool → List ℕ
minute_marks long = shared_marks ++ last_marks long
