-- The pulses of an IEEE 1344 frame, as a table of the crate `pulses`: ten to a line, as they stand in the paper.
-- Each decimal digit is a group of its own, so that its pulses weigh 1, 2, 4 and 8.
use Rattle.std.specs.Prelude.{List, [], ◌∷◌, ℕ, ◌+◌, ◌*◌}
use Rattle.pulses.specs.Row.{unit, marks}

-- a pulse of group g that weighs w
abbrev pub at : ℕ → ℕ → ℕ
at g w = g * unit + w

-- a pulse that is always 0
abbrev pub zeroed : ℕ
zeroed = at 0 0

-- a position mark
abbrev pub mark : ℕ
mark = at marks 0

-- ---- the groups of data

-- the last digit of the second
abbrev pub seconds : ℕ
seconds = 3

-- the tens of the second
abbrev pub tens_of_seconds : ℕ
tens_of_seconds = 4

-- the last digit of the minute
abbrev pub minutes : ℕ
minutes = 5

-- the tens of the minute
abbrev pub tens_of_minutes : ℕ
tens_of_minutes = 6

-- the last digit of the hour
abbrev pub hours : ℕ
hours = 7

-- the tens of the hour
abbrev pub tens_of_hours : ℕ
tens_of_hours = 8

-- the last digit of the day of the year
abbrev pub days : ℕ
days = 9

-- the tens of the day of the year
abbrev pub tens_of_days : ℕ
tens_of_days = 10

-- the hundreds of the day of the year
abbrev pub hundreds_of_days : ℕ
hundreds_of_days = 11

-- the last digit of the year
abbrev pub years : ℕ
years = 12

-- the tens of the year
abbrev pub tens_of_years : ℕ
tens_of_years = 13

-- a leap second is pending
abbrev pub leap_pending : ℕ
leap_pending = 14

-- the leap second is a deletion
abbrev pub deletion : ℕ
deletion = 15

-- a change of summer time is pending
abbrev pub change_pending : ℕ
change_pending = 16

-- summer time
abbrev pub summer : ℕ
summer = 17

-- the sign of the offset, 1 for minus
abbrev pub minus : ℕ
minus = 18

-- the hours of the offset
abbrev pub offset_hours : ℕ
offset_hours = 19

-- the half hour of the offset
abbrev pub half_hour : ℕ
half_hour = 20

-- the quality
abbrev pub quality : ℕ
quality = 21

-- the parity
abbrev pub parity : ℕ
parity = 22

-- the second of the day, binary
abbrev pub second_of_day : ℕ
second_of_day = 23

-- the hundred pulses
unfoldable pub frame_pulses : List ℕ
frame_pulses =
    mark ∷ at seconds 1 ∷ at seconds 2 ∷ at seconds 4 ∷ at seconds 8 ∷ zeroed ∷ at tens_of_seconds 1 ∷ at tens_of_seconds 2 ∷ at tens_of_seconds 4 ∷ mark
    ∷ at minutes 1 ∷ at minutes 2 ∷ at minutes 4 ∷ at minutes 8 ∷ zeroed ∷ at tens_of_minutes 1 ∷ at tens_of_minutes 2 ∷ at tens_of_minutes 4 ∷ zeroed ∷ mark
    ∷ at hours 1 ∷ at hours 2 ∷ at hours 4 ∷ at hours 8 ∷ zeroed ∷ at tens_of_hours 1 ∷ at tens_of_hours 2 ∷ zeroed ∷ zeroed ∷ mark
    ∷ at days 1 ∷ at days 2 ∷ at days 4 ∷ at days 8 ∷ zeroed ∷ at tens_of_days 1 ∷ at tens_of_days 2 ∷ at tens_of_days 4 ∷ at tens_of_days 8 ∷ mark
    ∷ at hundreds_of_days 1 ∷ at hundreds_of_days 2 ∷ zeroed ∷ zeroed ∷ zeroed ∷ zeroed ∷ zeroed ∷ zeroed ∷ zeroed ∷ mark
    ∷ at years 1 ∷ at years 2 ∷ at years 4 ∷ at years 8 ∷ zeroed ∷ at tens_of_years 1 ∷ at tens_of_years 2 ∷ at tens_of_years 4 ∷ at tens_of_years 8 ∷ mark
    ∷ at leap_pending 1 ∷ at deletion 1 ∷ at change_pending 1 ∷ at summer 1 ∷ at minus 1 ∷ at offset_hours 1 ∷ at offset_hours 2 ∷ at offset_hours 4 ∷ at offset_hours 8 ∷ mark
    ∷ at half_hour 1 ∷ at quality 1 ∷ at quality 2 ∷ at quality 4 ∷ at quality 8 ∷ at parity 1 ∷ zeroed ∷ zeroed ∷ zeroed ∷ mark
    ∷ at second_of_day 1 ∷ at second_of_day 2 ∷ at second_of_day 4 ∷ at second_of_day 8 ∷ at second_of_day 16 ∷ at second_of_day 32 ∷ at second_of_day 64 ∷ at second_of_day 128 ∷ at second_of_day 256 ∷ mark
    ∷ at second_of_day 512 ∷ at second_of_day 1024 ∷ at second_of_day 2048 ∷ at second_of_day 4096 ∷ at second_of_day 8192 ∷ at second_of_day 16384 ∷ at second_of_day 32768 ∷ at second_of_day 65536 ∷ zeroed ∷ mark
    ∷ []
