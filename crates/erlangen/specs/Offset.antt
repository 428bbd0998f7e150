-- The offset of a string: a sign, hours and minutes, and the units of a reading that they are.
use Rattle.std.specs.Prelude.{Bool, cond, not, ◌&&◌, ◌||◌, ℕ, ◌+◌, ◌*◌, ◌/◌, ◌%◌, eqb, ltb, ℤ, pos}
use Rattle.reading.specs.Offset.{unit, westmost, eastmost, west, east, opposite}

-- minutes of an hour that are whole units: "minutes 00, 15, 30 and 45"
unfoldable pub whole_units : ℕ → Bool
whole_units minutes = ltb minutes 60 && eqb (minutes % unit) 0

-- the units of hours and minutes
unfoldable pub units_of : ℕ → ℕ → ℕ
units_of hours minutes = (60 * hours + minutes) / unit

-- farther from UTC than an offset goes
unfoldable pub too_far : Bool → ℕ → Bool
too_far behind units = ltb (cond behind westmost eastmost) units

-- "offset out of range, not quarter hours, minus zero": 01's sentence as L9 amends it
unfoldable pub offset_bad : Bool → ℕ → ℕ → Bool
offset_bad behind hours minutes =
    not (whole_units minutes) || (behind && eqb (units_of hours minutes) 0 || too_far behind (units_of hours minutes))

-- so many units behind UTC, or ahead of it
unfoldable pub signed : Bool → ℕ → ℤ
signed behind units = cond behind (opposite (pos units)) (pos units)

-- the offset of a sign, hours and minutes; 0 where these are none
unfoldable pub offset_of : Bool → ℕ → ℕ → ℤ
offset_of behind hours minutes = cond (offset_bad behind hours minutes) (pos 0) (signed behind (units_of hours minutes))

-- an offset is written with a minus
unfoldable pub is_behind : ℤ → Bool
is_behind z = ltb 0 (west z)

-- the minutes by which an offset differs from UTC, to either side
unfoldable pub minutes_of : ℤ → ℕ
minutes_of z = unit * (west z + east z)
