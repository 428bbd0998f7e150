-- The two forms of a DCF77 minute, which of them is due, and the places of its fields.
use Rattle.std.specs.Prelude.{Bool, cond, ◌&&◌, ℕ}
use Rattle.reading.specs.declared.Reading.{Reading}
use Rattle.reading.specs.Universal.{utc_of}
use Rattle.reading.specs.Leap.{after_leap}

-- the marks of a minute
abbrev pub short_length : ℕ
short_length = 60

-- the marks of a minute with a leap second
abbrev pub long_length : ℕ
long_length = 61

-- the length of a form
unfoldable pub length_of : Bool → ℕ
length_of long = cond long long_length short_length

-- the last place of a form
unfoldable pub last_of : Bool → ℕ
last_of long = cond long 60 59

-- "exactly when leap is announced and the named minute is 00:00 UTC of 1 January or 1 July", which by L3 "becomes 00:00 UTC on the
-- first of any month"
unfoldable pub due_long : Reading → Bool
due_long r = r.leap && after_leap (utc_of r)

-- ---- where each field begins, and where its parity mark stands

-- the marks 17 and 18, the zone
abbrev pub zone_place : ℕ
zone_place = 17

-- the marks 21 to 27, the minute
abbrev pub minute_place : ℕ
minute_place = 21

-- the parity of the minute
abbrev pub minute_parity_place : ℕ
minute_parity_place = 28

-- the marks 29 to 34, the hour
abbrev pub hour_place : ℕ
hour_place = 29

-- the parity of the hour
abbrev pub hour_parity_place : ℕ
hour_parity_place = 35

-- the marks 36 to 41, the day
abbrev pub day_place : ℕ
day_place = 36

-- the marks 42 to 44, the weekday
abbrev pub weekday_place : ℕ
weekday_place = 42

-- the marks 45 to 49, the month
abbrev pub month_place : ℕ
month_place = 45

-- the marks 50 to 57, the year
abbrev pub year_place : ℕ
year_place = 50

-- the parity of day, weekday, month and year
abbrev pub date_parity_place : ℕ
date_parity_place = 58
