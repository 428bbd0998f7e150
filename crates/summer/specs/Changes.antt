-- The two changes of a year. L8: "Summer begins and ends at 01:00 UTC on the first day, at or after a set date, that falls on a set weekday".
use Rattle.std.specs.Prelude.{Bool, not, ◌&&◌, ◌||◌, ℕ, ◌+◌, ◌-◌, ◌*◌, ◌%◌, eqb, leb, ltb}
use Rattle.calendar.specs.declared.Date.{Date}
use Rattle.calendar.specs.Calendar.{leap_year, day_of_year, weekday_of, month_day}
use Rattle.summer.specs.declared.SetDay.{SetDay}
use Rattle.summer.specs.declared.SummerRule.{SummerRule}

-- the set date in a year
abbrev pub set_date : SetDay → ℕ → Date
set_date s y = record { year = y; month = s.month; day = s.day }

-- the days from one weekday to the next time that another one comes; none where they are the same
unfoldable pub days_until : ℕ → ℕ → ℕ
days_until from to = (to + 7 - from) % 7

-- "the first day, at or after a set date, that falls on a set weekday", as a day of the year
abbrev pub first_at_or_after : Date → ℕ → ℕ
first_at_or_after t weekday = day_of_year t + days_until (weekday_of t) weekday

-- the day of year y that a set day stands for
abbrev pub change_day : SetDay → ℕ → ℕ
change_day s y = first_at_or_after (set_date s y) s.weekday

-- the same as a date
unfoldable pub change_date : SetDay → ℕ → Date
change_date s y = record { year = y; month = (month_day (leap_year y) (change_day s y)).month; day = (month_day (leap_year y) (change_day s y)).day }

-- the minutes of a day, and "01:00 UTC" in them
abbrev pub day : ℕ
day = 1440

abbrev pub change_minute : ℕ
change_minute = 60

-- minute m of day t of UTC is at or after the change of its year
unfoldable pub changed : SetDay → Date → ℕ → Bool
changed s t m = leb (change_day s t.year * day + change_minute) (day_of_year t * day + m)

-- it is summer from the one change on, until the other
unfoldable pub is_summer : SummerRule → Date → ℕ → Bool
is_summer rule t m = changed rule.start t m && not (changed rule.end t m)

-- minute m of day t lies in "the hour before a change", from 00:00 to 00:59 UTC of its day
unfoldable pub hour_before : SetDay → Date → ℕ → Bool
hour_before s t m = eqb (day_of_year t) (change_day s t.year) && ltb m change_minute

-- "change announced is set in telegrams sent during the hour before a change"
unfoldable pub announces_change : SummerRule → Date → ℕ → Bool
announces_change rule t m = hour_before rule.start t m || hour_before rule.end t m
