-- The leap rule, and the windows before a leap second and before a change. The rule is 01's as amended by L3: what 01 says of
-- June and December holds of every month.
use Rattle.std.specs.Prelude.{Bool, not, ◌&&◌, ℕ, ◌%◌, eqb, leb}
use Rattle.calendar.specs.declared.Date.{Date}
use Rattle.calendar.specs.Calendar.{leap_year, days_in, day_before}
use Rattle.reading.specs.declared.Utc.{Utc}
use Rattle.reading.specs.Universal.{day}

-- a leap second may close the day. 01: "on 30 June or 31 December"; amended by L3: "a leap second may close any UTC month". So it is
-- the last day of its month
unfoldable pub closes_with_leap : Date → Bool
closes_with_leap t = eqb t.day (days_in (leap_year t.year) t.month)

-- 23:59
abbrev pub last_minute : ℕ
last_minute = 1439

-- UTC is 23:59 of such a day
unfoldable pub leap_minute : Utc → Bool
leap_minute u = eqb u.minute last_minute && closes_with_leap u.date

-- how the minute is looked at before the date: so many minutes from the start of a day come to a 23:59
unfoldable pub ends_day : ℕ → Bool
ends_day n = eqb (n % day) last_minute

-- "Second 60 is allowed only where UTC is 23:59:60 on 30 June or 31 December"; amended by L3: "at every month end"
unfoldable pub sixty_bad : Utc → ℕ → Bool
sixty_bad u s = eqb s 60 && not (leap_minute u)

-- the seconds 1..59 of a minute
unfoldable pub within_minute : ℕ → Bool
within_minute s = leb 1 s && leb s 59

-- "UTC is 23:59:01..23:59:59 on 30 June or 31 December"; amended by L3: "at every month end"
unfoldable pub leap_window : Utc → ℕ → Bool
leap_window u s = leap_minute u && within_minute s

-- "local minute is 59, second 1..59"
unfoldable pub change_window : ℕ → ℕ → Bool
change_window m s = eqb m 59 && within_minute s

-- 00:00 UTC of the day after one that a leap second may close: "00:00 UTC of 1 January or 1 July"; amended by L3: "00:00 UTC on
-- the first of any month"
unfoldable pub after_leap : Utc → Bool
after_leap u = eqb u.minute 0 && closes_with_leap (day_before u.date)
