-- Local time to UTC and back: the day and the minute of the day.
use Rattle.std.specs.Prelude.{cond, false, ℕ, ◌+◌, ◌-◌, ◌*◌, ◌/◌, ◌%◌, ltb, ℤ}
use Rattle.calendar.specs.declared.Date.{Date}
use Rattle.calendar.specs.Calendar.{day_after, day_before}
use Rattle.reading.specs.declared.Reading.{Reading}
use Rattle.reading.specs.declared.Utc.{Utc}
use Rattle.reading.specs.Offset.{unit, west, east}

-- the minutes of a day
abbrev pub day : ℕ
day = 1440

-- UTC is local time less the offset; in minutes from the start of the day before the local day
unfoldable pub utc_minutes : ℕ → ℕ → ℤ → ℕ
utc_minutes h m z = day + h * 60 + m + unit * west z - unit * east z

-- a minute of the day before, of the day itself, or of the day after
unfoldable pub on_day : Date → ℕ → Utc
on_day t n =
    cond (ltb n day) (record { date = day_before t; minute = n })
    (cond (ltb n (2 * day)) (record { date = t; minute = n - day }) (record { date = day_after t; minute = n - 2 * day }))

abbrev pub date_of : Reading → Date
date_of r = record { year = r.year; month = r.month; day = r.day }

unfoldable pub utc_of : Reading → Utc
utc_of r = on_day (date_of r) (utc_minutes r.hour r.minute r.offset.0)

-- ---- from one UTC minute to the next, and to local time

-- the minute after: the next one of the day, else the first of the day after
unfoldable pub minute_after : Utc → Utc
minute_after u =
    cond (ltb u.minute (day - 1)) (record { date = u.date; minute = u.minute + 1 }) (record { date = day_after u.date; minute = 0 })

-- a minute that no day has counts as its last
unfoldable pub within_day : ℕ → ℕ
within_day m = cond (ltb m day) m (day - 1)

-- local time is UTC and the offset; in minutes from the start of the day before the UTC day
unfoldable pub local_minutes : ℕ → ℤ → ℕ
local_minutes m z = day + within_day m + unit * east z - unit * west z

-- what a clock with this offset shows at the start of a minute of its own day: no flag is set, also not that of summer, and quality is 0
unfoldable pub shown_at : Date → ℕ → ℤ → Reading
shown_at t m z =
    record {
      year = t.year;
      month = t.month;
      day = t.day;
      hour = m / 60;
      minute = m % 60;
      second = 0;
      offset = record { 0 = z };
      summer = false;
      leap = false;
      change = false;
      quality = 0;
    }

-- what it shows at the start of a minute of UTC, on the day before, the day itself or the day after
unfoldable pub local_at : Utc → ℤ → Reading
local_at u z = let local = on_day u.date (local_minutes u.minute z) in shown_at local.date local.minute z
