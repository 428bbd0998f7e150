-- What an IEEE 1344 frame says, field by field. v holds what each group of its pulses adds up to.
use Rattle.std.specs.Prelude.{Bool, ◌&&◌, ◌||◌, not, List, ℕ, ◌+◌, ◌*◌, ◌<◌, ◌≤◌, eqb, ℤ, get_or}
use Rattle.calendar.specs.declared.MonthDay.{MonthDay}
use Rattle.calendar.specs.Calendar.{leap_year, in_year, month_day}
use Rattle.reading.specs.declared.Reading.{Reading}
use Rattle.reading.specs.Years.{year_of}
use Rattle.reading.specs.Offset.{offset_good, local_of}
use Rattle.pulses.specs.Row.{first_data}
use Rattle.irig_table.specs.Table.{
  seconds,
  tens_of_seconds,
  minutes,
  tens_of_minutes,
  hours,
  tens_of_hours,
  days,
  tens_of_days,
  hundreds_of_days,
  years,
  tens_of_years,
  leap_pending,
  change_pending,
  summer,
  minus,
  offset_hours,
  half_hour,
  quality,
  parity,
  second_of_day,
}
use Rattle.irig.specs.Offset.{amount_of}

-- what group g says
abbrev pub said : List ℕ → ℕ → ℕ
said v g = get_or v g 0

-- group g, which has one pulse, is set
abbrev pub is_set : List ℕ → ℕ → Bool
is_set v g = eqb (said v g) 1

-- no group of a field, but for the second of the day, says 16 or more: it has four pulses at most
abbrev pub Small : List ℕ → Type 0
Small v = (g : ℕ) → first_data ≤ g → g ≤ parity → said v g < 16

-- ---- the fields

-- a decimal digit and its tens
unfoldable pub second_in : List ℕ → ℕ
second_in v = said v seconds + 10 * said v tens_of_seconds

-- the same of the minute
unfoldable pub minute_in : List ℕ → ℕ
minute_in v = said v minutes + 10 * said v tens_of_minutes

-- the same of the hour
unfoldable pub hour_in : List ℕ → ℕ
hour_in v = said v hours + 10 * said v tens_of_hours

-- the day of the year
unfoldable pub day_in : List ℕ → ℕ
day_in v = said v days + 10 * said v tens_of_days + 100 * said v hundreds_of_days

-- the two last digits of the year
unfoldable pub digits_in : List ℕ → ℕ
digits_in v = said v years + 10 * said v tens_of_years

-- the half hours of the offset
unfoldable pub halves_in : List ℕ → ℕ
halves_in v = 2 * said v offset_hours + said v half_hour

-- what is added to local time to give UTC, in quarter hours, twice as many as half hours
unfoldable pub added_in : List ℕ → ℤ
added_in v = amount_of (is_set v minus) (halves_in v)

-- ---- the reading

-- the one year of the hundred from a base year on that has the digits
unfoldable pub year_in : ℕ → List ℕ → ℕ
year_in base v = year_of base (digits_in v)

-- month and day of the day of the year
unfoldable pub month_day_in : ℕ → List ℕ → MonthDay
month_day_in base v = month_day (leap_year (year_in base v)) (day_in v)

-- leap, change, summer and quality are carried as they stand; the offset is the opposite of what is added
unfoldable pub reading_of : ℕ → List ℕ → Reading
reading_of base v = record {
  year = year_in base v;
  month = (month_day_in base v).month;
  day = (month_day_in base v).day;
  hour = hour_in v;
  minute = minute_in v;
  second = second_in v;
  offset = record { 0 = local_of (added_in v) };
  summer = is_set v summer;
  leap = is_set v leap_pending;
  change = is_set v change_pending;
  quality = said v quality;
}

-- ---- what can be wrong with the fields

-- the year lacks the day
unfoldable pub day_bad : ℕ → List ℕ → Bool
day_bad base v = not (in_year (leap_year (year_in base v)) (day_in v))

-- "Second of day is h*3600 + m*60 + s"
abbrev pub second_of_day_at : ℕ → ℕ → ℕ → ℕ
second_of_day_at h m s = h * 3600 + m * 60 + s

-- "binary second of day differs"
unfoldable pub second_of_day_wrong : List ℕ → Bool
second_of_day_wrong v = not (eqb (said v second_of_day) (second_of_day_at (hour_in v) (minute_in v) (second_in v)))

-- "offset out of range", or "minus zero"
unfoldable pub offset_bad : List ℕ → Bool
offset_bad v = is_set v minus && eqb (halves_in v) 0 || not (offset_good (local_of (added_in v)))
