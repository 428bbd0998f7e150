-- The checks of a reading: those that every writer and stamping share, in the order of their codes, and three of the readers'; and
-- that of the base year, which every reader makes too.
use Rattle.std.specs.Prelude.{Bool, not, ◌&&◌, ◌||◌, ℕ, eqb, ltb}
use Rattle.calendar.specs.declared.Date.{Date}
use Rattle.calendar.specs.Calendar.{leap_year, weekday_of, is_month, is_day, is_date}
use Rattle.reading.specs.declared.Reading.{Reading}
use Rattle.reading.specs.declared.Fault.TheVariants.{Time, Date as BadDate, QualityOrHead, Offset, LeapSecond, OtherBase}
use Rattle.reading.specs.Faults.{first, Verdict, no_fault}
use Rattle.reading.specs.Years.{is_base, in_hundred}
use Rattle.reading.specs.Offset.{offset_good}
use Rattle.reading.specs.Universal.{date_of, utc_of}
use Rattle.reading.specs.Leap.{sixty_bad}

-- "any other base .. is 19, straight after 1", before whatever comes after it
abbrev pub on_base : ℕ → Verdict → Verdict
on_base base rest = first (not (is_base base)) OtherBase rest

abbrev pub hour_bad : ℕ → Bool
hour_bad h = ltb 23 h

abbrev pub minute_bad : ℕ → Bool
minute_bad m = ltb 59 m

abbrev pub second_bad : ℕ → Bool
second_bad s = ltb 60 s

unfoldable pub time_bad : Reading → Bool
time_bad r = hour_bad r.hour || (minute_bad r.minute || second_bad r.second)

-- no day of the hundred years of a base
abbrev pub no_day : ℕ → Date → Bool
no_day base t = not (in_hundred base t.year && is_date t)

unfoldable pub date_bad : ℕ → Reading → Bool
date_bad base r = no_day base (date_of r)

abbrev pub quality_bad : ℕ → Bool
quality_bad q = ltb 15 q

-- the fault whose code comes first; "Writers keep place 0"
abbrev pub first_fault : Bool → Bool → Bool → Bool → Bool → Verdict
first_fault time date quality offset sixty =
    first time (Time 0) (first date (BadDate 0) (first quality (QualityOrHead 0) (first offset (Offset 0) (first sixty (LeapSecond 0) no_fault))))

-- the first fault of a reading, beside whatever base: "year outside the base's hundred is 16"
unfoldable pub sound_of : ℕ → Reading → Verdict
sound_of base r =
    first_fault (time_bad r) (date_bad base r) (quality_bad r.quality) (not (offset_good r.offset.0)) (sixty_bad (utc_of r) r.second)

-- the first fault of a base and a reading
unfoldable pub checked_of : ℕ → Reading → Verdict
checked_of base r = on_base base (sound_of base r)

-- ---- what a format says beside the reading, or finds of it field by field

-- "a day that month lacks"; "Under a bad month a day is bad only outside 1..31"
unfoldable pub day_bad : Reading → Bool
day_bad r = not (is_day (leap_year r.year) r.month r.day)

unfoldable pub month_bad : Reading → Bool
month_bad r = not (is_month r.month)

-- "weekday doesn't fit the date"
unfoldable pub weekday_wrong : Reading → ℕ → Bool
weekday_wrong r w = not (eqb w (weekday_of (date_of r)))
