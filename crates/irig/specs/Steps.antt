-- What each of the reader's checks finds, alone, of the sums v of the groups and of the reading r that they say.
use Rattle.std.specs.Prelude.{not, ◌&&◌, ◌||◌, List, ℕ, eqb}
use Rattle.calendar.specs.Calendar.{leap_year, in_year}
use Rattle.reading.specs.declared.Reading.{Reading}
use Rattle.reading.specs.Faults.{Verdict, no_fault}
use Rattle.reading.specs.Offset.{offset_good}
use Rattle.reading.specs.Universal.{utc_of}
use Rattle.reading.specs.Leap.{sixty_bad}
use Rattle.reading.specs.Checks.{hour_bad, minute_bad, second_bad}
use Rattle.pulses.specs.Row.{over_nine}
use Rattle.irig_table.specs.Table.{seconds, minutes, hours, days, tens_of_days, years, tens_of_years, minus, deletion, second_of_day}
use Rattle.irig.specs.Meaning.{said, is_set, day_in, halves_in, second_of_day_at}
use Rattle.irig.specs.Faults.{digit_fault, time_fault, rest_fault}

-- code 3
abbrev pub digit_step : List ℕ → Verdict
digit_step v =
    digit_fault (over_nine v seconds) (over_nine v minutes) (over_nine v hours)
    (over_nine v days || over_nine v tens_of_days) (over_nine v years || over_nine v tens_of_years) no_fault

-- code 15
abbrev pub time_step : Reading → Verdict
time_step r = time_fault (second_bad r.second) (minute_bad r.minute) (hour_bad r.hour) no_fault

-- codes 16, 7, 8, 9 and 10
abbrev pub rest_step : List ℕ → Reading → Verdict
rest_step v r =
    rest_fault (not (in_year (leap_year r.year) (day_in v)))
    (not (eqb (said v second_of_day) (second_of_day_at r.hour r.minute r.second)))
    (is_set v minus && eqb (halves_in v) 0 || not (offset_good r.offset.0))
    (sixty_bad (utc_of r) r.second) (is_set v deletion)
