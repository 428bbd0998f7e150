-- Runs that there are: three minutes through the change to summer of 2024, through the change back, and through the leap second of 2016,
-- whose second telegram is long. So the run's theorem is not about nothing.
use Rattle.calendar.specs.declared.Date.{Date}
use Rattle.std.specs.Prelude.{None, Some}
use mathlib.Core.Bool.{true}
use mathlib.Core.List.{List, [], ◌∷◌}
use mathlib.Core.Path.{◌≡◌, refl}
use Prim.Native.Nat.{ℕ}
use lib.ListN.{replicate}
use Rattle.calendar.specs.Calendar.{leap_year, days_in, days_before, year_length, days_before_year, day_of_year, day_number, weekday_of, is_month, last_day, is_day, is_date, day_after, day_before, year_after}
use Rattle.reading.specs.Offset.{west, east}
use Rattle.reading.specs.Years.{usual_base as base, is_base, first_year, in_hundred}
use Rattle.reading.specs.Leap.{closes_with_leap, after_leap}
use Rattle.reading.specs.Universal.{on_day, utc_minutes, utc_of, minute_after, within_day, local_minutes, shown_at, local_at}
use Rattle.dcf77.specs.Zones.{offset_in}
use Rattle.dcf77.specs.Forms.{length_of, due_long}
use Rattle.dcf77.specs.Writer.{head_bad, needed, room_fault}
use Rattle.summer.specs.Changes.{days_until, changed, is_summer, hour_before, announces_change}
use Rattle.summer.specs.Rules.{weekday_bad, date_bad, too_late, set_day_bad, day_in, crossed, rule_bad}
use Rattle.telegram.specs.declared.Sent.{Sent}
use Rattle.telegram.specs.declared.Sender.{Sender}
use Rattle.telegram.specs.Telegram.{utc_sent, named_minute, named_summer, same_date, announces_leap, telegram_reading, LeapSecond}
use Rattle.telegram.specs.Faults.{time_bad, leap_date_bad, outside, fault_with, send_fault, telegram_fault}
use Rattle.telegram_run.specs.Run.{Call, sent_after, NoneRefused}

abbrev plant : LeapSecond → Sender
plant leap =
    record {
      rule = record { start = record { month = 3; day = 25; weekday = 7 }; end = record { month = 10; day = 25; weekday = 7 } };
      leap = leap;
    }

abbrev at : ℕ → ℕ → ℕ → ℕ → ℕ → Sent
at y mo d h mi = record { date = record { year = y; month = mo; day = d }; hour = h; minute = mi }

-- three heads, and a buffer of 61 bytes for each
abbrev calls : List Call
calls =
    record { head = 0; buffer = replicate 61 7 }
    ∷ record { head = 1; buffer = replicate 61 7 }
    ∷ record { head = 32767; buffer = replicate 61 7 }
    ∷ []

abbrev leap2016 : LeapSecond
leap2016 = Some (record { year = 2016; month = 12; day = 31 })

pub runs : NoneRefused base (plant None) (at 2024 3 31 0 58) calls
    × NoneRefused base (plant None) (at 2024 10 27 0 58) calls
    × NoneRefused base (plant leap2016) (at 2016 12 31 23 58) calls
unfolding sent_after telegram_fault room_fault needed send_fault fault_with head_bad time_bad leap_date_bad outside in_hundred closes_with_leap after_leap
    rule_bad set_day_bad weekday_bad date_bad too_late crossed day_in
    telegram_reading named_summer named_minute utc_sent same_date announces_leap minute_after local_at shown_at local_minutes within_day on_day west east offset_in
    utc_of utc_minutes is_summer changed announces_change hour_before days_until due_long length_of
    leap_year days_in days_before year_length days_before_year day_of_year day_number weekday_of is_month last_day is_day is_date day_after day_before year_after first_year is_base
runs = ((refl, (refl, (refl, tt))), (refl, (refl, (refl, tt))), (refl, (refl, (refl, tt))))

-- the one sent at 23:59 of the leap second's day is long
pub long_one : due_long (telegram_reading (plant leap2016) (at 2016 12 31 23 59)) ≡ true
unfolding closes_with_leap after_leap telegram_reading named_summer named_minute utc_sent same_date announces_leap minute_after local_at shown_at local_minutes
    within_day on_day west east offset_in utc_of utc_minutes is_summer changed days_until due_long
    leap_year days_in days_before year_length days_before_year day_of_year day_number weekday_of day_after day_before year_after
long_one = refl
