-- What is refused, in the order of the codes, each at place 0.
use Rattle.std.specs.Prelude.{Bool, false, not, ◌&&◌, ◌||◌, ℕ, None, Some}
use Rattle.reading.specs.declared.Fault.TheVariants.{SummerRule, Time, Date, QualityOrHead, LeapSecond as BadLeapSecond, OutsideYears}
use Rattle.reading.specs.Faults.{first, Verdict, no_fault}
use Rattle.reading.specs.Years.{in_hundred}
use Rattle.reading.specs.Leap.{closes_with_leap}
use Rattle.reading.specs.Checks.{on_base, hour_bad, minute_bad, no_day}
use Rattle.dcf77.specs.Forms.{due_long}
use Rattle.dcf77.specs.Writer.{head_bad, room_fault}
use Rattle.summer.specs.Rules.{rule_bad}
use Rattle.telegram.specs.declared.Sent.{Sent}
use Rattle.telegram.specs.declared.Sender.{Sender}
use Rattle.telegram.specs.Telegram.{named_minute, telegram_reading, LeapSecond}

-- "a minute with a bad field, year as in 01, is 15 or 16": 16 where it is on no day of the hundred years (`no_day`)
unfoldable pub time_bad : Sent → Bool
time_bad sent = hour_bad sent.hour || minute_bad sent.minute

-- "a configured leap date that is no month end of 2000..2099 is 9"; by L12 "The base's hundred takes the place of 2000..2099"
unfoldable pub leap_date_bad : ℕ → LeapSecond → Bool
leap_date_bad base None = false
leap_date_bad base (Some t) = no_day base t || not (closes_with_leap t)

-- "a named minute whose UTC or local year is outside 2000..2099 is 12, last"; of the base's hundred likewise, since two digits name no
-- other year
unfoldable pub outside : ℕ → ℕ → ℕ → Bool
outside base utcYear localYear = not (in_hundred base utcYear && in_hundred base localYear)

-- 18, 15, 16, 17, 9 and 12, where their conditions hold
abbrev pub first_of : Bool → Bool → Bool → Bool → Bool → Bool → Verdict
first_of rule time date head leap year =
    first rule SummerRule
    (first time (Time 0)
    (first date (Date 0)
    (first head (QualityOrHead 0)
    (first leap (BadLeapSecond 0)
    (first year OutsideYears no_fault)))))

-- the same of what is to be sent, with 19 before them, where the named minute has this local year
unfoldable pub fault_with : ℕ → Sender → Sent → ℕ → ℕ → Verdict
fault_with base sender sent head localYear =
    on_base base
    (first_of (rule_bad sender.rule) (time_bad sent) (no_day base sent.date) (head_bad head) (leap_date_bad base sender.leap)
    (outside base (named_minute sent).date.year localYear))

unfoldable pub send_fault : ℕ → Sender → Sent → ℕ → Verdict
send_fault base sender sent head = fault_with base sender sent head (telegram_reading sender sent).year

-- with a buffer of so many bytes: "A refused minute needs 60 bytes of output", and a long one that is accepted 61
unfoldable pub telegram_fault : ℕ → Sender → Sent → ℕ → ℕ → Verdict
telegram_fault base sender sent head room = room_fault (send_fault base sender sent head) (due_long (telegram_reading sender sent)) room
