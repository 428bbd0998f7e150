-- Of each public function of the reading: any two answers that its contract allows coincide.
use Rattle.laws.proofs.Coincide.{Coincide}
use Rattle.reading.proofs.offsets.same_offset.Kinds as same-offset-kinds
use Rattle.reading.proofs.offsets.same_offset.Reads as same-offset-reads
use Rattle.reading.proofs.LocalMinusUtc.west.Kinds as west-kinds
use Rattle.reading.proofs.LocalMinusUtc.west.Reads as west-reads
use Rattle.reading.proofs.LocalMinusUtc.east.Kinds as east-kinds
use Rattle.reading.proofs.LocalMinusUtc.east.Reads as east-reads
use Rattle.reading.proofs.LocalMinusUtc.is_good.Kinds as is-good-kinds
use Rattle.reading.proofs.LocalMinusUtc.is_good.Reads as is-good-reads
use Rattle.reading.proofs.LocalMinusUtc.added.Kinds as added-kinds
use Rattle.reading.proofs.LocalMinusUtc.added.Reads as added-reads
use Rattle.reading.proofs.AddedToLocal.local.Kinds as local-kinds
use Rattle.reading.proofs.AddedToLocal.local.Reads as local-reads
use Rattle.reading.proofs.faults.RefusalFromFault.from.Kinds as refusal-of-kinds
use Rattle.reading.proofs.faults.RefusalFromFault.from.Reads as refusal-of-reads
use Rattle.reading.proofs.years.in_hundred.Kinds as in-hundred-kinds
use Rattle.reading.proofs.years.in_hundred.Reads as in-hundred-reads
use Rattle.reading.proofs.years.year_of.Kinds as year-of-kinds
use Rattle.reading.proofs.years.year_of.Reads as year-of-reads
use Rattle.reading.proofs.universal.utc_of.Kinds as utc-of-kinds
use Rattle.reading.proofs.universal.utc_of.Reads as utc-of-reads
use Rattle.reading.proofs.universal.minute_after.Kinds as minute-after-kinds
use Rattle.reading.proofs.universal.minute_after.Reads as minute-after-reads
use Rattle.reading.proofs.universal.local_at.Kinds as local-at-kinds
use Rattle.reading.proofs.universal.local_at.Reads as local-at-reads
use Rattle.reading.proofs.leap.closes_with_leap.Kinds as closes-with-leap-kinds
use Rattle.reading.proofs.leap.closes_with_leap.Reads as closes-with-leap-reads
use Rattle.reading.proofs.leap.leap_minute.Kinds as leap-minute-kinds
use Rattle.reading.proofs.leap.leap_minute.Reads as leap-minute-reads
use Rattle.reading.proofs.leap.leap_window.Kinds as leap-window-kinds
use Rattle.reading.proofs.leap.leap_window.Reads as leap-window-reads
use Rattle.reading.proofs.leap.change_window.Kinds as change-window-kinds
use Rattle.reading.proofs.leap.change_window.Reads as change-window-reads
use Rattle.reading.proofs.leap.after_leap.Kinds as after-leap-kinds
use Rattle.reading.proofs.leap.after_leap.Reads as after-leap-reads
use Rattle.reading.proofs.checks.hour_bad.Kinds as hour-bad-kinds
use Rattle.reading.proofs.checks.hour_bad.Reads as hour-bad-reads
use Rattle.reading.proofs.checks.minute_bad.Kinds as minute-bad-kinds
use Rattle.reading.proofs.checks.minute_bad.Reads as minute-bad-reads
use Rattle.reading.proofs.checks.second_bad.Kinds as second-bad-kinds
use Rattle.reading.proofs.checks.second_bad.Reads as second-bad-reads
use Rattle.reading.proofs.checks.leap_second_bad.Kinds as leap-second-bad-kinds
use Rattle.reading.proofs.checks.leap_second_bad.Reads as leap-second-bad-reads
use Rattle.reading.proofs.checks.checked.Kinds as checked-kinds
use Rattle.reading.proofs.checks.checked.Reads as checked-reads
use Rattle.reading.proofs.checks.time_bad.Kinds as time-bad-kinds
use Rattle.reading.proofs.checks.time_bad.Reads as time-bad-reads
use Rattle.reading.proofs.checks.no_day.Kinds as no-day-kinds
use Rattle.reading.proofs.checks.no_day.Reads as no-day-reads
use Rattle.reading.proofs.checks.date_bad.Kinds as date-bad-kinds
use Rattle.reading.proofs.checks.date_bad.Reads as date-bad-reads
use Rattle.reading.proofs.checks.quality_bad.Kinds as quality-bad-kinds
use Rattle.reading.proofs.checks.quality_bad.Reads as quality-bad-reads
use Rattle.reading.proofs.checks.first_fault.Kinds as first-fault-kinds
use Rattle.reading.proofs.checks.first_fault.Reads as first-fault-reads
use Rattle.reading.proofs.checks.day_bad.Kinds as day-bad-kinds
use Rattle.reading.proofs.checks.day_bad.Reads as day-bad-reads
use Rattle.reading.proofs.checks.weekday_wrong.Kinds as weekday-wrong-kinds
use Rattle.reading.proofs.checks.weekday_wrong.Reads as weekday-wrong-reads
use Rattle.reading.proofs.stamps.stamp_of.Kinds as stamp-of-kinds
use Rattle.reading.proofs.stamps.stamp_of.Reads as stamp-of-reads
use Rattle.reading.proofs.years.is_base.Kinds as is-base-kinds
use Rattle.reading.proofs.years.is_base.Reads as is-base-reads
use Rattle.reading.proofs.checks.sound.Kinds as sound-kinds
use Rattle.reading.proofs.checks.sound.Reads as sound-reads
use Rattle.reading.proofs.Since2000.is_before.Kinds as is-before-kinds
use Rattle.reading.proofs.Since2000.is_before.Reads as is-before-reads
use Rattle.reading.proofs.Since2000.distance.Kinds as distance-kinds
use Rattle.reading.proofs.Since2000.distance.Reads as distance-reads
use Rattle.reading.proofs.Reading.date.Kinds as date-kinds
use Rattle.reading.proofs.Reading.date.Reads as date-reads

pub date_one : Coincide 0 date-kinds.ps date-kinds.r date-reads.Post
date_one κs a x y e f p q = cc

pub same_offset_one : Coincide 0 same-offset-kinds.ps same-offset-kinds.r same-offset-reads.Post
same_offset_one κs a x y e f p q = cc

pub west_one : Coincide 0 west-kinds.ps west-kinds.r west-reads.Post
west_one κs a x y e f p q = cc

pub east_one : Coincide 0 east-kinds.ps east-kinds.r east-reads.Post
east_one κs a x y e f p q = cc

pub is_good_one : Coincide 0 is-good-kinds.ps is-good-kinds.r is-good-reads.Post
is_good_one κs a x y e f p q = cc

pub added_one : Coincide 0 added-kinds.ps added-kinds.r added-reads.Post
added_one κs a x y e f p q = cc

pub local_one : Coincide 0 local-kinds.ps local-kinds.r local-reads.Post
local_one κs a x y e f p q = cc

pub refusal_of_one : Coincide 0 refusal-of-kinds.ps refusal-of-kinds.r refusal-of-reads.Post
refusal_of_one κs a x y e f p q = cc

pub in_hundred_one : Coincide 0 in-hundred-kinds.ps in-hundred-kinds.r in-hundred-reads.Post
in_hundred_one κs a x y e f p q = cc

pub year_of_one : Coincide 0 year-of-kinds.ps year-of-kinds.r year-of-reads.Post
year_of_one κs a x y e f p q = cc

pub utc_of_one : Coincide 0 utc-of-kinds.ps utc-of-kinds.r utc-of-reads.Post
utc_of_one κs a x y e f p q = cc

pub minute_after_one : Coincide 0 minute-after-kinds.ps minute-after-kinds.r minute-after-reads.Post
minute_after_one κs a x y e f p q = cc

pub local_at_one : Coincide 0 local-at-kinds.ps local-at-kinds.r local-at-reads.Post
local_at_one κs a x y e f p q = cc

pub closes_with_leap_one : Coincide 0 closes-with-leap-kinds.ps closes-with-leap-kinds.r closes-with-leap-reads.Post
closes_with_leap_one κs a x y e f p q = cc

pub leap_minute_one : Coincide 0 leap-minute-kinds.ps leap-minute-kinds.r leap-minute-reads.Post
leap_minute_one κs a x y e f p q = cc

pub leap_window_one : Coincide 0 leap-window-kinds.ps leap-window-kinds.r leap-window-reads.Post
leap_window_one κs a x y e f p q = cc

pub change_window_one : Coincide 0 change-window-kinds.ps change-window-kinds.r change-window-reads.Post
change_window_one κs a x y e f p q = cc

pub after_leap_one : Coincide 0 after-leap-kinds.ps after-leap-kinds.r after-leap-reads.Post
after_leap_one κs a x y e f p q = cc

pub hour_bad_one : Coincide 0 hour-bad-kinds.ps hour-bad-kinds.r hour-bad-reads.Post
hour_bad_one κs a x y e f p q = cc

pub minute_bad_one : Coincide 0 minute-bad-kinds.ps minute-bad-kinds.r minute-bad-reads.Post
minute_bad_one κs a x y e f p q = cc

pub second_bad_one : Coincide 0 second-bad-kinds.ps second-bad-kinds.r second-bad-reads.Post
second_bad_one κs a x y e f p q = cc

pub leap_second_bad_one : Coincide 0 leap-second-bad-kinds.ps leap-second-bad-kinds.r leap-second-bad-reads.Post
leap_second_bad_one κs a x y e f p q = cc

pub checked_one : Coincide 0 checked-kinds.ps checked-kinds.r checked-reads.Post
checked_one κs a x y e f p q = cc

pub time_bad_one : Coincide 0 time-bad-kinds.ps time-bad-kinds.r time-bad-reads.Post
time_bad_one κs a x y e f p q = cc

pub no_day_one : Coincide 0 no-day-kinds.ps no-day-kinds.r no-day-reads.Post
no_day_one κs a x y e f p q = cc

pub date_bad_one : Coincide 0 date-bad-kinds.ps date-bad-kinds.r date-bad-reads.Post
date_bad_one κs a x y e f p q = cc

pub quality_bad_one : Coincide 0 quality-bad-kinds.ps quality-bad-kinds.r quality-bad-reads.Post
quality_bad_one κs a x y e f p q = cc

pub first_fault_one : Coincide 0 first-fault-kinds.ps first-fault-kinds.r first-fault-reads.Post
first_fault_one κs a x y e f p q = cc

pub day_bad_one : Coincide 0 day-bad-kinds.ps day-bad-kinds.r day-bad-reads.Post
day_bad_one κs a x y e f p q = cc

pub weekday_wrong_one : Coincide 0 weekday-wrong-kinds.ps weekday-wrong-kinds.r weekday-wrong-reads.Post
weekday_wrong_one κs a x y e f p q = cc

pub stamp_of_one : Coincide 0 stamp-of-kinds.ps stamp-of-kinds.r stamp-of-reads.Post
stamp_of_one κs a x y e f p q = cc

pub is_base_one : Coincide 0 is-base-kinds.ps is-base-kinds.r is-base-reads.Post
is_base_one κs a x y e f p q = cc

pub sound_one : Coincide 0 sound-kinds.ps sound-kinds.r sound-reads.Post
sound_one κs a x y e f p q = cc

pub is_before_one : Coincide 0 is-before-kinds.ps is-before-kinds.r is-before-reads.Post
is_before_one κs a x y e f p q = cc

pub distance_one : Coincide 0 distance-kinds.ps distance-kinds.r distance-reads.Post
distance_one κs a x y e f p q = cc
