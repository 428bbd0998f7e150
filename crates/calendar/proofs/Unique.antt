-- Of each public function of the calendar: any two answers that its contract allows coincide.
use Rattle.std.specs.Prelude.{◌≡◌, ◌↔◌, true, false, refl, Option, Some, None, IsSome, IfSome}
use Rattle.laws.proofs.Coincide.{Coincide}
use Rattle.calendar.proofs.months.is_leap.Kinds as is-leap-kinds
use Rattle.calendar.proofs.months.is_leap.Reads as is-leap-reads
use Rattle.calendar.proofs.months.days_in.Kinds as days-in-kinds
use Rattle.calendar.proofs.months.days_in.Reads as days-in-reads
use Rattle.calendar.proofs.months.is_month.Kinds as is-month-kinds
use Rattle.calendar.proofs.months.is_month.Reads as is-month-reads
use Rattle.calendar.proofs.months.is_day.Kinds as is-day-kinds
use Rattle.calendar.proofs.months.is_day.Reads as is-day-reads
use Rattle.calendar.proofs.months.is_date.Kinds as is-date-kinds
use Rattle.calendar.proofs.months.is_date.Reads as is-date-reads
use Rattle.calendar.proofs.days.year_length.Kinds as year-length-kinds
use Rattle.calendar.proofs.days.year_length.Reads as year-length-reads
use Rattle.calendar.proofs.days.in_year.Kinds as in-year-kinds
use Rattle.calendar.proofs.days.in_year.Reads as in-year-reads
use Rattle.calendar.proofs.days.day_of_year.Kinds as day-of-year-kinds
use Rattle.calendar.proofs.days.day_of_year.Reads as day-of-year-reads
use Rattle.calendar.proofs.days.day_number.Kinds as day-number-kinds
use Rattle.calendar.proofs.days.day_number.Reads as day-number-reads
use Rattle.calendar.proofs.days.weekday.Kinds as weekday-kinds
use Rattle.calendar.proofs.days.weekday.Reads as weekday-reads
use Rattle.calendar.proofs.days.is_weekday.Kinds as is-weekday-kinds
use Rattle.calendar.proofs.days.is_weekday.Reads as is-weekday-reads
use Rattle.calendar.proofs.neighbours.day_after.Kinds as day-after-kinds
use Rattle.calendar.proofs.neighbours.day_after.Reads as day-after-reads
use Rattle.calendar.proofs.neighbours.day_before.Kinds as day-before-kinds
use Rattle.calendar.proofs.neighbours.day_before.Reads as day-before-reads
use Rattle.calendar.proofs.days.month_day.Kinds as month-day-kinds
use Rattle.calendar.proofs.days.month_day.Reads as month-day-reads
use Rattle.calendar.proofs.days.checked_month_day.Kinds as checked-month-day-kinds
use Rattle.calendar.proofs.days.checked_month_day.Reads as checked-month-day-reads

pub is_leap_one : Coincide 0 is-leap-kinds.ps is-leap-kinds.r is-leap-reads.Post
is_leap_one κs a x y e f p q = cc

pub days_in_one : Coincide 0 days-in-kinds.ps days-in-kinds.r days-in-reads.Post
days_in_one κs a x y e f p q = cc

pub is_month_one : Coincide 0 is-month-kinds.ps is-month-kinds.r is-month-reads.Post
is_month_one κs a x y e f p q = cc

pub is_day_one : Coincide 0 is-day-kinds.ps is-day-kinds.r is-day-reads.Post
is_day_one κs a x y e f p q = cc

pub is_date_one : Coincide 0 is-date-kinds.ps is-date-kinds.r is-date-reads.Post
is_date_one κs a x y e f p q = cc

pub year-length-one : Coincide 0 year-length-kinds.ps year-length-kinds.r year-length-reads.Post
year-length-one κs a x y e f p q = cc

pub in_year_one : Coincide 0 in-year-kinds.ps in-year-kinds.r in-year-reads.Post
in_year_one κs a x y e f p q = cc

pub day_of_year_one : Coincide 0 day-of-year-kinds.ps day-of-year-kinds.r day-of-year-reads.Post
day_of_year_one κs a x y e f p q = cc

pub day_number_one : Coincide 0 day-number-kinds.ps day-number-kinds.r day-number-reads.Post
day_number_one κs a x y e f p q = cc

pub weekday_one : Coincide 0 weekday-kinds.ps weekday-kinds.r weekday-reads.Post
weekday_one κs a x y e f p q = cc

pub is_weekday_one : Coincide 0 is-weekday-kinds.ps is-weekday-kinds.r is-weekday-reads.Post
is_weekday_one κs a x y e f p q = cc

pub day_after_one : Coincide 0 day-after-kinds.ps day-after-kinds.r day-after-reads.Post
day_after_one κs a x y e f p q = cc

pub day_before_one : Coincide 0 day-before-kinds.ps day-before-kinds.r day-before-reads.Post
day_before_one κs a x y e f p q = cc

pub month_day_one : Coincide 0 month-day-kinds.ps month-day-kinds.r month-day-reads.Post
month_day_one κs a x y e f p q = cc

pub checked_month_day_one : Coincide 0 checked-month-day-kinds.ps checked-month-day-kinds.r checked-month-day-reads.Post
checked_month_day_one κs a x y e f p q = cc
