-- `calendar::days::month_of` meets its contract. Assumes nothing.
use mathlib.Core.Path.{◌≡◌}
use Rattle.calendar.specs.Calendar.{days_in, days_before, year_length, month_up_to, in_year}
use Rattle.calendar.proofs.DayOfYearLaws.{fits_on, fits, month_rule}
use Rattle.calendar.proofs.days.month_of.Goals as goal

-- `_` are the code's own three numbers, and `tt` is the test, computed with them
pub returns : goal.returns
unfolding days_before days_in fits fits_on in_year month_up_to year_length
returns c =
    let length_is : c.year_length.result ≡ year_length c.args.leap = cc in
    rw length_is (month_rule _ _ _ tt c.args.leap c.args.day c.requires.day_value c.requires.lt_day)
