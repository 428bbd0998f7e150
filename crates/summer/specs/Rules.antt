-- Which rules are refused. L8: "18 for a rule whose weekday is not 1..7, whose date is 29 February, does not exist, lies after 25 December,
-- or whose latest start is not before its earliest end, in leap or common years".
use Rattle.std.specs.Prelude.{Bool, true, false, not, ◌&&◌, ◌||◌, ℕ, ◌+◌, eqb, leb, ltb}
use Rattle.calendar.specs.Calendar.{days_before, is_month, is_day}
use Rattle.summer.specs.declared.SetDay.{SetDay}
use Rattle.summer.specs.declared.SummerRule.{SummerRule}

-- "whose weekday is not 1..7"
unfoldable pub weekday_bad : ℕ → Bool
weekday_bad w = not (leb 1 w && leb w 7)

-- "whose date is 29 February, does not exist": a date that common years lack
unfoldable pub date_bad : ℕ → ℕ → Bool
date_bad m d = not (is_month m && is_day false m d)

-- "lies after 25 December"
unfoldable pub too_late : ℕ → ℕ → Bool
too_late m d = eqb m 12 && ltb 25 d

unfoldable pub set_day_bad : SetDay → Bool
set_day_bad s = weekday_bad s.weekday || (date_bad s.month s.day || too_late s.month s.day)

-- the day of the year of a set date, in a leap year or not
unfoldable pub day_in : Bool → SetDay → ℕ
day_in l s = days_before l s.month + s.day

-- "whose latest start is not before its earliest end": the weekday comes at the set date at the earliest, and six days after it at the latest
unfoldable pub crossed : Bool → SummerRule → Bool
crossed l rule = leb (day_in l rule.end) (day_in l rule.start + 6)

-- either of the two set days, or the two together "in leap or common years"
unfoldable pub rule_bad : SummerRule → Bool
rule_bad rule = (set_day_bad rule.start || set_day_bad rule.end) || (crossed true rule || crossed false rule)
