-- The calendar, by counting days: leap years, months, the number of a day, its weekday, the day after and the day before.
-- It is today's calendar carried back to the year 0, so that no request has to move where the counting starts.
use Rattle.std.specs.Prelude.{Bool, not, cond, ◌&&◌, ◌||◌, [], ◌∷◌, ℕ, zero, suc, ◌+◌, ◌-◌, ◌%◌, eqb, leb, ltb, get_or}
use Rattle.calendar.specs.declared.Date.{Date}
use Rattle.calendar.specs.declared.MonthDay.{MonthDay}

-- every fourth year, but of the hundreds only every fourth
unfoldable pub leap_year : ℕ → Bool
leap_year y = eqb (y % 4) 0 && (not (eqb (y % 100) 0) || eqb (y % 400) 0)

-- the days of month m, in a leap year or not; what is no month has no days
unfoldable pub days_in : Bool → ℕ → ℕ
days_in l m = get_or (0 ∷ 31 ∷ cond l 29 28 ∷ 31 ∷ 30 ∷ 31 ∷ 30 ∷ 31 ∷ 31 ∷ 30 ∷ 31 ∷ 30 ∷ 31 ∷ []) m 0

-- the days of the year's months before month m
unfoldable pub days_before : Bool → ℕ → ℕ
days_before l zero = 0
days_before l (suc m) = days_before l m + days_in l m

unfoldable pub year_length : Bool → ℕ
year_length l = cond l 366 365

-- the days of the years before year y, from the year 0 on
unfoldable pub days_before_year : ℕ → ℕ
days_before_year zero = 0
days_before_year (suc y) = days_before_year y + year_length (leap_year y)

-- the number of a day within its year: 1 January is 1
unfoldable pub day_of_year : Date → ℕ
day_of_year t = days_before (leap_year t.year) t.month + t.day

-- the number of a day: the first of the year 0 is 1, and 1 January 2000 is 730486
unfoldable pub day_number : Date → ℕ
day_number t = days_before_year t.year + day_of_year t

-- 1 is Monday, 7 is Sunday; 1 January 2000 is a Saturday, 6
unfoldable pub weekday_of : Date → ℕ
weekday_of t = (day_number t + 4) % 7 + 1

-- as weekday_of numbers them
unfoldable pub is_weekday : ℕ → Bool
is_weekday w = leb 1 w && leb w 7

unfoldable pub is_month : ℕ → Bool
is_month m = leb 1 m && leb m 12

-- the last day that month m may have; L5: "Under a bad month a day is bad only outside 1..31."
unfoldable pub last_day : Bool → ℕ → ℕ
last_day l m = cond (is_month m) (days_in l m) 31

unfoldable pub is_day : Bool → ℕ → ℕ → Bool
is_day l m d = leb 1 d && leb d (last_day l m)

-- the date stands in the calendar
unfoldable pub is_date : Date → Bool
is_date t = is_month t.month && is_day (leap_year t.year) t.month t.day

-- the largest year that a date holds
abbrev pub last_year : ℕ
last_year = 65535

-- the year after; past the last year there is none, and it stays
unfoldable pub year_after : ℕ → ℕ
year_after y = cond (ltb y last_year) (y + 1) y

-- the next day of the month, else the first of the next month, else the first of the next year
unfoldable pub day_after : Date → Date
day_after t =
    cond (ltb t.day (days_in (leap_year t.year) t.month))
    (record { year = t.year; month = t.month; day = t.day + 1 })
    (cond (ltb t.month 12)
    (record { year = t.year; month = t.month + 1; day = 1 })
    (record { year = year_after t.year; month = 1; day = 1 }))

-- the day before in the month, else the last of the month before, else the last of the year before; before the year 0 there is none, and it stays
unfoldable pub day_before : Date → Date
day_before t =
    cond (ltb 1 t.day)
    (record { year = t.year; month = t.month; day = t.day - 1 })
    (cond (ltb 1 t.month)
    (record { year = t.year; month = t.month - 1; day = days_in (leap_year t.year) (t.month - 1) })
    (record { year = t.year - 1; month = 12; day = 31 }))

-- the n-th day after 1 January of the year 0
unfoldable pub date_after : ℕ → Date
date_after zero = record { year = 0; month = 1; day = 1 }
date_after (suc n) = day_after (date_after n)

-- the last of the months 1 .. m that begins before day k of the year
unfoldable pub month_up_to : Bool → ℕ → ℕ → ℕ
month_up_to l zero k = 0
month_up_to l (suc m) k = cond (ltb (days_before l (suc m)) k) (suc m) (month_up_to l m k)

-- the year has a day k
unfoldable pub in_year : Bool → ℕ → Bool
in_year l k = leb 1 k && leb k (year_length l)

-- day k of the year as month and day; a day that the year lacks is month 0, day 0
unfoldable pub month_day : Bool → ℕ → MonthDay
month_day l k =
    cond (in_year l k)
    (record { month = month_up_to l 12 k; day = k - days_before l (month_up_to l 12 k) })
    (record { month = 0; day = 0 })
