-- A plant's own DCF77, which request L8 adds: the days of change, the minutes around them and around a leap second with the marks that are
-- sent, and each code that a sender can refuse with. In literal numbers and marks.
use Rattle.telegram.specs.Telegram.{LeapSecond}
use Rattle.std.specs.Prelude.{List, [], ◌∷◌, ◌++◌, ℕ, None, Some}
use Rattle.calendar.specs.declared.Date.{Date}
use Rattle.summer.specs.declared.SetDay.{SetDay}
use Rattle.telegram.specs.declared.Sent.{Sent}
use Rattle.telegram.specs.declared.Sender.{Sender}
use Rattle.worked.specs.Questions.{Case, gives, change_on, telegram, date, wrote, wrote_none}
use Rattle.worked.specs.Given.{minute_with, sevens}

-- ---- what is configured

-- a month, a day and a weekday
abbrev pub set : ℕ → ℕ → ℕ → SetDay
set m d w = record { month = m; day = d; weekday = w }

abbrev pub on : ℕ → ℕ → ℕ → Date
on y m d = record { year = y; month = m; day = d }

abbrev pub sender : SetDay → SetDay → LeapSecond → Sender
sender start end leap = record { rule = record { start = start; end = end }; leap = leap }

-- "25 March with Sunday", and 25 October with Sunday
abbrev spring : SetDay
spring = set 3 25 7

abbrev pub autumn : SetDay
autumn = set 10 25 7

abbrev pub plant : LeapSecond → Sender
plant leap = sender spring autumn leap

-- from 25 February on, the Sundays of both
abbrev february : SetDay → Sender
february end = sender (set 2 25 7) end None

-- the leap second of 31 December 2016
abbrev leap2016 : LeapSecond
leap2016 = Some (on 2016 12 31)

-- ---- minutes

abbrev pub at : ℕ → ℕ → ℕ → ℕ → ℕ → Sent
at y mo d h mi = record { date = on y mo d; hour = h; minute = mi }

-- the ones of Sunday, 31 March 2024, of Sunday, 27 October 2024, and of Sunday, 1 January 2017, with the parity of the date
abbrev in_march : List ℕ
in_march = 36 ∷ 40 ∷ 41 ∷ 42 ∷ 43 ∷ 44 ∷ 45 ∷ 46 ∷ 52 ∷ 55 ∷ []

abbrev in_october : List ℕ
in_october = 36 ∷ 37 ∷ 38 ∷ 41 ∷ 42 ∷ 43 ∷ 44 ∷ 49 ∷ 52 ∷ 55 ∷ []

abbrev in2017 : List ℕ
in2017 = 36 ∷ 42 ∷ 43 ∷ 44 ∷ 45 ∷ 50 ∷ 51 ∷ 52 ∷ 54 ∷ 58 ∷ []

-- a telegram of 60 marks is written: the ones before the date, and those of the date
abbrev sends : List ℕ → List ℕ → List ℕ
sends before dated = minute_with 59 (before ++ dated)

-- ---- the list

unfoldable pub telegrams : List Case
telegrams =
    -- "25 March with Sunday gives 31 March in 2024"; 25 October with Sunday is 27 October
    gives (change_on spring 2024) (date 2024 3 31)
    ∷ gives (change_on autumn 2024) (date 2024 10 27)
    -- a set date that has the weekday, and one that the weekday comes six days after
    ∷ gives (change_on (set 3 31 7) 2024) (date 2024 3 31)
    ∷ gives (change_on (set 4 1 7) 2024) (date 2024 4 7)
    -- into summer, 31 March 2024: sent 23:59 the day before, naming 01:00; from 00:00 on with the change announced (mark 16), 01:01
    ∷ gives (telegram (plant None) (at 2024 3 30 23 59) 0 (sevens 60)) (wrote 60 (sends (18 ∷ 20 ∷ 29 ∷ 35 ∷ []) in_march))
    ∷ gives (telegram (plant None) (at 2024 3 31 0 0) 0 (sevens 60)) (wrote 60 (sends (16 ∷ 18 ∷ 20 ∷ 21 ∷ 28 ∷ 29 ∷ 35 ∷ []) in_march))
    -- the last minute of winter, 01:59, and the first of summer, 03:00 (mark 17 for 18), both announced; then 03:01, which is not
    ∷ gives (telegram (plant None) (at 2024 3 31 0 58) 0 (sevens 60)) (wrote 60 (sends (16 ∷ 18 ∷ 20 ∷ 21 ∷ 24 ∷ 25 ∷ 27 ∷ 29 ∷ 35 ∷ []) in_march))
    ∷ gives (telegram (plant None) (at 2024 3 31 0 59) 0 (sevens 60)) (wrote 60 (sends (16 ∷ 17 ∷ 20 ∷ 29 ∷ 30 ∷ []) in_march))
    ∷ gives (telegram (plant None) (at 2024 3 31 1 0) 0 (sevens 60)) (wrote 60 (sends (17 ∷ 20 ∷ 21 ∷ 28 ∷ 29 ∷ 30 ∷ []) in_march))
    -- out of summer, 27 October 2024: 02:00 not announced, 02:01 announced
    ∷ gives (telegram (plant None) (at 2024 10 26 23 59) 0 (sevens 60)) (wrote 60 (sends (17 ∷ 20 ∷ 30 ∷ 35 ∷ []) in_october))
    ∷ gives (telegram (plant None) (at 2024 10 27 0 0) 0 (sevens 60)) (wrote 60 (sends (16 ∷ 17 ∷ 20 ∷ 21 ∷ 28 ∷ 30 ∷ 35 ∷ []) in_october))
    -- the last minute of summer, 02:59, and the first of winter, 02:00 again; then 02:01
    ∷ gives (telegram (plant None) (at 2024 10 27 0 58) 0 (sevens 60)) (wrote 60 (sends (16 ∷ 17 ∷ 20 ∷ 21 ∷ 24 ∷ 25 ∷ 27 ∷ 30 ∷ 35 ∷ []) in_october))
    ∷ gives (telegram (plant None) (at 2024 10 27 0 59) 0 (sevens 60)) (wrote 60 (sends (16 ∷ 18 ∷ 20 ∷ 30 ∷ 35 ∷ []) in_october))
    ∷ gives (telegram (plant None) (at 2024 10 27 1 0) 0 (sevens 60)) (wrote 60 (sends (18 ∷ 20 ∷ 21 ∷ 28 ∷ 30 ∷ 35 ∷ []) in_october))
    -- the leap second of 31 December 2016: not announced at 22:59, announced (mark 19) from 23:00 to 23:59, and that one has 61 marks
    ∷ gives (telegram (plant leap2016) (at 2016 12 31 22 59) 0 (sevens 60)) (wrote 60 (sends (18 ∷ 20 ∷ []) in2017))
    ∷ gives (telegram (plant leap2016) (at 2016 12 31 23 0) 0 (sevens 60)) (wrote 60 (sends (18 ∷ 19 ∷ 20 ∷ 21 ∷ 28 ∷ []) in2017))
    ∷ gives (telegram (plant leap2016) (at 2016 12 31 23 58) 0 (sevens 60)) (wrote 60 (sends (18 ∷ 19 ∷ 20 ∷ 21 ∷ 24 ∷ 25 ∷ 27 ∷ []) in2017))
    ∷ gives (telegram (plant leap2016) (at 2016 12 31 23 59) 0 (sevens 61)) (wrote 61 (minute_with 60 ((18 ∷ 19 ∷ 20 ∷ 29 ∷ 35 ∷ []) ++ in2017)))
    ∷ gives (telegram (plant leap2016) (at 2016 12 31 23 59) 0 (sevens 60)) (wrote_none 1 0 (sevens 60))
    ∷ gives (telegram (plant leap2016) (at 2017 1 1 0 0) 0 (sevens 60)) (wrote 60 (sends (18 ∷ 20 ∷ 21 ∷ 28 ∷ 29 ∷ 35 ∷ []) in2017))
    -- a head, 5, in a longer buffer, whose rest stays
    ∷ gives (telegram (plant None) (at 2017 1 1 0 0) 5 (sevens 62)) (wrote 60 (sends (1 ∷ 3 ∷ 18 ∷ 20 ∷ 21 ∷ 28 ∷ 29 ∷ 35 ∷ []) in2017 ++ sevens 2))
    -- the latest start has to be before the earliest end: 3 March against 25 February and six days, in common years; 4 March is late enough
    ∷ gives (telegram (february (set 3 3 7)) (at 2023 2 26 0 0) 0 (sevens 60)) (wrote_none 18 0 (sevens 60))
    ∷ gives (telegram (february (set 3 4 7)) (at 2023 2 26 0 0) 0 (sevens 60))
    (wrote 60 (sends (16 ∷ 18 ∷ 20 ∷ 21 ∷ 28 ∷ 29 ∷ 35 ∷ []) (37 ∷ 38 ∷ 41 ∷ 42 ∷ 43 ∷ 44 ∷ 46 ∷ 50 ∷ 51 ∷ 55 ∷ [])))
    -- weekdays 0 and 8, 29 February, 31 April, 26 December; 25 December may be set
    ∷ gives (telegram (sender (set 3 25 0) autumn None) (at 2017 1 1 0 0) 0 (sevens 60)) (wrote_none 18 0 (sevens 60))
    ∷ gives (telegram (sender spring (set 10 25 8) None) (at 2017 1 1 0 0) 0 (sevens 60)) (wrote_none 18 0 (sevens 60))
    ∷ gives (telegram (sender (set 2 29 7) autumn None) (at 2024 3 31 0 0) 0 (sevens 60)) (wrote_none 18 0 (sevens 60))
    ∷ gives (telegram (sender (set 4 31 7) autumn None) (at 2017 1 1 0 0) 0 (sevens 60)) (wrote_none 18 0 (sevens 60))
    ∷ gives (telegram (sender spring (set 12 26 7) None) (at 2017 1 1 0 0) 0 (sevens 60)) (wrote_none 18 0 (sevens 60))
    ∷ gives (telegram (sender spring (set 12 25 7) None) (at 2017 1 1 0 0) 0 (sevens 60))
    (wrote 60 (sends (18 ∷ 20 ∷ 21 ∷ 28 ∷ 29 ∷ 35 ∷ []) in2017))
    -- hour 24, minute 60, the years 1999 and 2100, 29 February 2023, head 32768
    ∷ gives (telegram (plant None) (at 2017 1 1 24 0) 0 (sevens 60)) (wrote_none 15 0 (sevens 60))
    ∷ gives (telegram (plant None) (at 2017 1 1 0 60) 0 (sevens 60)) (wrote_none 15 0 (sevens 60))
    ∷ gives (telegram (plant None) (at 1999 12 31 23 59) 0 (sevens 60)) (wrote_none 16 0 (sevens 60))
    ∷ gives (telegram (plant None) (at 2100 1 1 0 0) 0 (sevens 60)) (wrote_none 16 0 (sevens 60))
    ∷ gives (telegram (plant None) (at 2023 2 29 0 0) 0 (sevens 60)) (wrote_none 16 0 (sevens 60))
    ∷ gives (telegram (plant None) (at 2017 1 1 0 0) 32768 (sevens 60)) (wrote_none 17 0 (sevens 60))
    -- leap seconds that no month end of the usual base's hundred has, far from the minute: 30 December, month 13, 31 December 1999
    ∷ gives (telegram (plant (Some (on 2016 12 30))) (at 2024 7 1 0 0) 0 (sevens 60)) (wrote_none 9 0 (sevens 60))
    ∷ gives (telegram (plant (Some (on 2016 13 0))) (at 2024 7 1 0 0) 0 (sevens 60)) (wrote_none 9 0 (sevens 60))
    ∷ gives (telegram (plant (Some (on 1999 12 31))) (at 2024 7 1 0 0) 0 (sevens 60)) (wrote_none 9 0 (sevens 60))
    -- the last hour of 2099 names 2100 by local time, its last minute by UTC too
    ∷ gives (telegram (plant None) (at 2099 12 31 22 59) 0 (sevens 60)) (wrote_none 12 0 (sevens 60))
    ∷ gives (telegram (plant None) (at 2099 12 31 23 59) 0 (sevens 60)) (wrote_none 12 0 (sevens 60))
    -- 59 bytes before all, 18 before 15, 15 before 16, 16 before 17, 17 before 9, 9 before 12
    ∷ gives (telegram (sender (set 0 0 0) autumn None) (at 1999 13 32 24 60) 32768 (sevens 59)) (wrote_none 1 0 (sevens 59))
    ∷ gives (telegram (sender (set 0 0 0) autumn None) (at 1999 13 32 24 60) 32768 (sevens 60)) (wrote_none 18 0 (sevens 60))
    ∷ gives (telegram (plant None) (at 1999 13 32 24 60) 32768 (sevens 60)) (wrote_none 15 0 (sevens 60))
    ∷ gives (telegram (plant None) (at 1999 13 32 23 59) 32768 (sevens 60)) (wrote_none 16 0 (sevens 60))
    ∷ gives (telegram (plant (Some (on 2016 12 30))) (at 2099 12 31 23 59) 32768 (sevens 60)) (wrote_none 17 0 (sevens 60))
    ∷ gives (telegram (plant (Some (on 2016 12 30))) (at 2099 12 31 23 59) 0 (sevens 60)) (wrote_none 9 0 (sevens 60))
    ∷ []
