-- L12, "Old books from the nineties": the base 1990, stamps before 2000, and what another base meets at each reader, each writer, at
-- stamping, at the bridge and in a listing. In literal numbers and bytes.
use Rattle.std.specs.Prelude.{true, false, List, [], ◌∷◌, ◌++◌, ℕ, take, drop, None, Some}
use Rattle.reading.specs.declared.Reading.{Reading}
use Rattle.worked.specs.Questions.{
  Case,
  Question,
  Answer,
  gives,
  with_base,
  weekday,
  stamp,
  stamp_of_string,
  clock_string,
  pulses,
  marks,
  position_part,
  to_meinberg,
  to_erlangen,
  to_pulses,
  to_marks,
  bridged,
  telegram,
  listed,
  day,
  stamped,
  stamped_before,
  told,
  told_meinberg,
  told_erlangen,
  told_minute,
  refused,
  wrote,
  wrote_none,
  text,
}
use Rattle.worked.specs.Given.{
  at,
  flagged,
  plus,
  minus,
  case6,
  case8,
  case9,
  frame_with,
  minute_with,
  frame6,
  minute8,
  meinberg_at,
  position,
  erlangen_at,
  erlangen6,
  hour_ahead,
  no_flags,
  sevens,
  heading,
}
use Rattle.worked.specs.Telegrams as sending

-- ---- a question asked with the base 1990, with 2000, and with a base that is none

abbrev by1990 : Question → Answer → Case
by1990 q a = gives (with_base 1990 q) a

abbrev by2000 : Question → Answer → Case
by2000 q a = gives (with_base 2000 q) a

abbrev by1991 : Question → Answer → Case
by1991 q a = gives (with_base 1991 q) a

-- 23:59:60 UTC of a day
abbrev leap_second : ℕ → ℕ → ℕ → Reading
leap_second y m d = at y m d 23 59 60 (plus 0)

-- ---- 30 June 1994

-- `D:30.06.94;T:4;U:23.59.60;  U `, a Thursday in 1994 and a Wednesday in 2094
abbrev june94 : List ℕ
june94 = meinberg_at 30 6 94 4 23 59 60 (32 ∷ 32 ∷ 85 ∷ 32 ∷ [])

-- `30.06.94; 4; 23:59:60; +00:00;       L; ` and 26 spaces
abbrev june_erlangen : List ℕ
june_erlangen = erlangen_at 30 6 94 4 23 59 60 (43 ∷ 48 ∷ 48 ∷ 58 ∷ 48 ∷ 48 ∷ []) (take 6 no_flags ++ (76 ∷ []))

-- its frame: second 60, 23:59, day 181, year 94, and the second of the day 86400
abbrev june_frame : List ℕ
june_frame = frame_with (7 ∷ 8 ∷ 10 ∷ 13 ∷ 15 ∷ 17 ∷ 20 ∷ 21 ∷ 26 ∷ 30 ∷ 38 ∷ 40 ∷ 52 ∷ 55 ∷ 58 ∷ 75 ∷ 87 ∷ 88 ∷ 93 ∷ 95 ∷ 97 ∷ [])

-- the minute that names 1 July 1994, 02:00 in summer, which is 00:00 UTC, a leap second announced
abbrev july94 : Reading
july94 = flagged 1994 7 1 2 0 0 (plus 8) true true false 0

abbrev july_marks : List ℕ
july_marks = minute_with 60 (17 ∷ 19 ∷ 20 ∷ 30 ∷ 35 ∷ 36 ∷ 42 ∷ 44 ∷ 45 ∷ 46 ∷ 47 ∷ 52 ∷ 54 ∷ 57 ∷ 58 ∷ [])

-- ---- New Year 2000

-- `D:01.01.00;T:6;U:00.59.60;    `, a Saturday: 31 December 1999, 23:59:60 UTC
abbrev new_year : List ℕ
new_year = meinberg_at 1 1 0 6 0 59 60 (32 ∷ 32 ∷ 32 ∷ 32 ∷ [])

-- `at kind answer value place`, `0 1 ok -1 0` and a line feed behind each
abbrev new_year_lines : List ℕ
new_year_lines = heading ++ (48 ∷ 32 ∷ 49 ∷ 32 ∷ 111 ∷ 107 ∷ 32 ∷ 45 ∷ 49 ∷ 32 ∷ 48 ∷ 10 ∷ [])

-- `at kind answer value place`, `0 1 ok -173666011 0` and a line feed behind each
abbrev june_lines : List ℕ
june_lines =
    heading
    ++ (48 ∷ 32 ∷ 49 ∷ 32 ∷ 111 ∷ 107 ∷ 32 ∷ 45 ∷ 49 ∷ 55 ∷ 51 ∷ 54 ∷ 54 ∷ 54 ∷ 48 ∷ 49 ∷ 49 ∷ 32 ∷ 48 ∷ 10 ∷ [])

-- `D:01.01.90;T:1;U:00.30.00;    `, a Monday, an hour ahead of UTC: 31 December 1989, 23:30 UTC
abbrev too_early : List ℕ
too_early = meinberg_at 1 1 90 1 0 30 0 (32 ∷ 32 ∷ 32 ∷ 32 ∷ [])

-- `at kind answer value place`, `0 1 no 12 0` and a line feed behind each
abbrev too_early_lines : List ℕ
too_early_lines = heading ++ (48 ∷ 32 ∷ 49 ∷ 32 ∷ 110 ∷ 111 ∷ 32 ∷ 49 ∷ 50 ∷ 32 ∷ 48 ∷ 10 ∷ [])

-- `at kind answer value place`, `0 0 no 19 0` and a line feed behind each
abbrev other_base_lines : List ℕ
other_base_lines = heading ++ (48 ∷ 32 ∷ 48 ∷ 32 ∷ 110 ∷ 111 ∷ 32 ∷ 49 ∷ 57 ∷ 32 ∷ 48 ∷ 10 ∷ [])

-- ---- inputs that more than one thing is wrong with

-- case 6 as a string, and with another first byte
abbrev erlangen_string : List ℕ
erlangen_string = erlangen6 hour_ahead no_flags

abbrev wrong_first : List ℕ → List ℕ
wrong_first s = 9 ∷ drop 1 s

unfoldable pub nineties : List Case
nineties =
    -- "1990-01-01 00:00:00 UTC is -315536452", the smallest; case 9 "is now -1801"; 2000-01-01 00:59:60 at +4
    by1990 (stamp (at 1990 1 1 0 0 0 (plus 0))) (stamped_before 315536452)
    ∷ by2000 (stamp case9) (stamped_before 1801)
    ∷ by2000 (stamp (at 2000 1 1 0 59 60 (plus 4))) (stamped_before 1)
    ∷ by2000 (stamp_of_string new_year) (stamped_before 1)
    ∷ by1990 (stamp_of_string new_year) (stamped_before 1)
    ∷ by1990 (stamp (at 1999 12 31 23 59 59 (plus 0))) (stamped_before 2)
    ∷ by1990 (stamp (at 2000 1 1 0 0 0 (plus 0))) (stamped 0)
    -- the leap seconds of the nineties
    ∷ by1990 (stamp (leap_second 1990 12 31)) (stamped_before 284000088)
    ∷ by1990 (stamp (leap_second 1992 6 30)) (stamped_before 236738741)
    ∷ by1990 (stamp (leap_second 1993 6 30)) (stamped_before 205202376)
    ∷ by1990 (stamp (leap_second 1994 6 30)) (stamped_before 173666011)
    ∷ by1990 (stamp (leap_second 1995 12 31)) (stamped_before 126231862)
    ∷ by1990 (stamp (leap_second 1997 6 30)) (stamped_before 78970515)
    ∷ by1990 (stamp (leap_second 1998 12 31)) (stamped_before 31536366)
    -- that of 1994 from four clocks
    ∷ by1990 (clock_string june94) (told_meinberg (leap_second 1994 6 30) false)
    ∷ by1990 (stamp_of_string june94) (stamped_before 173666011)
    ∷ by1990 (clock_string june_erlangen) (told_erlangen (leap_second 1994 6 30) false)
    ∷ by1990 (to_erlangen (leap_second 1994 6 30) false position (sevens 68)) (wrote 68 june_erlangen)
    ∷ by1990 (position_part june_erlangen) (text position)
    ∷ by1990 (pulses june_frame) (told (leap_second 1994 6 30))
    ∷ by1990 (to_pulses (leap_second 1994 6 30) (sevens 100)) (wrote 100 june_frame)
    ∷ by1990 (bridged june94 (sevens 100)) (wrote 100 june_frame)
    ∷ by1990 (marks july_marks) (told_minute july94 0)
    ∷ by1990 (to_marks july94 0 (sevens 61)) (wrote 61 july_marks)
    ∷ by1990 (telegram (sending.plant (Some (sending.on 1994 6 30))) (sending.at 1994 6 30 23 59) 0 (sevens 61)) (wrote 61 july_marks)
    ∷ by1990 (listed (1 ∷ june94)) (text june_lines)
    ∷ by2000 (listed (1 ∷ new_year)) (text new_year_lines)
    -- with the base 2000 the two digits are of 2094, where the weekday is another; the frame has none and says that year
    ∷ by2000 (clock_string june94) (refused 6 14)
    ∷ by2000 (pulses june_frame) (told (leap_second 2094 6 30))
    ∷ by2000 (position_part june_erlangen) (text [])
    -- the digits 89 are the last of the base 1990's hundred, and the same year with the base 2000
    ∷ by1990 (clock_string (meinberg_at 1 1 89 6 0 0 0 (32 ∷ 32 ∷ 85 ∷ 32 ∷ []))) (told_meinberg (at 2089 1 1 0 0 0 (plus 0)) false)
    ∷ by2000 (clock_string (meinberg_at 1 1 89 6 0 0 0 (32 ∷ 32 ∷ 85 ∷ 32 ∷ []))) (told_meinberg (at 2089 1 1 0 0 0 (plus 0)) false)
    -- a weekday takes no base: 29 February 1996, a Thursday
    ∷ gives (weekday (record { year = 1996; month = 2; day = 29 })) (day 4)
    -- "year outside the base's hundred is 16"
    ∷ by1990 (stamp (at 1989 12 31 23 59 59 (plus 0))) (refused 16 0)
    ∷ by1990 (to_meinberg (at 1989 12 31 23 59 59 (plus 0)) false (sevens 32)) (wrote_none 16 0 (sevens 32))
    ∷ by1990 (stamp (at 2090 1 1 0 0 0 (plus 0))) (refused 16 0)
    ∷ by1990 (to_pulses (at 2090 1 1 0 0 0 (plus 0)) (sevens 100)) (wrote_none 16 0 (sevens 100))
    ∷ by2000 (stamp (at 1999 12 31 23 59 59 (plus 0))) (refused 16 0)
    ∷ by2000 (to_meinberg (leap_second 1994 6 30) false (sevens 32)) (wrote_none 16 0 (sevens 32))
    -- "12 means UTC before 1990 or after 2099": a stamp in 2090 with the base 1990, and none in 1989 and 2100
    ∷ by1990 (stamp (at 2089 12 31 23 0 0 (minus 48))) (stamped 2840299673)
    ∷ by1990 (stamp (at 1990 1 1 0 59 59 (plus 4))) (refused 12 0)
    ∷ by1990 (listed (1 ∷ too_early)) (text too_early_lines)
    ∷ by2000 (stamp (at 2099 12 31 23 0 0 (minus 48))) (refused 12 0)
    -- a sender is held to the base's hundred: the minute being sent by 16, the minute named by 12, a leap date by 9
    ∷ by1990 (telegram (sending.plant None) (sending.at 1989 12 31 23 59) 0 (sevens 60)) (wrote_none 16 0 (sevens 60))
    ∷ by1990 (telegram (sending.plant None) (sending.at 2089 12 31 22 59) 0 (sevens 60)) (wrote_none 12 0 (sevens 60))
    ∷ by1990 (telegram (sending.plant (Some (sending.on 2090 1 31))) (sending.at 1994 6 30 23 59) 0 (sevens 61)) (wrote_none 9 0 (sevens 61))
    -- "any other base .. is 19", at place 0, of what is good with either base
    ∷ by1991 (stamp (case6 (plus 4))) (refused 19 0)
    ∷ by1991 (clock_string june94) (refused 19 0)
    ∷ by1991 (clock_string erlangen_string) (refused 19 0)
    ∷ by1991 (position_part erlangen_string) (text [])
    ∷ by2000 (position_part erlangen_string) (text position)
    ∷ by1991 (pulses frame6) (refused 19 0)
    ∷ by1991 (marks minute8) (refused 19 0)
    ∷ by1991 (to_meinberg (case6 (plus 4)) false (sevens 32)) (wrote_none 19 0 (sevens 32))
    ∷ by1991 (to_erlangen (case6 (plus 4)) false position (sevens 68)) (wrote_none 19 0 (sevens 68))
    ∷ by1991 (to_pulses (case6 (plus 4)) (sevens 100)) (wrote_none 19 0 (sevens 100))
    ∷ by1991 (to_marks case8 0 (sevens 60)) (wrote_none 19 0 (sevens 60))
    ∷ by1991 (bridged june94 (sevens 100)) (wrote_none 19 0 (sevens 100))
    ∷ by1991 (telegram (sending.plant None) (sending.at 2024 2 29 11 33) 0 (sevens 60)) (wrote_none 19 0 (sevens 60))
    ∷ by1991 (listed (1 ∷ june94)) (text other_base_lines)
    ∷ by1991 (listed []) (text other_base_lines)
    ∷ gives (with_base 0 (stamp (case6 (plus 4)))) (refused 19 0)
    ∷ gives (with_base 2100 (clock_string june94)) (refused 19 0)
    -- "straight after 1": the length and the room go before it
    ∷ by1991 (clock_string (take 31 june94)) (refused 1 0)
    ∷ by1991 (pulses (take 99 frame6)) (refused 1 0)
    ∷ by1991 (marks (take 59 minute8)) (refused 1 0)
    ∷ by1991 (to_erlangen (case6 (plus 4)) false (take 25 position) (sevens 68)) (wrote_none 1 0 (sevens 68))
    ∷ by1991 (to_meinberg (case6 (plus 4)) false (sevens 31)) (wrote_none 1 0 (sevens 31))
    ∷ by1991 (to_pulses (case6 (plus 4)) (sevens 99)) (wrote_none 1 0 (sevens 99))
    ∷ by1991 (to_marks case8 0 (sevens 59)) (wrote_none 1 0 (sevens 59))
    ∷ by1991 (bridged june94 (sevens 99)) (wrote_none 1 0 (sevens 99))
    ∷ by1991 (telegram (sending.plant None) (sending.at 2024 2 29 11 33) 0 (sevens 59)) (wrote_none 1 0 (sevens 59))
    -- but 60 bytes are room enough for a refusal, of a long minute too
    ∷ by1991 (to_marks july94 0 (sevens 60)) (wrote_none 19 0 (sevens 60))
    ∷ by1991 (telegram (sending.plant (Some (sending.on 1994 6 30))) (sending.at 1994 6 30 23 59) 0 (sevens 60)) (wrote_none 19 0 (sevens 60))
    -- and it before every other: a byte, the position's too, a rule of summer time, a time
    ∷ by1991 (clock_string (wrong_first june94)) (refused 19 0)
    ∷ by1991 (pulses (wrong_first frame6)) (refused 19 0)
    ∷ by1991 (marks (wrong_first minute8)) (refused 19 0)
    ∷ by1991 (to_erlangen (case6 (plus 4)) false (wrong_first position) (sevens 68)) (wrote_none 19 0 (sevens 68))
    ∷ by1991 (telegram (sending.sender (sending.set 0 0 0) sending.autumn None) (sending.at 2024 2 29 11 33) 0 (sevens 60)) (wrote_none 19 0 (sevens 60))
    ∷ by1991 (stamp (at 2024 2 29 24 34 56 (plus 4))) (refused 19 0)
    ∷ []
