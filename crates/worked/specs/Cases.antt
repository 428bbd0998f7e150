-- "Worked dates and frames": the cases of document 01 as data, in its order and with its numbers; codes and places as L5 has them, and
-- by L9 "Every offset in 01 and its cases doubles".
use Rattle.std.specs.Prelude.{false, List, [], ◌∷◌, ◌++◌, ℕ}
use Rattle.calendar.specs.declared.Date.{Date}
use Rattle.worked.specs.Questions.{
  Case,
  gives,
  weekday,
  stamp,
  stamp_of_string,
  clock_string,
  pulses,
  marks,
  to_pulses,
  to_marks,
  day,
  stamped,
  stamped_before,
  told,
  told_erlangen,
  told_minute,
  refused,
  wrote,
  wrote_none,
}
use Rattle.worked.specs.Given.{at, plus, minus, case6, case8, case9, frame_with, turned, frame6, minute8, erlangen6, no_flags, sevens}

abbrev date : ℕ → ℕ → ℕ → Date
date y m d = record { year = y; month = m; day = d }

-- STX `D:31.12.16;T:6;U:23.59.60;  UA` ETX
abbrev pub string2 : List ℕ
string2 = 2 ∷ 68 ∷ 58 ∷ 51 ∷ 49 ∷ 46 ∷ 49 ∷ 50 ∷ 46 ∷ 49 ∷ 54 ∷ 59 ∷ 84 ∷ 58 ∷ 54 ∷ 59 ∷ 85 ∷ 58 ∷ 50 ∷ 51 ∷ 46 ∷ 53 ∷ 57 ∷ 46 ∷ 54 ∷ 48 ∷ 59 ∷ 32 ∷ 32 ∷ 85 ∷ 65 ∷ 3 ∷ []

-- STX `D:29.02.23;T:3;U:12.34.56;    ` ETX
abbrev pub string5 : List ℕ
string5 = 2 ∷ 68 ∷ 58 ∷ 50 ∷ 57 ∷ 46 ∷ 48 ∷ 50 ∷ 46 ∷ 50 ∷ 51 ∷ 59 ∷ 84 ∷ 58 ∷ 51 ∷ 59 ∷ 85 ∷ 58 ∷ 49 ∷ 50 ∷ 46 ∷ 51 ∷ 52 ∷ 46 ∷ 53 ∷ 54 ∷ 59 ∷ 32 ∷ 32 ∷ 32 ∷ 32 ∷ 3 ∷ []

-- case 9 as a frame: minute 30, day 1, what is added -1 hour, second of the day 1800
abbrev pub frame9 : List ℕ
frame9 = frame_with (15 ∷ 16 ∷ 30 ∷ 64 ∷ 65 ∷ 75 ∷ 83 ∷ 88 ∷ 90 ∷ 91 ∷ [])

-- case 10 as a frame: case 6's ones, with the sign, hours, half hour and parity given
abbrev pub frame10 : List ℕ → List ℕ
frame10 offset = frame_with ((2 ∷ 3 ∷ 6 ∷ 8 ∷ 12 ∷ 15 ∷ 16 ∷ 21 ∷ 25 ∷ 36 ∷ 37 ∷ 52 ∷ 56 ∷ []) ++ offset ++ (84 ∷ 85 ∷ 86 ∷ 87 ∷ 93 ∷ 94 ∷ 96 ∷ []))

-- case 10 as a string, with the six bytes voo:oo
abbrev pub string10 : List ℕ → List ℕ
string10 offset = erlangen6 offset no_flags

unfoldable pub cases : List Case
cases =
    -- 1. 2000-01-01 00:00:00 UTC: stamp 0
    gives (stamp (at 2000 1 1 0 0 0 (plus 0))) (stamped 0)
    -- 2. `D:31.12.16;T:6;U:23.59.60;  UA`: stamp 536550209
    ∷ gives (stamp_of_string string2) (stamped 536550209)
    -- 3. 2017-01-01 00:59:60, offset +4: the same stamp; 00:00:00 UTC: 536550210
    ∷ gives (stamp (at 2017 1 1 0 59 60 (plus 4))) (stamped 536550209)
    ∷ gives (stamp (at 2017 1 1 0 0 0 (plus 0))) (stamped 536550210)
    -- 4. 2017-01-02 00:59:60, offset +4: code 9
    ∷ gives (stamp (at 2017 1 2 0 59 60 (plus 4))) (refused 9 0)
    -- 5. 29.02.24 is weekday 4; 29.02.23: code 5, which by L5 is 16 at the day
    ∷ gives (weekday (date 2024 2 29)) (day 4)
    ∷ gives (clock_string string5) (refused 16 3)
    -- 6. 2024-02-29 12:34:56, offset +4, no flags, quality 0: the ones of the IEEE 1344 frame
    ∷ gives (to_pulses (case6 (plus 4)) (sevens 102)) (wrote 100 (frame6 ++ sevens 2))
    ∷ gives (pulses frame6) (told (case6 (plus 4)))
    -- 7. the same with pulse 84 cleared: code 7
    ∷ gives (pulses (turned (84 ∷ []) frame6)) (refused 7 80)
    -- 8. 2024-02-29 12:34, offset +4, head 0: the ones of the DCF77 minute, 2 at 59
    ∷ gives (to_marks case8 0 (sevens 62)) (wrote 60 (minute8 ++ sevens 2))
    ∷ gives (marks minute8) (told_minute case8 0)
    -- 9. 2000-01-01 00:30:00, offset +4: accepted, its stamp is code 12, which by L12 "is now -1801"
    ∷ gives (to_pulses case9 (sevens 100)) (wrote 100 frame9)
    ∷ gives (pulses frame9) (told case9)
    ∷ gives (stamp case9) (stamped_before 1801)
    -- 10. case 6's date and time: offset +56 accepted, +57 code 8; -48 accepted, -49 code 8. (No frame can say +57 or -49; the refused ones say half an hour too much.)
    ∷ gives (to_pulses (case6 (plus 56)) (sevens 100)) (wrote 100 (frame10 (64 ∷ 66 ∷ 67 ∷ 68 ∷ 75 ∷ [])))
    ∷ gives (pulses (frame10 (64 ∷ 66 ∷ 67 ∷ 68 ∷ 75 ∷ []))) (told (case6 (plus 56)))
    ∷ gives (to_pulses (case6 (plus 57)) (sevens 100)) (wrote_none 8 0 (sevens 100))
    ∷ gives (pulses (frame10 (64 ∷ 66 ∷ 67 ∷ 68 ∷ 70 ∷ []))) (refused 8 64)
    ∷ gives (to_pulses (case6 (minus 48)) (sevens 100)) (wrote 100 (frame10 (67 ∷ 68 ∷ 75 ∷ [])))
    ∷ gives (pulses (frame10 (67 ∷ 68 ∷ 75 ∷ []))) (told (case6 (minus 48)))
    ∷ gives (to_pulses (case6 (minus 49)) (sevens 100)) (wrote_none 8 0 (sevens 100))
    ∷ gives (pulses (frame10 (67 ∷ 68 ∷ 70 ∷ []))) (refused 8 64)
    -- the same in Uni Erlangen strings: `+14:00`, `+14:15`, `-12:00`, `-12:15`
    ∷ gives (clock_string (string10 (43 ∷ 49 ∷ 52 ∷ 58 ∷ 48 ∷ 48 ∷ []))) (told_erlangen (case6 (plus 56)) false)
    ∷ gives (clock_string (string10 (43 ∷ 49 ∷ 52 ∷ 58 ∷ 49 ∷ 53 ∷ []))) (refused 8 24)
    ∷ gives (clock_string (string10 (45 ∷ 49 ∷ 50 ∷ 58 ∷ 48 ∷ 48 ∷ []))) (told_erlangen (case6 (minus 48)) false)
    ∷ gives (clock_string (string10 (45 ∷ 49 ∷ 50 ∷ 58 ∷ 49 ∷ 53 ∷ []))) (refused 8 24)
    -- the largest stamp
    ∷ gives (stamp (at 2099 12 31 23 59 60 (plus 0))) (stamped 3155796524)
    ∷ []
