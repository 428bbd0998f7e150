-- L9, "Quarter-hour zones": offsets of every quarter in Uni Erlangen strings, and what an odd quarter meets at each writer, at stamping,
-- at the bridge and in a listing. A frame counts half hours, so that it carries only every second quarter.
use Rattle.std.specs.Prelude.{false, List, [], ◌∷◌, ◌++◌, ℕ, take, drop, replicate}
use Rattle.reading.specs.declared.Reading.{Reading}
use Rattle.bridge.specs.declared.Coasting.TheVariants.{Dropped}
use Rattle.worked.specs.Questions.{
  Case,
  gives,
  stamp,
  stamp_of_string,
  clock_string,
  pulses,
  to_meinberg,
  to_erlangen,
  to_pulses,
  to_marks,
  bridged,
  bridged_with,
  listed,
  stamped,
  told,
  told_erlangen,
  refused,
  wrote,
  wrote_none,
  text,
}
use Rattle.worked.specs.Given.{at, flagged, plus, minus, case6, two, position, erlangen_at, no_flags, sevens, heading}
use Rattle.worked.specs.Cases.{frame10, string10}

-- ---- offsets and letters as a string has them

-- `+hh:mm` and `-hh:mm`
abbrev ahead : ℕ → ℕ → List ℕ
ahead h m = (43 ∷ []) ++ two h ++ (58 ∷ []) ++ two m

abbrev behind : ℕ → ℕ → List ℕ
behind h m = (45 ∷ []) ++ two h ++ (58 ∷ []) ++ two m

-- a string of case 6's time with the offset given says the reading that follows
abbrev says : List ℕ → Reading → Case
says offset r = gives (clock_string (string10 offset)) (told_erlangen r false)

abbrev no_offset : List ℕ → Case
no_offset offset = gives (clock_string (string10 offset)) (refused 8 24)

-- of the letters `L` alone
abbrev leap_mark : List ℕ
leap_mark = replicate 6 32 ++ (76 ∷ [])

-- ---- a plant at UTC+5:45

-- case 6's time there
abbrev plant : Reading
plant = case6 (plus 23)

abbrev plant_string : List ℕ
plant_string = string10 (ahead 5 45)

-- the same with another first byte, with hour 24, month 13, Tuesday for the Thursday, and a second 60 that does not end a UTC month
abbrev wrong_byte : List ℕ
wrong_byte = 9 ∷ drop 1 plant_string

abbrev wrong_hour : List ℕ
wrong_hour = erlangen_at 29 2 24 4 24 34 56 (ahead 5 45) no_flags

abbrev wrong_month : List ℕ
wrong_month = erlangen_at 29 13 24 4 12 34 56 (ahead 5 45) no_flags

abbrev wrong_weekday : List ℕ
wrong_weekday = erlangen_at 29 2 24 2 12 34 56 (ahead 5 45) no_flags

abbrev wrong_sixty : List ℕ
wrong_sixty = erlangen_at 29 2 24 4 12 34 60 (ahead 5 45) leap_mark

-- the leap second of 2016 there, Sunday 1 January 2017, 05:44:60, and a minute later, where none is
abbrev leap_there : Reading
leap_there = at 2017 1 1 5 44 60 (plus 23)

abbrev leap_string : ℕ → List ℕ
leap_string minute = erlangen_at 1 1 17 7 5 minute 60 (ahead 5 45) leap_mark

-- `at kind answer value place` and `0 2 ok 762513421 0`, a line feed behind each
abbrev plant_lines : List ℕ
plant_lines =
    heading
    ++ (
    48 ∷ 32 ∷ 50 ∷ 32 ∷ 111 ∷ 107 ∷ 32 ∷ 55 ∷ 54 ∷ 50 ∷ 53 ∷ 49 ∷ 51 ∷ 52 ∷ 50 ∷ 49 ∷ 32 ∷ 48 ∷ 10
    ∷ []
    )

-- ---- writers

-- no frame, Meinberg string or minute is written of a reading, by the code that follows it
abbrev no_frame : Reading → ℕ → Case
no_frame r code = gives (to_pulses r (sevens 100)) (wrote_none code 0 (sevens 100))

abbrev no_meinberg : Reading → ℕ → Case
no_meinberg r code = gives (to_meinberg r false (sevens 32)) (wrote_none code 0 (sevens 32))

abbrev no_minute : Reading → ℕ → Case
no_minute r code = gives (to_marks r 0 (sevens 60)) (wrote_none code 0 (sevens 60))

-- the frames of `+05:30` and of `-09:30`: sign, hours, half hour and parity
abbrev frame_ahead : List ℕ
frame_ahead = frame10 (64 ∷ 65 ∷ 67 ∷ 70 ∷ 75 ∷ [])

abbrev frame_behind : List ℕ
frame_behind = frame10 (65 ∷ 68 ∷ 70 ∷ [])

unfoldable pub quarters : List Case
quarters =
    -- "Uni Erlangen takes minutes 00, 15, 30 and 45"; the least to either side of UTC
    says (ahead 5 0) (case6 (plus 20))
    ∷ says (ahead 5 15) (case6 (plus 21))
    ∷ says (ahead 5 30) (case6 (plus 22))
    ∷ says (ahead 5 45) (case6 (plus 23))
    ∷ says (behind 9 30) (case6 (minus 38))
    ∷ says (ahead 0 15) (case6 (plus 1))
    ∷ says (behind 0 15) (case6 (minus 1))
    ∷ says (ahead 13 45) (case6 (plus 55))
    ∷ says (behind 11 45) (case6 (minus 47))
    -- "not quarter hours", and `-00:00` stays what it was
    ∷ no_offset (ahead 5 20)
    ∷ no_offset (ahead 5 50)
    ∷ no_offset (ahead 5 60)
    ∷ no_offset (ahead 5 14)
    ∷ no_offset (behind 0 0)
    -- written as they are read
    ∷ gives (to_erlangen plant false position (sevens 69)) (wrote 68 (plant_string ++ sevens 1))
    ∷ gives (to_erlangen (case6 (minus 1)) false position (sevens 68)) (wrote 68 (string10 (behind 0 15)))
    ∷ gives (to_erlangen (case6 (plus 56)) false position (sevens 68)) (wrote 68 (string10 (ahead 14 0)))
    ∷ gives (to_erlangen (case6 (minus 48)) false position (sevens 68)) (wrote 68 (string10 (behind 12 0)))
    ∷ gives (to_erlangen (case6 (plus 57)) false position (sevens 68)) (wrote_none 8 0 (sevens 68))
    -- UTC of the plant's time is 06:49:56, and of the same local time at `+05:30` 07:04:56; stamped and listed
    ∷ gives (stamp plant) (stamped 762513421)
    ∷ gives (stamp_of_string plant_string) (stamped 762513421)
    ∷ gives (stamp (case6 (plus 22))) (stamped 762514321)
    ∷ gives (listed (2 ∷ plant_string)) (text plant_lines)
    -- a leap second there: 05:44:60 is 23:59:60 UTC, 05:45:60 is none
    ∷ gives (clock_string (leap_string 44)) (told_erlangen leap_there false)
    ∷ gives (stamp leap_there) (stamped 536550209)
    ∷ gives (clock_string (leap_string 45)) (refused 9 20)
    -- a frame says half hours, and its reader gives twice as many quarters
    ∷ gives (pulses frame_ahead) (told (case6 (plus 22)))
    ∷ gives (to_pulses (case6 (plus 22)) (sevens 100)) (wrote 100 frame_ahead)
    ∷ gives (pulses frame_behind) (told (case6 (minus 38)))
    ∷ gives (to_pulses (case6 (minus 38)) (sevens 100)) (wrote 100 frame_behind)
    -- "an odd quarter at the IEEE 1344 writer .. is 11": the least, the plant's, and the last to either side
    ∷ no_frame (case6 (plus 1)) 11
    ∷ no_frame (case6 (minus 1)) 11
    ∷ no_frame plant 11
    ∷ no_frame (case6 (plus 55)) 11
    ∷ no_frame (case6 (minus 47)) 11
    ∷ no_frame leap_there 11
    -- out of range is 8, odd or not
    ∷ no_frame (case6 (plus 57)) 8
    ∷ no_frame (case6 (minus 49)) 8
    ∷ no_frame (case6 (plus 58)) 8
    ∷ no_frame (case6 (plus 127)) 8
    ∷ no_frame (case6 (minus 127)) 8
    ∷ no_frame (case6 (minus 128)) 8
    -- and 11 comes after every other refusal: the room, hour 24, month 13, quality 16, second 60 that is not allowed
    ∷ gives (to_pulses plant (sevens 99)) (wrote_none 1 0 (sevens 99))
    ∷ no_frame (at 2024 2 29 24 34 56 (plus 23)) 15
    ∷ no_frame (at 2024 13 29 12 34 56 (plus 23)) 16
    ∷ no_frame (flagged 2024 2 29 12 34 56 (plus 23) false false false 16) 17
    ∷ no_frame (at 2024 2 29 12 34 60 (plus 23)) 9
    -- to Meinberg's writer and DCF77's an odd quarter is another zone than theirs, and so is +2, their winter in half hours
    ∷ no_meinberg plant 11
    ∷ no_meinberg (case6 (plus 2)) 11
    ∷ no_minute (at 2024 2 29 12 34 0 (plus 23)) 11
    ∷ no_minute (at 2024 2 29 12 34 0 (plus 2)) 11
    -- "or the bridge is 11", whichever way, and the buffer stays
    ∷ gives (bridged plant_string (sevens 101)) (wrote_none 11 0 (sevens 101))
    ∷ gives (bridged_with Dropped plant_string (sevens 101)) (wrote_none 11 0 (sevens 101))
    ∷ gives (bridged (leap_string 44) (sevens 100)) (wrote_none 11 0 (sevens 100))
    -- after the room, and after each refusal of the string's own, code and place
    ∷ gives (bridged plant_string (sevens 99)) (wrote_none 1 0 (sevens 99))
    ∷ gives (bridged (take 67 plant_string) (sevens 100)) (wrote_none 1 0 (sevens 100))
    ∷ gives (bridged wrong_byte (sevens 100)) (wrote_none 2 0 (sevens 100))
    ∷ gives (bridged wrong_hour (sevens 100)) (wrote_none 15 14 (sevens 100))
    ∷ gives (bridged wrong_month (sevens 100)) (wrote_none 16 4 (sevens 100))
    ∷ gives (bridged wrong_weekday (sevens 100)) (wrote_none 6 11 (sevens 100))
    ∷ gives (bridged wrong_sixty (sevens 100)) (wrote_none 9 20 (sevens 100))
    ∷ gives (bridged (string10 (ahead 14 15)) (sevens 100)) (wrote_none 8 24 (sevens 100))
    -- a half hour goes over
    ∷ gives (bridged (string10 (ahead 5 30)) (sevens 101)) (wrote 100 (frame_ahead ++ sevens 1))
    ∷ []
