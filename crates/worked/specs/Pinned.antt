-- Further lines with the numbers and bytes of document 01: a code and a place for each refusal, which code goes first where two
-- apply, and which pulse, mark or letter says what. A definition that is wrong together with its code stands out here alone.
use Rattle.std.specs.Prelude.{true, false, List, [], ◌∷◌, ◌++◌, ℕ, take}
use Rattle.worked.specs.Questions.{
  Case,
  gives,
  clock_string,
  pulses,
  marks,
  to_meinberg,
  to_erlangen,
  to_pulses,
  to_marks,
  bridged,
  told,
  told_meinberg,
  told_erlangen,
  told_minute,
  refused,
  wrote,
  wrote_none,
}
use Rattle.worked.specs.Given.{
  plus,
  minus,
  leap_day,
  case6,
  case8,
  minute_with,
  turned,
  frame_with,
  frame6,
  ones8,
  minute8,
  meinberg6,
  position,
  erlangen_at,
  erlangen6,
  hour_ahead,
  sevens,
}
use Rattle.worked.specs.Cases.{string2}

-- ---- the bridge

-- STX `31.12.16; 6; 23:mm:ss; +00:00;    !A i; `, 26 spaces of position, ETX: both announced, the byte i
abbrev last_minutes : ℕ → ℕ → ℕ → List ℕ
last_minutes mi s i = erlangen_at 31 12 16 6 23 mi s (43 ∷ 48 ∷ 48 ∷ 58 ∷ 48 ∷ 48 ∷ []) (32 ∷ 32 ∷ 32 ∷ 33 ∷ 65 ∷ 32 ∷ i ∷ [])

-- its frame: ones that say second and minute, then hour 23, day 366 and year 16, then the other ones
abbrev last_frame : List ℕ → List ℕ → List ℕ
last_frame before behind = frame_with (before ++ (13 ∷ 15 ∷ 17 ∷ 20 ∷ 21 ∷ 26 ∷ 31 ∷ 32 ∷ 36 ∷ 37 ∷ 40 ∷ 41 ∷ 51 ∷ 52 ∷ 55 ∷ []) ++ behind)

-- the frame of 23:59:60, in which nothing is pending
abbrev leap_frame : List ℕ
leap_frame = last_frame (7 ∷ 8 ∷ 10 ∷ []) (87 ∷ 88 ∷ 93 ∷ 95 ∷ 97 ∷ [])

-- ---- the list

unfoldable pub pinned : List Case
pinned =
    -- code 1: wrong input length, or output shorter than the format
    gives (pulses (take 99 frame6)) (refused 1 0)
    ∷ gives (marks (take 59 minute8)) (refused 1 0)
    ∷ gives (to_pulses (case6 (plus 4)) (sevens 99)) (wrote_none 1 0 (sevens 99))
    -- code 2 and the lowest bad place: pulses 5 and 76 are 1; mark 20 is 0; a string ends in `X`
    ∷ gives (pulses (turned (5 ∷ 76 ∷ []) frame6)) (refused 2 5)
    ∷ gives (marks (turned (20 ∷ []) minute8)) (refused 2 20)
    ∷ gives (clock_string (meinberg6 32 32 32 88)) (refused 2 30)
    -- code 3, also where the parity is wrong: the second ends in 10, the minute in 12
    ∷ gives (pulses (turned (3 ∷ 4 ∷ []) frame6)) (refused 3 1)
    ∷ gives (marks (turned (24 ∷ []) minute8)) (refused 3 21)
    -- code 4: another parity
    ∷ gives (pulses (turned (75 ∷ []) frame6)) (refused 4 75)
    ∷ gives (marks (turned (28 ∷ []) minute8)) (refused 4 28)
    -- codes 15, 16 and 17 before 8: minute 60 in zone 0,0; weekday 0 in zone 0,0; head 32768
    ∷ gives (marks (turned (18 ∷ 23 ∷ 25 ∷ 27 ∷ 28 ∷ []) minute8)) (refused 15 21)
    ∷ gives (marks (turned (18 ∷ 44 ∷ 58 ∷ []) minute8)) (refused 16 42)
    ∷ gives (to_marks case8 32768 (sevens 60)) (wrote_none 17 0 (sevens 60))
    -- code 6 before 8: a Tuesday in zone 0,0
    ∷ gives (marks (turned (18 ∷ 43 ∷ 44 ∷ []) minute8)) (refused 6 42)
    -- code 7 before 8: minus zero, and another second of the day
    ∷ gives (pulses (turned (65 ∷ 75 ∷ 84 ∷ []) frame6)) (refused 7 80)
    -- code 8: minus zero; zone 0,0 and zone 1,1
    ∷ gives (pulses (turned (65 ∷ 75 ∷ []) frame6)) (refused 8 64)
    ∷ gives (marks (turned (18 ∷ []) minute8)) (refused 8 17)
    ∷ gives (marks (turned (17 ∷ []) minute8)) (refused 8 17)
    -- code 9: `L` at second 56; 61 marks where no leap second is due
    ∷ gives (clock_string (erlangen6 hour_ahead (32 ∷ 32 ∷ 32 ∷ 32 ∷ 32 ∷ 32 ∷ 76 ∷ []))) (refused 9 20)
    ∷ gives (marks (minute_with 60 ones8)) (refused 9 60)
    -- code 10: pulse 61 is 1
    ∷ gives (pulses (turned (61 ∷ 75 ∷ []) frame6)) (refused 10 61)
    -- code 11: quality 3; both announcements; second 30
    ∷ gives (to_meinberg (leap_day 56 (plus 4) false false false 3) false (sevens 32)) (wrote_none 11 0 (sevens 32))
    ∷ gives (to_meinberg (leap_day 56 (plus 4) false true true 0) false (sevens 32)) (wrote_none 11 0 (sevens 32))
    ∷ gives (to_erlangen (leap_day 56 (plus 4) false false false 3) false position (sevens 68)) (wrote_none 11 0 (sevens 68))
    ∷ gives (to_marks (leap_day 30 (plus 4) false false false 0) 0 (sevens 60)) (wrote_none 11 0 (sevens 60))
    -- pulses 60, 62, 63 and 71: leap pending, change pending, summer, quality 1
    ∷ gives (pulses (turned (60 ∷ 75 ∷ []) frame6)) (told (leap_day 56 (plus 4) false true false 0))
    ∷ gives (pulses (turned (62 ∷ 75 ∷ []) frame6)) (told (leap_day 56 (plus 4) false false true 0))
    ∷ gives (pulses (turned (63 ∷ 75 ∷ []) frame6)) (told (leap_day 56 (plus 4) true false false 0))
    ∷ gives (pulses (turned (71 ∷ 75 ∷ []) frame6)) (told (leap_day 56 (plus 4) false false false 1))
    -- marks 1 and 15 of the head, 16 change announced, 19 leap announced, and 1,0 at 17 and 18
    ∷ gives (marks (turned (1 ∷ 15 ∷ []) minute8)) (told_minute case8 16385)
    ∷ gives (marks (turned (16 ∷ []) minute8)) (told_minute (leap_day 0 (plus 4) false false true 0) 0)
    ∷ gives (marks (turned (19 ∷ []) minute8)) (told_minute (leap_day 0 (plus 4) false true false 0) 0)
    ∷ gives (marks (turned (17 ∷ 18 ∷ []) minute8)) (told_minute (leap_day 0 (plus 8) true false false 0) 0)
    -- `    `, `#*S!`, and in a Uni Erlangen string `#*S!A`
    ∷ gives (clock_string (meinberg6 32 32 32 32)) (told_meinberg (case6 (plus 4)) false)
    ∷ gives (clock_string (meinberg6 35 42 83 33)) (told_meinberg (leap_day 56 (plus 8) true false true 15) true)
    ∷ gives (clock_string (erlangen6 hour_ahead (35 ∷ 42 ∷ 83 ∷ 33 ∷ 65 ∷ 32 ∷ 32 ∷ []))) (told_erlangen (leap_day 56 (plus 4) true true true 15) true)
    -- the same bytes written, and `-12:00`
    ∷ gives (to_meinberg (leap_day 56 (plus 8) true false true 15) true (sevens 34)) (wrote 32 (meinberg6 35 42 83 33 ++ sevens 2))
    ∷ gives (to_erlangen (leap_day 56 (minus 48) true true true 15) true position (sevens 70)) (wrote 68 (erlangen6 (45 ∷ 49 ∷ 50 ∷ 58 ∷ 48 ∷ 48 ∷ []) (35 ∷ 42 ∷ 83 ∷ 33 ∷ 65 ∷ 32 ∷ 32 ∷ []) ++ sevens 2))
    -- the bridge at the edges of both windows: pulses 60 and 62 are 1 at 23:59:01 and 23:59:59, and at 23:58:59, 23:59:00 and
    -- 23:59:60 they are not
    ∷ gives (bridged (last_minutes 58 59 32) (sevens 101)) (wrote 100 (last_frame (1 ∷ 4 ∷ 6 ∷ 8 ∷ []) (75 ∷ 80 ∷ 81 ∷ 86 ∷ 88 ∷ 93 ∷ 95 ∷ 97 ∷ []) ++ sevens 1))
    ∷ gives (bridged (last_minutes 59 0 32) (sevens 101)) (wrote 100 (last_frame (10 ∷ []) (82 ∷ 86 ∷ 88 ∷ 93 ∷ 95 ∷ 97 ∷ []) ++ sevens 1))
    ∷ gives (bridged (last_minutes 59 1 32) (sevens 101)) (wrote 100 (last_frame (1 ∷ 10 ∷ []) (60 ∷ 62 ∷ 75 ∷ 80 ∷ 82 ∷ 86 ∷ 88 ∷ 93 ∷ 95 ∷ 97 ∷ []) ++ sevens 1))
    ∷ gives (bridged (last_minutes 59 59 32) (sevens 101)) (wrote 100 (last_frame (1 ∷ 4 ∷ 6 ∷ 8 ∷ 10 ∷ []) (60 ∷ 62 ∷ 80 ∷ 81 ∷ 82 ∷ 83 ∷ 84 ∷ 85 ∷ 86 ∷ 88 ∷ 93 ∷ 95 ∷ 97 ∷ []) ++ sevens 1))
    ∷ gives (bridged (last_minutes 59 60 76) (sevens 101)) (wrote 100 (leap_frame ++ sevens 1))
    -- case 2's string, and 99 bytes of room
    ∷ gives (bridged string2 (sevens 100)) (wrote 100 leap_frame)
    ∷ gives (bridged string2 (sevens 99)) (wrote_none 1 0 (sevens 99))
    ∷ []
