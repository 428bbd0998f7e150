-- Which field was wrong, which request L5 splits code 5 for: "Reader refusals except 1 and 2 shall give the place of the first byte of the
-- lowest offending field, code 4 the parity place, and 9 the second or, for a DCF77 length, the last place." In literal
-- numbers: each code and place of each reader and writer that the lists of the cases, of codes and of month ends leave open, and which
-- goes first where two fields are wrong.
use Rattle.std.specs.Prelude.{false, List, [], ◌∷◌, ◌++◌, ℕ, take, drop, replicate}
use Rattle.worked.specs.Questions.{
  Case,
  gives,
  stamp,
  clock_string,
  pulses,
  marks,
  to_meinberg,
  to_erlangen,
  to_pulses,
  to_marks,
  bridged,
  listed,
  refused,
  wrote_none,
  text,
}
use Rattle.worked.specs.Given.{
  flagged,
  at,
  plus,
  case6,
  case8,
  turned,
  frame6,
  minute8,
  meinberg_at,
  position,
  erlangen_at,
  erlangen6,
  hour_ahead,
  no_flags,
  sevens,
  heading,
}

-- ---- strings of winter time

-- `D:dd.mm.24;T:w;U:hh.mm.ss;    `
abbrev clock : ℕ → ℕ → ℕ → ℕ → ℕ → ℕ → List ℕ
clock d mo w h mi s = meinberg_at d mo 24 w h mi s (replicate 4 32)

-- `dd.mm.24; w; hh:mm:ss; +01:00;          `
abbrev long : ℕ → ℕ → ℕ → ℕ → ℕ → ℕ → List ℕ
long d mo w h mi s = erlangen_at d mo 24 w h mi s hour_ahead no_flags

-- `at kind answer value place`, `0 1 no 16 6` and `33 2 no 15 14`, a line feed behind each
abbrev lines : List ℕ
lines =
    heading
    ++ (
    48 ∷ 32 ∷ 49 ∷ 32 ∷ 110 ∷ 111 ∷ 32 ∷ 49 ∷ 54 ∷ 32 ∷ 54 ∷ 10
    ∷ 51 ∷ 51 ∷ 32 ∷ 50 ∷ 32 ∷ 110 ∷ 111 ∷ 32 ∷ 49 ∷ 53 ∷ 32 ∷ 49 ∷ 52 ∷ 10
    ∷ []
    )

-- ---- the list

unfoldable pub places : List Case
places =
    -- Meinberg, 15: hour 24, minute 60, second 61; hour and second; hour 24 with month 13
    gives (clock_string (clock 29 2 4 24 34 56)) (refused 15 18)
    ∷ gives (clock_string (clock 29 2 4 12 60 56)) (refused 15 21)
    ∷ gives (clock_string (clock 29 2 4 12 34 61)) (refused 15 24)
    ∷ gives (clock_string (clock 29 2 4 24 34 61)) (refused 15 18)
    ∷ gives (clock_string (clock 29 13 4 24 34 56)) (refused 15 18)
    -- 16: "Under a bad month a day is bad only outside 1..31"; weekday 0, alone and with a bad month
    ∷ gives (clock_string (clock 31 13 4 12 34 56)) (refused 16 6)
    ∷ gives (clock_string (clock 0 13 4 12 34 56)) (refused 16 3)
    ∷ gives (clock_string (clock 32 13 4 12 34 56)) (refused 16 3)
    ∷ gives (clock_string (clock 31 0 4 12 34 56)) (refused 16 6)
    ∷ gives (clock_string (clock 30 2 4 12 34 56)) (refused 16 3)
    ∷ gives (clock_string (clock 29 2 0 12 34 56)) (refused 16 14)
    ∷ gives (clock_string (clock 29 13 0 12 34 56)) (refused 16 6)
    -- 6 a Wednesday, also at a second 60; 9 that second
    ∷ gives (clock_string (clock 29 2 3 12 34 56)) (refused 6 14)
    ∷ gives (clock_string (clock 29 2 3 12 34 60)) (refused 6 14)
    ∷ gives (clock_string (clock 29 2 4 12 34 60)) (refused 9 24)
    -- the same in Uni Erlangen strings
    ∷ gives (clock_string (long 29 2 4 24 34 56)) (refused 15 14)
    ∷ gives (clock_string (long 29 2 4 12 60 56)) (refused 15 17)
    ∷ gives (clock_string (long 29 2 4 12 34 61)) (refused 15 20)
    ∷ gives (clock_string (long 29 13 4 24 34 56)) (refused 15 14)
    ∷ gives (clock_string (long 0 13 4 12 34 56)) (refused 16 1)
    ∷ gives (clock_string (long 31 13 4 12 34 56)) (refused 16 4)
    ∷ gives (clock_string (long 29 2 9 12 34 56)) (refused 16 11)
    ∷ gives (clock_string (long 29 2 3 12 34 56)) (refused 6 11)
    ∷ gives (clock_string (long 29 2 4 12 34 60)) (refused 9 20)
    -- 8, at the sign: `+01:10`, `-00:00`
    ∷ gives (clock_string (erlangen6 (43 ∷ 48 ∷ 49 ∷ 58 ∷ 49 ∷ 48 ∷ []) no_flags)) (refused 8 24)
    ∷ gives (clock_string (erlangen6 (45 ∷ 48 ∷ 48 ∷ 58 ∷ 48 ∷ 48 ∷ []) no_flags)) (refused 8 24)
    -- IEEE 1344, 3 at the field: the minute ends in 14, the hour in 10, the day in 10, its tens are 14, the year ends in 14, its tens are 10
    ∷ gives (pulses (turned (11 ∷ 13 ∷ []) frame6)) (refused 3 10)
    ∷ gives (pulses (turned (23 ∷ []) frame6)) (refused 3 20)
    ∷ gives (pulses (turned (31 ∷ 33 ∷ []) frame6)) (refused 3 30)
    ∷ gives (pulses (turned (38 ∷ []) frame6)) (refused 3 30)
    ∷ gives (pulses (turned (51 ∷ 53 ∷ []) frame6)) (refused 3 50)
    ∷ gives (pulses (turned (58 ∷ []) frame6)) (refused 3 50)
    -- 15: second 61, also with hour 25; minute 60; hour 24
    ∷ gives (pulses (turned (1 ∷ 2 ∷ 3 ∷ 6 ∷ 7 ∷ 75 ∷ []) frame6)) (refused 15 1)
    ∷ gives (pulses (turned (1 ∷ 2 ∷ 3 ∷ 6 ∷ 7 ∷ 20 ∷ 21 ∷ 22 ∷ 25 ∷ 26 ∷ []) frame6)) (refused 15 1)
    ∷ gives (pulses (turned (12 ∷ 15 ∷ 17 ∷ 75 ∷ []) frame6)) (refused 15 10)
    ∷ gives (pulses (turned (21 ∷ 22 ∷ 25 ∷ 26 ∷ []) frame6)) (refused 15 20)
    -- 16: day 0; day 366 of 2023
    ∷ gives (pulses (turned (36 ∷ 37 ∷ []) frame6)) (refused 16 30)
    ∷ gives (pulses (turned (31 ∷ 32 ∷ 40 ∷ 41 ∷ 50 ∷ 51 ∷ 52 ∷ 75 ∷ []) frame6)) (refused 16 30)
    -- 9: 12:34:60, with its second of the day
    ∷ gives (pulses (turned (2 ∷ 3 ∷ 6 ∷ 7 ∷ 82 ∷ []) frame6)) (refused 9 1)
    -- DCF77, 3 at the field: the hour ends in 10, the day in 11, the month in 10, the year in 12, its tens are 10
    ∷ gives (marks (turned (32 ∷ []) minute8)) (refused 3 29)
    ∷ gives (marks (turned (37 ∷ []) minute8)) (refused 3 36)
    ∷ gives (marks (turned (48 ∷ []) minute8)) (refused 3 45)
    ∷ gives (marks (turned (53 ∷ []) minute8)) (refused 3 50)
    ∷ gives (marks (turned (57 ∷ []) minute8)) (refused 3 50)
    -- 4: one parity, and the lowest of two and of three
    ∷ gives (marks (turned (35 ∷ []) minute8)) (refused 4 35)
    ∷ gives (marks (turned (58 ∷ []) minute8)) (refused 4 58)
    ∷ gives (marks (turned (35 ∷ 58 ∷ []) minute8)) (refused 4 35)
    ∷ gives (marks (turned (28 ∷ 35 ∷ 58 ∷ []) minute8)) (refused 4 28)
    -- 15: hour 24, alone and with minute 60
    ∷ gives (marks (turned (30 ∷ 31 ∷ 33 ∷ 34 ∷ []) minute8)) (refused 15 29)
    ∷ gives (marks (turned (23 ∷ 25 ∷ 27 ∷ 28 ∷ 30 ∷ 31 ∷ 33 ∷ 34 ∷ []) minute8)) (refused 15 21)
    -- 16: day 0; the 29th and the 31st of month 13; month 13 with weekday 0
    ∷ gives (marks (turned (36 ∷ 39 ∷ 41 ∷ 58 ∷ []) minute8)) (refused 16 36)
    ∷ gives (marks (turned (45 ∷ 49 ∷ []) minute8)) (refused 16 45)
    ∷ gives (marks (turned (39 ∷ 40 ∷ 45 ∷ 49 ∷ []) minute8)) (refused 16 45)
    ∷ gives (marks (turned (44 ∷ 45 ∷ 49 ∷ 58 ∷ []) minute8)) (refused 16 42)
    -- the bridge gives the string's place, and the listing prints it
    ∷ gives (bridged (clock 31 13 4 12 34 56) (sevens 100)) (wrote_none 16 6 (sevens 100))
    ∷ gives (bridged (long 29 13 4 24 34 56) (sevens 100)) (wrote_none 15 14 (sevens 100))
    ∷ gives (listed ((1 ∷ clock 31 13 4 12 34 56) ++ (2 ∷ long 29 13 4 24 34 56))) (text lines)
    -- "Writers keep place 0", and so does stamping: hour 24 with month 13, month 13, quality 16 with an offset that is none, then 8 and 9
    ∷ gives (to_meinberg (at 2024 13 29 24 34 56 (plus 4)) false (sevens 32)) (wrote_none 15 0 (sevens 32))
    ∷ gives (to_meinberg (at 2024 13 29 12 34 56 (plus 4)) false (sevens 32)) (wrote_none 16 0 (sevens 32))
    ∷ gives (to_meinberg (at 2024 2 29 12 34 60 (plus 57)) false (sevens 32)) (wrote_none 8 0 (sevens 32))
    ∷ gives (to_meinberg (at 2024 2 29 12 34 60 (plus 56)) false (sevens 32)) (wrote_none 9 0 (sevens 32))
    ∷ gives (to_erlangen (at 2024 2 30 12 60 56 (plus 4)) false position (sevens 68)) (wrote_none 15 0 (sevens 68))
    ∷ gives (to_erlangen (at 2024 2 30 12 34 56 (plus 4)) false position (sevens 68)) (wrote_none 16 0 (sevens 68))
    ∷ gives (to_erlangen (flagged 2024 2 29 12 34 56 (plus 57) false false false 16) false position (sevens 68)) (wrote_none 17 0 (sevens 68))
    ∷ gives (to_pulses (at 2100 1 1 12 34 61 (plus 4)) (sevens 100)) (wrote_none 15 0 (sevens 100))
    ∷ gives (to_pulses (at 2100 1 1 12 34 56 (plus 4)) (sevens 100)) (wrote_none 16 0 (sevens 100))
    ∷ gives (to_pulses (flagged 2024 2 29 12 34 56 (plus 57) false false false 16) (sevens 100)) (wrote_none 17 0 (sevens 100))
    ∷ gives (to_marks (at 2024 2 29 24 34 0 (plus 4)) 32768 (sevens 60)) (wrote_none 15 0 (sevens 60))
    ∷ gives (to_marks (at 2024 2 30 12 34 0 (plus 4)) 32768 (sevens 60)) (wrote_none 16 0 (sevens 60))
    ∷ gives (to_marks (at 2024 2 29 12 34 60 (plus 57)) 32768 (sevens 60)) (wrote_none 17 0 (sevens 60))
    ∷ gives (to_marks (at 2024 2 29 12 34 60 (plus 57)) 32767 (sevens 60)) (wrote_none 8 0 (sevens 60))
    ∷ gives (to_marks (at 2024 2 29 12 34 60 (plus 4)) 32767 (sevens 60)) (wrote_none 9 0 (sevens 60))
    ∷ gives (stamp (at 2024 13 29 24 34 56 (plus 4))) (refused 15 0)
    ∷ gives (stamp (flagged 2024 13 29 12 34 56 (plus 4) false false false 16)) (refused 16 0)
    ∷ gives (stamp (flagged 2024 2 29 12 34 56 (plus 57) false false false 16)) (refused 17 0)
    ∷ gives (stamp (at 2024 2 29 12 34 60 (plus 57))) (refused 8 0)
    ∷ gives (stamp (at 2000 1 1 0 30 60 (plus 4))) (refused 9 0)
    -- the codes that remain of each reader and writer: 1 and 2 of the strings, 1, 2, 8, 9 and 17 of the writers
    ∷ gives (clock_string (take 31 (clock 29 2 4 12 34 56))) (refused 1 0)
    ∷ gives (clock_string (take 67 (long 29 2 4 12 34 56))) (refused 1 0)
    ∷ gives (clock_string (9 ∷ drop 1 (long 29 2 4 12 34 56))) (refused 2 0)
    ∷ gives (to_meinberg (case6 (plus 4)) false (sevens 31)) (wrote_none 1 0 (sevens 31))
    ∷ gives (to_meinberg (flagged 2024 2 29 12 34 60 (plus 57) false false false 16) false (sevens 32)) (wrote_none 17 0 (sevens 32))
    ∷ gives (to_erlangen (case6 (plus 4)) false position (sevens 67)) (wrote_none 1 0 (sevens 67))
    ∷ gives (to_erlangen (case6 (plus 4)) false (take 25 position) (sevens 68)) (wrote_none 1 0 (sevens 68))
    ∷ gives (to_erlangen (at 2024 2 29 24 34 56 (plus 4)) false (take 25 position ++ (127 ∷ [])) (sevens 68)) (wrote_none 2 25 (sevens 68))
    ∷ gives (to_erlangen (at 2024 2 29 12 34 60 (plus 57)) false position (sevens 68)) (wrote_none 8 0 (sevens 68))
    ∷ gives (to_erlangen (at 2024 2 29 12 34 60 (plus 4)) false position (sevens 68)) (wrote_none 9 0 (sevens 68))
    ∷ gives (to_pulses (at 2024 2 29 12 34 60 (plus 4)) (sevens 100)) (wrote_none 9 0 (sevens 100))
    ∷ gives (to_marks case8 0 (sevens 59)) (wrote_none 1 0 (sevens 59))
    ∷ []
