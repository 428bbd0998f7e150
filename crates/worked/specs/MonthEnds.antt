-- Leap seconds at the ends of months, which request L3 adds to 01: "a leap second may close any UTC month .. Second 60, the bridge's
-- pending bit and the 61-mark minute are to be allowed at every month end". In literal numbers and bytes, seen from outside.
use Rattle.std.specs.Prelude.{Bool, true, false, List, [], ◌∷◌, ◌++◌, ℕ}
use Rattle.reading.specs.declared.Reading.{Reading}
use Rattle.worked.specs.Questions.{Case, gives, stamp, stamp_of_string, clock_string, marks, to_marks, bridged, listed, stamped, told_meinberg, told_minute, refused, wrote, wrote_none, text}
use Rattle.worked.specs.Given.{flagged, at, plus, minus, frame_with, minute_with, meinberg_at, sevens, heading}

-- ---- second 60

-- 23:59:60 UTC of a day
abbrev sixty_on : ℕ → ℕ → ℕ → Reading
sixty_on y m d = at y m d 23 59 60 (plus 0)

-- the letters `  U `, `  UA`, `    `, `   A`, `  S ` and `  SA`: the zone, and a leap second announced or not
abbrev utc : List ℕ
utc = 32 ∷ 32 ∷ 85 ∷ 32 ∷ []

abbrev utc_leap : List ℕ
utc_leap = 32 ∷ 32 ∷ 85 ∷ 65 ∷ []

abbrev winter : List ℕ
winter = 32 ∷ 32 ∷ 32 ∷ 32 ∷ []

abbrev winter_leap : List ℕ
winter_leap = 32 ∷ 32 ∷ 32 ∷ 65 ∷ []

abbrev summer : List ℕ
summer = 32 ∷ 32 ∷ 83 ∷ 32 ∷ []

abbrev summer_leap : List ℕ
summer_leap = 32 ∷ 32 ∷ 83 ∷ 65 ∷ []

-- `D:29.02.24;T:4;U:23.59.60;  U ` and `D:28.02.24;T:3;U:23.59.60;  U `
abbrev last_of_february : List ℕ
last_of_february = meinberg_at 29 2 24 4 23 59 60 utc

abbrev day_too_early : List ℕ
day_too_early = meinberg_at 28 2 24 3 23 59 60 utc

-- ---- the bridge

-- `D:30.04.24;T:2;U:23.59.ss;  UA`
abbrev last_of_april : ℕ → List ℕ
last_of_april s = meinberg_at 30 4 24 2 23 59 s utc_leap

-- its frame: ones that say the second, then 23:59, day 121 and year 24, then the other ones
abbrev april_frame : List ℕ → List ℕ → List ℕ
april_frame before behind = frame_with (before ++ (10 ∷ 13 ∷ 15 ∷ 17 ∷ 20 ∷ 21 ∷ 26 ∷ 30 ∷ 36 ∷ 40 ∷ 52 ∷ 56 ∷ []) ++ behind)

-- ---- the minute

-- 1 March 2024, 01:00 at +4, which is 00:00 UTC, with a leap second announced or not
abbrev march : Bool → Reading
march leap = flagged 2024 3 1 1 0 0 (plus 4) false leap false 0

-- its minute with the last mark at the place given, announced and not
abbrev march_marks : ℕ → List ℕ
march_marks last = minute_with last (18 ∷ 19 ∷ 20 ∷ 29 ∷ 35 ∷ 36 ∷ 42 ∷ 44 ∷ 45 ∷ 46 ∷ 52 ∷ 55 ∷ 58 ∷ [])

abbrev plain_marks : ℕ → List ℕ
plain_marks last = minute_with last (18 ∷ 20 ∷ 29 ∷ 35 ∷ 36 ∷ 42 ∷ 44 ∷ 45 ∷ 46 ∷ 52 ∷ 55 ∷ 58 ∷ [])

-- ---- the listing

-- the two strings of February, and the minute in 61 marks and in 60
abbrev march_book : List ℕ
march_book = (1 ∷ last_of_february) ++ (1 ∷ day_too_early) ++ (5 ∷ march_marks 60) ++ (4 ∷ march_marks 59)

-- `at kind answer value place`, `0 1 ok 762575225 0`, `33 1 no 9 24`, `66 5 ok 762575226 0` and `128 4 no 9 59`, a line feed behind each
abbrev march_lines : List ℕ
march_lines =
    heading
    ++ (
    48 ∷ 32 ∷ 49 ∷ 32 ∷ 111 ∷ 107 ∷ 32 ∷ 55 ∷ 54 ∷ 50 ∷ 53 ∷ 55 ∷ 53 ∷ 50 ∷ 50 ∷ 53 ∷ 32 ∷ 48 ∷ 10
    ∷ 51 ∷ 51 ∷ 32 ∷ 49 ∷ 32 ∷ 110 ∷ 111 ∷ 32 ∷ 57 ∷ 32 ∷ 50 ∷ 52 ∷ 10
    ∷ 54 ∷ 54 ∷ 32 ∷ 53 ∷ 32 ∷ 111 ∷ 107 ∷ 32 ∷ 55 ∷ 54 ∷ 50 ∷ 53 ∷ 55 ∷ 53 ∷ 50 ∷ 50 ∷ 54 ∷ 32 ∷ 48 ∷ 10
    ∷ 49 ∷ 50 ∷ 56 ∷ 32 ∷ 52 ∷ 32 ∷ 110 ∷ 111 ∷ 32 ∷ 57 ∷ 32 ∷ 53 ∷ 57 ∷ 10
    ∷ []
    )

-- ---- the list

unfoldable pub month_ends : List Case
month_ends =
    -- the last day of each month of a common and of a leap year: accepted, with the calendar's stamp
    gives (stamp (sixty_on 2023 1 31)) (stamped 728533231)
    ∷ gives (stamp (sixty_on 2023 2 28)) (stamped 730952459)
    ∷ gives (stamp (sixty_on 2023 3 31)) (stamped 733630890)
    ∷ gives (stamp (sixty_on 2023 4 30)) (stamped 736222920)
    ∷ gives (stamp (sixty_on 2023 5 31)) (stamped 738901351)
    ∷ gives (stamp (sixty_on 2023 6 30)) (stamped 741493381)
    ∷ gives (stamp (sixty_on 2023 7 31)) (stamped 744171812)
    ∷ gives (stamp (sixty_on 2023 8 31)) (stamped 746850243)
    ∷ gives (stamp (sixty_on 2023 9 30)) (stamped 749442273)
    ∷ gives (stamp (sixty_on 2023 10 31)) (stamped 752120704)
    ∷ gives (stamp (sixty_on 2023 11 30)) (stamped 754712734)
    ∷ gives (stamp (sixty_on 2023 12 31)) (stamped 757391165)
    ∷ gives (stamp (sixty_on 2024 1 31)) (stamped 760069596)
    ∷ gives (stamp (sixty_on 2024 2 29)) (stamped 762575225)
    ∷ gives (stamp (sixty_on 2024 3 31)) (stamped 765253656)
    ∷ gives (stamp (sixty_on 2024 4 30)) (stamped 767845686)
    ∷ gives (stamp (sixty_on 2024 5 31)) (stamped 770524117)
    ∷ gives (stamp (sixty_on 2024 6 30)) (stamped 773116147)
    ∷ gives (stamp (sixty_on 2024 7 31)) (stamped 775794578)
    ∷ gives (stamp (sixty_on 2024 8 31)) (stamped 778473009)
    ∷ gives (stamp (sixty_on 2024 9 30)) (stamped 781065039)
    ∷ gives (stamp (sixty_on 2024 10 31)) (stamped 783743470)
    ∷ gives (stamp (sixty_on 2024 11 30)) (stamped 786335500)
    ∷ gives (stamp (sixty_on 2024 12 31)) (stamped 789013931)
    -- a day too early, also where the month has 31 days
    ∷ gives (stamp (sixty_on 2023 2 27)) (refused 9 0)
    ∷ gives (stamp (sixty_on 2024 2 28)) (refused 9 0)
    ∷ gives (stamp (sixty_on 2024 3 30)) (refused 9 0)
    ∷ gives (stamp (sixty_on 2024 12 30)) (refused 9 0)
    -- an hour too early, and the first of the month
    ∷ gives (stamp (at 2024 4 30 22 59 60 (plus 0))) (refused 9 0)
    ∷ gives (stamp (sixty_on 2024 5 1)) (refused 9 0)
    -- strings: 29.02.24 `U` is accepted, 28.02.24 is code 9, 28.02.23 is accepted, and so are 31.03. and 30.04.
    ∷ gives (clock_string last_of_february) (told_meinberg (sixty_on 2024 2 29) false)
    ∷ gives (clock_string day_too_early) (refused 9 24)
    ∷ gives (clock_string (meinberg_at 28 2 23 2 23 59 60 utc)) (told_meinberg (sixty_on 2023 2 28) false)
    ∷ gives (clock_string (meinberg_at 31 3 24 7 23 59 60 utc)) (told_meinberg (sixty_on 2024 3 31) false)
    ∷ gives (clock_string (meinberg_at 30 4 24 2 23 59 60 utc)) (told_meinberg (sixty_on 2024 4 30) false)
    -- the same second told at +4, at +8, both on the local next day, and at -28
    ∷ gives (stamp_of_string last_of_february) (stamped 762575225)
    ∷ gives (stamp_of_string (meinberg_at 1 3 24 5 0 59 60 winter_leap)) (stamped 762575225)
    ∷ gives (stamp_of_string (meinberg_at 1 3 24 5 1 59 60 summer_leap)) (stamped 762575225)
    ∷ gives (stamp (at 2024 2 29 16 59 60 (minus 28))) (stamped 762575225)
    -- a local month end that is none of UTC: 29.02.24 at +4, 31.03.24 at +8
    ∷ gives (clock_string (meinberg_at 29 2 24 4 23 59 60 winter)) (refused 9 24)
    ∷ gives (clock_string (meinberg_at 31 3 24 7 23 59 60 summer)) (refused 9 24)
    -- the pending bit, pulse 60: clear at 23:59:00, set at 23:59:01 and 23:59:59, clear at 23:59:60
    ∷ gives (bridged (last_of_april 0) (sevens 100)) (wrote 100 (april_frame [] (82 ∷ 86 ∷ 88 ∷ 93 ∷ 95 ∷ 97 ∷ [])))
    ∷ gives (bridged (last_of_april 1) (sevens 100)) (wrote 100 (april_frame (1 ∷ []) (60 ∷ 80 ∷ 82 ∷ 86 ∷ 88 ∷ 93 ∷ 95 ∷ 97 ∷ [])))
    ∷ gives (bridged (last_of_april 59) (sevens 100)) (wrote 100 (april_frame (1 ∷ 4 ∷ 6 ∷ 8 ∷ []) (60 ∷ 75 ∷ 80 ∷ 81 ∷ 82 ∷ 83 ∷ 84 ∷ 85 ∷ 86 ∷ 88 ∷ 93 ∷ 95 ∷ 97 ∷ [])))
    ∷ gives (bridged (last_of_april 60) (sevens 100)) (wrote 100 (april_frame (7 ∷ 8 ∷ []) (87 ∷ 88 ∷ 93 ∷ 95 ∷ 97 ∷ [])))
    ∷ gives (bridged day_too_early (sevens 100)) (wrote_none 9 24 (sevens 100))
    -- "a 60-mark minute that announces a leap and names 00:00 UTC of such a first becomes 9"; the 61-mark one is accepted, and its
    -- stamp is the calendar's
    ∷ gives (marks (march_marks 59)) (refused 9 59)
    ∷ gives (marks (march_marks 60)) (told_minute (march true) 0)
    ∷ gives (to_marks (march true) 0 (sevens 62)) (wrote 61 (march_marks 60 ++ sevens 1))
    ∷ gives (stamp (march true)) (stamped 762575226)
    -- unannounced it has 60 marks
    ∷ gives (marks (plain_marks 59)) (told_minute (march false) 0)
    ∷ gives (marks (plain_marks 60)) (refused 9 60)
    -- the same through the listing
    ∷ gives (listed march_book) (text march_lines)
    ∷ []
