-- L7, "A coasting clock should look worse": either string with and without its mark, the new way and the old one by name.
use Rattle.std.specs.Prelude.{false, List, [], ◌∷◌, ◌++◌, ℕ, take, replicate}
use Rattle.bridge.specs.declared.Coasting.TheVariants.{Dropped}
use Rattle.worked.specs.Questions.{Case, gives, pulses, bridged, bridged_with, told, wrote, wrote_none}
use Rattle.worked.specs.Given.{plus, leap_day, frame6, frame_with, turned, meinberg_at, meinberg6, erlangen6, hour_ahead, no_flags, sevens}

-- case 6's time by a Meinberg string: locked, coasting, failed, and both at once
abbrev locked : List ℕ
locked = meinberg6 32 32 32 32

abbrev coasting : List ℕ
coasting = meinberg6 32 42 32 32

abbrev failed : List ℕ
failed = meinberg6 35 32 32 32

abbrev both : List ℕ
both = meinberg6 35 42 32 32

-- the same by a Uni Erlangen string
abbrev long_locked : List ℕ
long_locked = erlangen6 hour_ahead no_flags

abbrev long_coasting : List ℕ
long_coasting = erlangen6 hour_ahead (32 ∷ 42 ∷ 32 ∷ 32 ∷ 32 ∷ 32 ∷ 32 ∷ [])

abbrev long_failed : List ℕ
long_failed = erlangen6 hour_ahead (35 ∷ 32 ∷ 32 ∷ 32 ∷ 32 ∷ 32 ∷ 32 ∷ [])

abbrev long_both : List ℕ
long_both = erlangen6 hour_ahead (35 ∷ 42 ∷ 32 ∷ 32 ∷ 32 ∷ 32 ∷ 32 ∷ [])

-- and locked, with a `*` at each of the position bytes, where it is no mark
abbrev starred_position : List ℕ
starred_position = take 41 long_locked ++ replicate 26 42 ++ (3 ∷ [])

-- "71-74 quality 1 2 4 8": all set are 15, four ones more, so that the parity stays
abbrev fifteen : List ℕ
fifteen = 71 ∷ 72 ∷ 73 ∷ 74 ∷ []

-- case 6's frame with them
abbrev frame15 : List ℕ
frame15 = turned fifteen frame6

-- 30 April 2024 is a Tuesday: 23:59:59 UTC with a leap second announced, coasting
abbrev april_coasting : List ℕ
april_coasting = meinberg_at 30 4 24 2 23 59 59 (32 ∷ 42 ∷ 85 ∷ 65 ∷ [])

-- its ones, leap pending among them, but for the quality
abbrev april_ones : List ℕ
april_ones =
    1 ∷ 4 ∷ 6 ∷ 8 ∷ 10 ∷ 13 ∷ 15 ∷ 17 ∷ 20 ∷ 21 ∷ 26 ∷ 30 ∷ 36 ∷ 40 ∷ 52 ∷ 56 ∷ 60 ∷ 75
    ∷ 80 ∷ 81 ∷ 82 ∷ 83 ∷ 84 ∷ 85 ∷ 86 ∷ 88 ∷ 93 ∷ 95 ∷ 97 ∷ []

-- Tuesday for the Thursday, coasting
abbrev wrong_weekday : List ℕ
wrong_weekday = meinberg_at 29 2 24 2 12 34 56 (32 ∷ 42 ∷ 32 ∷ 32 ∷ [])

-- one string over the bridge, with nothing named, which is the new way, and with the mark dropped by name: the two frames
abbrev either_way : List ℕ → List ℕ → List ℕ → List Case
either_way s worse dropped =
    gives (bridged s (sevens 101)) (wrote 100 (worse ++ sevens 1))
    ∷ gives (bridged_with Dropped s (sevens 101)) (wrote 100 (dropped ++ sevens 1))
    ∷ []

-- the same for a string or a room that is refused
abbrev refused_either_way : List ℕ → ℕ → ℕ → ℕ → List Case
refused_either_way s room code place =
    gives (bridged s (sevens room)) (wrote_none code place (sevens room))
    ∷ gives (bridged_with Dropped s (sevens room)) (wrote_none code place (sevens room))
    ∷ []

unfoldable pub coasting_marks : List Case
coasting_marks =
    -- "a bridged string with `*` gets quality 15 unless the caller asks by name for the old way"
    either_way coasting frame15 frame6
    ++ either_way long_coasting frame15 frame6
    -- whatever its own quality; and what failed has 15 of its own, mark or no mark
    ++ either_way both frame15 frame15
    ++ either_way long_both frame15 frame15
    ++ either_way failed frame15 frame15
    ++ either_way long_failed frame15 frame15
    -- without the mark nothing changes
    ++ either_way locked frame6 frame6
    ++ either_way long_locked frame6 frame6
    ++ either_way starred_position frame6 frame6
    -- what is pending goes over beside it
    ++ either_way april_coasting (frame_with (april_ones ++ fifteen)) (frame_with april_ones)
    -- "Refusals: none": the string's own, and the room's before it, are the same whichever way
    ++ refused_either_way wrong_weekday 100 6 14
    ++ refused_either_way wrong_weekday 99 1 0
    ++ refused_either_way (take 31 coasting) 100 1 0
    -- the frame is read as a failed clock's
    ++ (gives (pulses frame15) (told (leap_day 56 (plus 4) false false false 15)) ∷ [])
