-- L1, "One door for both strings": which string a length names, every neighbouring length, position parts, and the bridge without a kind.
use Rattle.std.specs.Prelude.{true, false, List, [], ◌∷◌, ◌++◌, ℕ, take, drop}
use Rattle.worked.specs.Questions.{Case, gives, clock_string, position_part, to_meinberg, to_erlangen, bridged, told_meinberg, told_erlangen, refused, wrote, wrote_none, text}
use Rattle.worked.specs.Given.{plus, case6, frame6, meinberg6, erlangen6, hour_ahead, no_flags, sevens}

-- STX `D:29.02.24;T:4;U:12.34.56;    ` ETX, 32 bytes
abbrev short : List ℕ
short = meinberg6 32 32 32 32

-- `A` to `Z`, 26 bytes of position
abbrev alphabet : List ℕ
alphabet =
    65 ∷ 66 ∷ 67 ∷ 68 ∷ 69 ∷ 70 ∷ 71 ∷ 72 ∷ 73 ∷ 74 ∷ 75 ∷ 76 ∷ 77 ∷ 78 ∷ 79 ∷ 80 ∷ 81 ∷ 82 ∷ 83 ∷ 84 ∷ 85 ∷ 86 ∷ 87 ∷ 88 ∷ 89 ∷ 90 ∷ []

-- STX `29.02.24; 4; 12:34:56; +01:00; acdfg i; ABCDEFGHIJKLMNOPQRSTUVWXYZ` ETX, 68 bytes, for the seven of `acdfg i`
abbrev long : List ℕ → List ℕ
long flags = take 41 (erlangen6 hour_ahead flags) ++ alphabet ++ (3 ∷ [])

-- `*` alone
abbrev coasting : List ℕ
coasting = 32 ∷ 42 ∷ 32 ∷ 32 ∷ 32 ∷ 32 ∷ 32 ∷ []

-- a byte more than a string has
abbrev one_more : List ℕ → List ℕ
one_more s = s ++ (3 ∷ [])

unfoldable pub clock_strings : List Case
clock_strings =
    -- "32 is Meinberg, 68 is Uni Erlangen, and the answer names which": the same time, locked and coasting
    gives (clock_string short) (told_meinberg (case6 (plus 4)) false)
    ∷ gives (clock_string (meinberg6 32 42 32 32)) (told_meinberg (case6 (plus 4)) true)
    ∷ gives (clock_string (long no_flags)) (told_erlangen (case6 (plus 4)) false)
    ∷ gives (clock_string (long coasting)) (told_erlangen (case6 (plus 4)) true)
    -- "any other length is code 1": 0, 1, 31, 33, 64, 67 and 69 bytes
    ∷ gives (clock_string []) (refused 1 0)
    ∷ gives (clock_string (2 ∷ [])) (refused 1 0)
    ∷ gives (clock_string (take 31 short)) (refused 1 0)
    ∷ gives (clock_string (one_more short)) (refused 1 0)
    ∷ gives (clock_string (short ++ short)) (refused 1 0)
    ∷ gives (clock_string (take 67 (long no_flags))) (refused 1 0)
    ∷ gives (clock_string (one_more (long no_flags))) (refused 1 0)
    -- the length names the string, not its letters: 32 bytes of a Uni Erlangen string, and 68 that begin as Meinberg's do
    ∷ gives (clock_string (take 32 (long no_flags))) (refused 2 1)
    ∷ gives (clock_string (short ++ drop 32 (long no_flags))) (refused 2 1)
    -- position parts: "A 32-byte string's position part is empty", as a refused string's is; else bytes 41..66
    ∷ gives (position_part short) (text [])
    ∷ gives (position_part (long no_flags)) (text alphabet)
    ∷ gives (position_part (long coasting)) (text alphabet)
    ∷ gives (position_part (short ++ drop 32 (long no_flags))) (text [])
    ∷ gives (position_part (one_more (long no_flags))) (text [])
    ∷ gives (position_part []) (text [])
    -- the writer that the answer names gives the same bytes
    ∷ gives (to_meinberg (case6 (plus 4)) false (sevens 32)) (wrote 32 short)
    ∷ gives (to_erlangen (case6 (plus 4)) true alphabet (sevens 68)) (wrote 68 (long coasting))
    -- the bridge takes either; another length is 1, and so is the room, before the string is looked at
    ∷ gives (bridged short (sevens 101)) (wrote 100 (frame6 ++ sevens 1))
    ∷ gives (bridged (long no_flags) (sevens 100)) (wrote 100 frame6)
    ∷ gives (bridged (take 31 short) (sevens 100)) (wrote_none 1 0 (sevens 100))
    ∷ gives (bridged (take 32 (long no_flags)) (sevens 100)) (wrote_none 2 1 (sevens 100))
    ∷ gives (bridged (take 32 (long no_flags)) (sevens 99)) (wrote_none 1 0 (sevens 99))
    ∷ []
