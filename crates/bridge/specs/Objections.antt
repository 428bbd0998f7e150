-- What can be wrong with a string that is to go over the bridge, with code and place: the room first, then what its reader objects,
-- and last an offset that no frame carries.
use Rattle.strings.specs.Checks.{Answer}
use Rattle.std.specs.Prelude.{Bool, false, List, [], ◌∷◌, ◌++◌, ℕ, ltb, Err, Ok}
use Rattle.reading.specs.Refusals.{Objection, objection}
use Rattle.clock_string.specs.Reader.{read_string, whichever}
use Rattle.clock_string.specs.Objections.{read_objections, read_codes}
use Rattle.irig.specs.Offset.{odd_quarter}

-- a time is said, at an odd quarter
unfoldable pub odd_said : Answer → Bool
odd_said (Ok (r, coasting)) = odd_quarter r.offset.0
odd_said (Err x) = false

-- with room for so many pulses: "The bridge checks output length first"; L9: "an odd quarter at .. the bridge is 11"
unfoldable pub bridge_objections : ℕ → List ℕ → ℕ → List Objection
bridge_objections base s room =
    objection (ltb room 100) 1 0 ∷ read_objections base s ++ (objection (odd_said (whichever (read_string base s))) 11 0 ∷ [])

-- the codes that the bridge can answer with
abbrev pub bridge_codes : List ℕ
bridge_codes = read_codes ++ (11 ∷ [])
