-- What can be wrong with a clock string, with code and place: its length, else what is objected to the string of that length.
use Rattle.std.specs.Prelude.{true, cond, List, [], ◌∷◌, ℕ, eqb, length}
use Rattle.reading.specs.Refusals.{Objection, objection}
use Rattle.meinberg.specs.Objections.{read_objections as meinbergObjections}
use Rattle.erlangen.specs.Objections.{read_objections as erlangenObjections}

-- "any other length is code 1, as before"
unfoldable pub read_objections : ℕ → List ℕ → List Objection
read_objections base s =
    cond (eqb (length s) 32) (meinbergObjections base s)
    (cond (eqb (length s) 68) (erlangenObjections base s) (objection true 1 0 ∷ []))

-- the codes that the reader can answer with; 8 only to a Uni Erlangen string
abbrev pub read_codes : List ℕ
read_codes = 1 ∷ 19 ∷ 2 ∷ 15 ∷ 16 ∷ 6 ∷ 8 ∷ 9 ∷ []
