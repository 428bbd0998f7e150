-- The base that the program is started with.
use Rattle.std.specs.Prelude.{Bool, cond, ◌&&◌, List, ℕ, eqb, ltb, length, get_or, Option, None, Some}
use Rattle.reading.specs.Years.{usual_base}

-- four bytes, and no more
unfoldable pub four_bytes : List ℕ → ℕ → ℕ → ℕ → ℕ → Bool
four_bytes t a b c d = eqb (length t) 4 && (eqb (get_or t 0 0) a && (eqb (get_or t 1 0) b && (eqb (get_or t 2 0) c && eqb (get_or t 3 0) d)))

-- `1990`, `2000`, or none
unfoldable pub base_said : List ℕ → Option ℕ
base_said t = cond (four_bytes t 49 57 57 48) (Some 1990) (cond (four_bytes t 50 48 48 48) (Some 2000) None)

-- `1990`, `2000`, or none, for which 0 stands: "any other base or argument is 19"
unfoldable pub base_named : List ℕ → ℕ
base_named t = cond (four_bytes t 49 57 57 48) 1990 (cond (four_bytes t 50 48 48 48) 2000 0)

-- so many words of the command, the program's own name among them, and the first argument: "a program as its first argument, 2000 without one"
unfoldable pub base_for : ℕ → List ℕ → ℕ
base_for words t = cond (ltb words 2) usual_base (base_named t)
