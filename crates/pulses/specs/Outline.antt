-- The outline of a row of pulses: "marks exactly where due and 0 or 1 elsewhere".
use Rattle.std.specs.Prelude.{Bool, true, false, cond, ◌&&◌, List, [], ◌∷◌, ℕ, eqb, ltb}
use Rattle.pulses.specs.Row.{marks, group_of}

-- a 2 where the table has a mark, 0 or 1 where it has none
unfoldable pub in_outline : ℕ → ℕ → Bool
in_outline e b = cond (eqb (group_of e) marks) (eqb b 2) (ltb b 2)

-- as many pulses as the table has, each in the outline
unfoldable pub outline_of : List ℕ → List ℕ → Bool
outline_of [] [] = true
outline_of [] (b ∷ s) = false
outline_of (e ∷ t) [] = false
outline_of (e ∷ t) (b ∷ s) = in_outline e b && outline_of t s
