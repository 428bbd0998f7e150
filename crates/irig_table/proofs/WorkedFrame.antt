-- The frame of case 6 of the paper: the places of its ones.
use mathlib.Core.List.{List, [], ◌∷◌}
use Prim.Native.Nat.{ℕ}

unfoldable pub ones : List ℕ
ones =
    2 ∷ 3 ∷ 6 ∷ 8 ∷ 12 ∷ 15 ∷ 16 ∷ 21 ∷ 25 ∷ 36 ∷ 37 ∷ 52 ∷ 56 ∷ 64 ∷ 65 ∷ 75 ∷ 84 ∷ 85 ∷ 86 ∷ 87 ∷ 93 ∷ 94 ∷ 96 ∷ []
