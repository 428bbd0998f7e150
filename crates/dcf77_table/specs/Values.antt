-- The values that the groups of a DCF77 minute can say.
use Rattle.std.specs.Prelude.{List, [], ◌∷◌, ℕ, ◌^◌, ◌<◌, ◌≡◌, length, get_or}
use Rattle.pulses.specs.Row.{groups}

-- how many marks of each group carry data: none of the fixed ones, 15 of the head, and so on
unfoldable pub widths : List ℕ
widths =
    0 ∷ 0 ∷ 0 ∷ 15 ∷ 1 ∷ 2 ∷ 1 ∷ 4 ∷ 3 ∷ 1 ∷ 4 ∷ 2 ∷ 1 ∷ 4 ∷ 2 ∷ 3 ∷ 4 ∷ 1 ∷ 4 ∷ 4 ∷ 1
    ∷ 0 ∷ 0 ∷ 0 ∷ 0 ∷ 0 ∷ 0 ∷ 0 ∷ 0 ∷ 0 ∷ 0 ∷ 0 ∷ []

-- a value for each group, which its marks can say
pub record Proper (v : List ℕ) : Type 0 where
  pub long : length v ≡ groups
  pub small : (g : ℕ) → g < groups → get_or v g 0 < 2 ^ get_or widths g 0
