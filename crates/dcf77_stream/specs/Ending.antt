-- How a stream of symbols ends, and what the letter owes it: "when the pulse is a gap, of the marks since the gap before it, closing
-- gap included. It says nothing where these do not have the frame's outline, or too few have come."
use Rattle.std.specs.Prelude.{Bool, true, cond, not, ◌&&◌, ◌||◌, List, [], ◌∷◌, ◌++◌, ◌≡◌, ℕ, eqb, ltb, length, None, Some}
use Rattle.dcf77.specs.Reader.{read_dcf77}
use Rattle.dcf77_stream.specs.Said.{Said}

-- no gap is among the symbols
unfoldable pub gapless : List ℕ → Bool
gapless [] = true
gapless (x ∷ xs) = not (eqb x 2) && gapless xs

-- they are marks of 0 or 1
unfoldable pub all_marks : List ℕ → Bool
all_marks [] = true
all_marks (x ∷ xs) = ltb x 2 && all_marks xs

-- "59 or 60 marks of 0 or 1"
unfoldable pub a_minute : List ℕ → Bool
a_minute m = all_marks m && (eqb (length m) 59 || eqb (length m) 60)

-- the four ways in which a stream can end
pub data Ending : List ℕ → Type 0 where
  -- no symbol came
  unbegun : Ending []
  -- the last symbol is no gap
  no_gap : (before : List ℕ) (x : ℕ) → (x ≡ 2 → ⊥) → Ending (before ++ (x ∷ []))
  -- it is the first gap that came
  first_gap : (m : List ℕ) → gapless m ≡ true → Ending (m ++ (2 ∷ []))
  -- it is a gap, and m came since the gap before it
  since_gap : (before m : List ℕ) → gapless m ≡ true → Ending (before ++ (2 ∷ (m ++ (2 ∷ []))))

-- what the letter owes each of them
unfoldable pub owed_at : ℕ → {h : List ℕ} → Ending h → Said
owed_at base unbegun = None
owed_at base (no_gap before x d) = None
owed_at base (first_gap m g) = None
owed_at base (since_gap before m g) = cond (a_minute m) (Some (read_dcf77 base (m ++ (2 ∷ [])))) None
