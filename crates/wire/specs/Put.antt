-- Storing bytes into a lent buffer, wholly or not at all.
use Rattle.std.specs.Prelude.{Bool, cond, List, ◌++◌, ℕ, ◌+◌, leb, length, take, drop}

-- t has room in l from place `at` on
unfoldable pub fits : ℕ → List ℕ → List ℕ → Bool
fits at t l = leb (at + length t) (length l)

-- l with t stored from place `at` on, where it fits; else l itself
unfoldable pub stored : ℕ → List ℕ → List ℕ → List ℕ
stored at t l = cond (fits at t l) (take at l ++ t ++ drop (at + length t) l) l
