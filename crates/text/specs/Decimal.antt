-- A number as text.
use Rattle.std.specs.Prelude.{cond, List, [], ◌∷◌, ℕ, zero, suc, ◌+◌, ◌/◌, ◌%◌, ltb, length}
use Rattle.wire.specs.Put.{fits}

-- the digits of n, at most k of them, in front of the rest: the last digit of n, and before it those of n / 10
unfoldable pub digits_before : ℕ → ℕ → List ℕ → List ℕ
digits_before zero n rest = rest
digits_before (suc k) n rest = cond (ltb n 10) ((48 + n) ∷ rest) (digits_before k (n / 10) ((48 + n % 10) ∷ rest))

-- the decimal digits of a number that a word of 64 bits holds: no more than 20
unfoldable pub decimal : ℕ → List ℕ
decimal n = digits_before 20 n []

-- how many bytes are stored where a text is stored from place `at` on: none where it does not fit
unfoldable pub stored_length : ℕ → List ℕ → List ℕ → ℕ
stored_length at t l = cond (fits at t l) (length t) 0
