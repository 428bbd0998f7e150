-- The offset as an IEEE 1344 frame has it: a sign and half hours, which are added to local time to give UTC; and which offsets of a
-- reading it cannot have.
use Rattle.std.specs.Prelude.{Bool, true, false, cond, not, ℕ, ◌+◌, ◌*◌, ◌/◌, ◌%◌, eqb, ℤ, pos, negsuc, nat_abs}
use Rattle.reading.specs.Offset.{unit, west, east, opposite}

-- how many units of an offset half an hour has: two quarters
abbrev pub per_half : ℕ
per_half = 30 / unit

-- the amount that a sign and half hours say: "sign (1 minus)"
abbrev pub amount_of : Bool → ℕ → ℤ
amount_of minus halves = cond minus (opposite (pos (per_half * halves))) (pos (per_half * halves))

-- the sign of an amount
abbrev pub is_minus : ℤ → Bool
is_minus (pos n) = false
is_minus (negsuc n) = true

-- the half hours of an amount
abbrev pub halves_of : ℤ → ℕ
halves_of a = nat_abs a / per_half

-- L9: "an odd quarter", to either side of UTC: no half hours make it
unfoldable pub odd_quarter : ℤ → Bool
odd_quarter offset = not (eqb ((west offset + east offset) % per_half) 0)
