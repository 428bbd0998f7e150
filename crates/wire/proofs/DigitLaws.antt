-- Decimal digits: the two bytes of a number below 100 read back as it, and two digit bytes are those of the number that they stand for.
use mathlib.Core.Path.{◌≡◌}
use mathlib.Core.List.{List}
use Prim.Native.Nat.{ℕ, ◌+◌, ◌*◌, ◌/◌, ◌%◌, ◌≤◌, ◌<◌}
use native.Mathlib.Omega.{arith}
use lib.ListN.{length, get_or, get_or-eq_default}
use Rattle.wire.specs.Digits.{digit, pair, tens, ones}

pub tens_is_digit : (v : ℕ) → (48 ≤ tens v) × (tens v ≤ 57)
unfolding tens
tens_is_digit v = (omega arith, omega arith)

pub ones_is_digit : (v : ℕ) → (48 ≤ ones v) × (ones v ≤ 57)
unfolding ones
ones_is_digit v = (omega arith, omega arith)

pub digit_of_lem : (b : ℕ) → 48 ≤ b → b ≤ 57 → b ≡ 48 + digit b
unfolding digit
digit_of_lem b h k = omega arith

pub digit_back : (d : ℕ) → d < 10 → digit (48 + d) ≡ d
unfolding digit
digit_back d h = omega arith

-- the two bytes of a number below 100 read back as it
pub digits_of : (v : ℕ) → v < 100 → 10 * digit (tens v) + digit (ones v) ≡ v
unfolding tens ones
digits_of v h = omega (arith, digit_back (v / 10 % 10) (omega arith), digit_back (v % 10) (omega arith))

pub pair_of : (text : List ℕ) (at v : ℕ) → v < 100 → get_or text at 0 ≡ tens v → get_or text (at + 1) 0 ≡ ones v → pair text at ≡ v
unfolding pair
pair_of text at v h p q = rw (p, q) (digits_of v h)

-- past the end of a text its digits are 0
pub digit_past : (text : List ℕ) (at : ℕ) → length text ≤ at → 0 ≡ digit (get_or text at 0)
unfolding digit
digit_past text at h = rw (get_or-eq_default text 0 h)

pub pair_past : (text : List ℕ) (at : ℕ) → length text ≤ at → 0 ≡ pair text at
unfolding pair
pair_past text at h = rw (← digit_past text at h, ← digit_past text (at + 1) (omega arith))

-- two digit bytes are the bytes of the number that they stand for
module _ (a b : ℕ) (a-low : 48 ≤ a) (a-high : a ≤ 57) (b-low : 48 ≤ b) (b-high : b ≤ 57) where
  pub pair_small : 10 * digit a + digit b < 100
  pair_small = omega (arith, digit_of_lem a a-low a-high, digit_of_lem b b-low b-high)

  pub tens_back : tens (10 * digit a + digit b) ≡ a
  unfolding tens
  tens_back = omega (arith, digit_of_lem a a-low a-high, digit_of_lem b b-low b-high)

  pub ones_back : ones (10 * digit a + digit b) ≡ b
  unfolding ones
  ones_back = omega (arith, digit_of_lem a a-low a-high, digit_of_lem b b-low b-high)
