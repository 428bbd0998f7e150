-- Decimal digits: what a byte and a pair of bytes stand for, and the two bytes of a number.
use Rattle.std.specs.Prelude.{List, ℕ, ◌+◌, ◌*◌, ◌/◌, ◌%◌, get_or}

-- the bytes of 0 to 9 are 48 to 57, so their low four bits are their values
unfoldable pub digit : ℕ → ℕ
digit b = b % 16

-- the number that the two digits at i and i + 1 stand for
unfoldable pub pair : List ℕ → ℕ → ℕ
pair s i = 10 * digit (get_or s i 0) + digit (get_or s (i + 1) 0)

-- the byte of the tens of v
unfoldable pub tens : ℕ → ℕ
tens v = 48 + v / 10 % 10

-- the byte of the ones of v
unfoldable pub ones : ℕ → ℕ
ones v = 48 + v % 10
