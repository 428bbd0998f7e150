-- The two senses of offset, and which offsets a reading may have.
use Rattle.std.specs.Prelude.{Bool, cond, ◌&&◌, ℕ, suc, leb, ltb, ℤ, pos, negsuc, neg_ℤ}

-- L9: "The reading's offset becomes quarter hours, -48..+56": its unit in minutes, and how far it goes west and east of UTC
abbrev pub unit : ℕ
unit = 15

abbrev pub westmost : ℕ
westmost = 48

abbrev pub eastmost : ℕ
eastmost = 56

-- the units by which local time is behind UTC
unfoldable pub west : ℤ → ℕ
west (pos n) = 0
west (negsuc n) = suc n

-- the units by which local time is ahead of UTC
unfoldable pub east : ℤ → ℕ
east (pos n) = n
east (negsuc n) = 0

-- "offset in half hours, local minus UTC, -24..+28"; amended by L9: "quarter hours, -48..+56"
unfoldable pub offset_good : ℤ → Bool
offset_good z = leb (west z) westmost && leb (east z) eastmost

-- "One is the negative of the other."
abbrev pub opposite : ℤ → ℤ
opposite z = neg_ℤ z

-- the same of an amount that is added to local time: its opposite, at most what an offset holds
unfoldable pub local_of : ℤ → ℤ
local_of (pos n) = opposite (pos (cond (ltb n 128) n 128))
local_of (negsuc n) = opposite (negsuc (cond (ltb n 126) n 126))
