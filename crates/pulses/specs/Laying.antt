-- A row of pulses laid by the tags of its table, a byte each: how the work is done, not what it is. A tag is a part and, 32 times over,
-- which binary digit of what the part says the pulse is. A part is a group; of a group that has more than eight pulses, those of weight
-- 256 on are a part of their own, and those of 65536 on another. The tags 0, 1 and 2 are fixed, as the groups are.
use Rattle.std.specs.Prelude.{Bool, cond, List, ◌++◌, ℕ, ◌/◌, ◌%◌, ◌^◌, leb, ltb, length, get_or, drop}
use Rattle.pulses.specs.Row.{groups, first_data, up_to}

-- as many tags as bytes
abbrev pub tag_count : ℕ
tag_count = 256

-- the lowest byte of what part p says among the values v
abbrev pub low_byte : List ℕ → ℕ → ℕ
low_byte v p = get_or v p 0 % 256

-- the digit k of byte i
abbrev pub digit_in : List ℕ → ℕ → ℕ → ℕ
digit_in low k i = get_or low i 0 / 2 ^ k % 2

-- the digit that tag c picks of the values v
unfoldable pub cell_digit : List ℕ → ℕ → ℕ
cell_digit v c = get_or v (c % groups) 0 / 2 ^ (c / groups) % 2

-- the pulse of tag c where the parts say the values v
unfoldable pub cell_of : List ℕ → ℕ → ℕ
cell_of v c = cond (ltb c first_data) c (cell_digit v c)

-- the pulses of all the tags, a cell each
unfoldable pub cells_of : List ℕ → List ℕ
cells_of v = up_to (cell_of v) tag_count

-- what stands in the cell of the tag at place i
abbrev pub picked : List ℕ → List ℕ → ℕ → ℕ
picked tags cells i = get_or cells (get_or tags i 0) 0

-- the bytes are enough for the tags' row
unfoldable pub tags_fit : List ℕ → List ℕ → Bool
tags_fit tags out = leb (length tags) (length out)

-- the row of pulses that says the values v
unfoldable pub tags_row : List ℕ → List ℕ → List ℕ
tags_row tags v = up_to (picked tags (cells_of v)) (length tags)

-- the bytes with the row at their start; too few of them stay as they are
unfoldable pub tags_laid : List ℕ → List ℕ → List ℕ → List ℕ
tags_laid tags v out = cond (tags_fit tags out) (tags_row tags v ++ drop (length tags) out) out
