-- The table of a row as one column of bytes, its tags, and a board of 256 cells, one for each tag: how the work is done, not what it is.
-- A tag is a part and, 32 times over, which binary digit of what the part says the pulse is. A part is a group; of a group that has
-- more than eight pulses, those from 256 on are a part of their own, and those from 65536 on another. A fixed pulse has its group's
-- number, 0, 1 or 2, for a tag.
use Rattle.std.specs.Prelude.{Bool, false, cond, ◌&&◌, List, map, ◌≡◌, ℕ, zero, suc, ◌+◌, ◌-◌, ◌*◌, ◌/◌, ◌%◌, ◌^◌, min, leb, ltb, length, get_or, drop, set, replicate}
use Rattle.laws.specs.Tests.{below}
use Rattle.pulses.specs.Row.{unit, groups, first_data, group_of, weight_of, pulse_allowed, good_pulses, up_to}

-- f 0 + f 1 + .. + f (n - 1)
unfoldable pub total : (ℕ → ℕ) → ℕ → ℕ
total f zero = 0
total f (suc n) = total f n + f n

-- ---- the tags of a table

-- the part of an entry: its group, but for what a group has from 256 on, and from 65536 on; those are the parts u and u + 1
unfoldable pub part_of : ℕ → ℕ → ℕ
part_of u e = cond (ltb (weight_of e) 256) (group_of e) (cond (ltb (weight_of e) 65536) u (suc u))

-- which binary digit the weight w picks: 0 for 1, 1 for 2, 2 for 4, ..
unfoldable pub digit_at : ℕ → ℕ
digit_at w = total (λ k. cond (leb (2 ^ suc k) w) 1 0) 20

-- a part has eight digits
unfoldable pub tag_of : ℕ → ℕ → ℕ
tag_of u e = part_of u e + groups * (digit_at (weight_of e) % 8)

-- a tag as an entry of a table, of which only the group counts
unfoldable pub entry_of : ℕ → ℕ
entry_of c = c % groups * unit

-- ---- good pulses

-- n pulses from place a on are as their tags ask
unfoldable pub fit_from : List ℕ → List ℕ → ℕ → ℕ → Bool
fit_from tags s a n = below (λ i. pulse_allowed (entry_of (get_or tags (a + i) 0)) (get_or s (a + i) 0)) n

-- the first n pulses are, looked at sixteen at a time: as many sixteens as there are, and the last sixteen, of which some may be looked at
-- again; fewer than sixteen are not looked at so
unfoldable pub blocks_fit : List ℕ → List ℕ → ℕ → Bool
blocks_fit tags s n = cond (ltb n 16) false (fit_from tags s 0 (n / 16 * 16) && fit_from tags s (n - 16) 16)

-- the first i pulses are good, and the count goes on from there
abbrev pub CountedTo : List ℕ → List ℕ → ℕ → Type 0
CountedTo tags s i = i + good_pulses (drop i (map entry_of tags)) (drop i s) ≡ good_pulses (map entry_of tags) s

-- ---- reading

-- the board after the first i pulses are put into the cells of their tags, where it was `cells` before
unfoldable pub cells_put : List ℕ → List ℕ → List ℕ → ℕ → List ℕ
cells_put cells tags s zero = cells
cells_put cells tags s (suc i) = set (cells_put cells tags s i) (get_or tags i 0) (get_or s i 0)

-- the same, where no pulse was put into a cell before
unfoldable pub cells_after : List ℕ → List ℕ → ℕ → List ℕ
cells_after tags s i = cells_put (replicate 256 0) tags s i

-- what the eight cells of part k say: a pulse counts by its lowest bit
unfoldable pub cells_say : List ℕ → ℕ → ℕ
cells_say cells k = total (λ e. 2 ^ e * (get_or cells (groups * e + k) 0 % 2)) 8

-- what each part says; what is fixed says nothing
unfoldable pub tag_sums : List ℕ → List ℕ → List ℕ
tag_sums tags s = up_to (λ k. cond (ltb k first_data) 0 (cells_say (cells_after tags s (min (length tags) (length s))) k)) groups
