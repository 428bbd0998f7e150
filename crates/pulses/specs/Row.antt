-- A row of pulses and the table that drives it: a number for each place, which is its group times 134217728 and its weight.
-- The groups 0, 1 and 2 are fixed: their pulse is always a 0, a 1 or a mark (a 2). The groups 3 to 31 hold data.
use Rattle.std.specs.Prelude.{Bool, true, cond, ◌&&◌, List, [], ◌∷◌, ◌++◌, ℕ, zero, suc, ◌+◌, ◌-◌, ◌*◌, ◌/◌, ◌%◌, ◌^◌, leb, ltb, eqb, length, get_or, take, drop}
use Rattle.std.specs.Int.Bits.{bit_and}
use Rattle.laws.specs.Tests.{below}
use Rattle.pulses.specs.declared.Scan.{Scan}

-- what one group is worth in an entry
abbrev pub unit : ℕ
unit = 134217728

-- every weight is below this
abbrev pub weights : ℕ
weights = 1048576

-- the number of groups
abbrev pub groups : ℕ
groups = 32

-- the group of marks
abbrev pub marks : ℕ
marks = 2

-- the first group that holds data
abbrev pub first_data : ℕ
first_data = 3

-- the group of an entry
unfoldable pub group_of : ℕ → ℕ
group_of e = e / unit % groups

-- the entry is of a group that is fixed
abbrev pub is_fixed : ℕ → Bool
is_fixed e = ltb (group_of e) first_data

-- the weight of an entry; a fixed pulse weighs nothing
unfoldable pub weight_of : ℕ → ℕ
weight_of e = cond (is_fixed e) 0 (e % weights)

-- ---- reading

-- the byte b may stand at the entry e
unfoldable pub pulse_allowed : ℕ → ℕ → Bool
pulse_allowed e b = cond (is_fixed e) (eqb b (group_of e)) (ltb b 2)

-- how many pulses from the start are as the table asks, up to the end of the shorter
unfoldable pub good_pulses : List ℕ → List ℕ → ℕ
good_pulses [] s = 0
good_pulses (e ∷ t) [] = 0
good_pulses (e ∷ t) (b ∷ s) = cond (pulse_allowed e b) (suc (good_pulses t s)) 0

-- what the byte b at the entry e adds to group g: it counts by its lowest bit
unfoldable pub share_of : ℕ → ℕ → ℕ → ℕ
share_of e b g = cond (eqb (group_of e) g) (weight_of e * (b % 2)) 0

-- what the pulses of group g add up to
unfoldable pub sum_of : List ℕ → List ℕ → ℕ → ℕ
sum_of [] s g = 0
sum_of (e ∷ t) [] g = 0
sum_of (e ∷ t) (b ∷ s) g = share_of e b g + sum_of t s g

-- f 0, f 1, .. f (n - 1)
unfoldable pub up_to : (ℕ → ℕ) → ℕ → List ℕ
up_to f zero = []
up_to f (suc n) = up_to f n ++ (f n ∷ [])

-- group g of the values v says more than a decimal digit
abbrev pub over_nine : List ℕ → ℕ → Bool
over_nine v g = ltb 9 (get_or v g 0)

-- no more places than these are read
abbrev pub most_places : ℕ
most_places = 4096

-- the sum of each group
unfoldable pub sums_of : List ℕ → List ℕ → List ℕ
sums_of t s = up_to (sum_of (take most_places t) s) groups

-- how many pulses from the start are good, among the places that are read
unfoldable pub good_of : List ℕ → List ℕ → ℕ
good_of t s = good_pulses (take most_places t) s

-- what a pass over the pulses finds: how many are good, up to the first that is not, and what those add up to
unfoldable pub scan_of : List ℕ → List ℕ → Scan
scan_of t s = record { good = good_of t s; sums = sums_of t (take (good_of t s) s) }

-- ---- writing

-- a flag as a pulse
abbrev pub bit : Bool → ℕ
bit flag = cond flag 1 0

-- the binary digit of n that weighs w: 1 where n and w have it in common
unfoldable pub digit_of : ℕ → ℕ → ℕ
digit_of n w = cond (eqb (bit_and n w) 0) 0 1

-- the pulse at the entry e where its group says n
unfoldable pub pulse_of : ℕ → ℕ → ℕ
pulse_of e n = cond (is_fixed e) (group_of e) (digit_of n (weight_of e))

-- the pulse at the entry e where each group says its number among the values v
unfoldable pub pulse_for : ℕ → List ℕ → ℕ
pulse_for e v = pulse_of e (get_or v (group_of e) 0)

-- the row of pulses that says the values v
unfoldable pub row : List ℕ → List ℕ → List ℕ
row [] v = []
row (e ∷ t) v = pulse_for e v ∷ row t v

-- the bytes are enough for the table's row
unfoldable pub fits_in : List ℕ → List ℕ → Bool
fits_in t out = leb (length t) (length out)

-- the bytes with the row at their start; too few of them stay as they are
unfoldable pub laid : List ℕ → List ℕ → List ℕ → List ℕ
laid t v out = cond (fits_in t out) (row t v ++ drop (length t) out) out

-- ---- the shape of a table

-- how many pulses group g has
unfoldable pub pulses_in : List ℕ → ℕ → ℕ
pulses_in [] g = 0
pulses_in (e ∷ t) g = cond (eqb (group_of e) g) (suc (pulses_in t g)) (pulses_in t g)

-- the pulses of group g weigh 2 ^ k and from there on twice as much each
unfoldable pub doubling : List ℕ → ℕ → ℕ → Bool
doubling [] g k = true
doubling (e ∷ t) g k = cond (eqb (group_of e) g) (eqb (weight_of e) (2 ^ k) && doubling t g (suc k)) (doubling t g k)

-- the pulses of each group of data weigh 1, 2, 4, 8, ..
unfoldable pub sound : List ℕ → Bool
sound t = below (λ i. doubling t (first_data + i) 0) (groups - first_data)

-- ---- counting

-- the ones among n pulses from place a on: a byte counts by its lowest bit, so that a mark is left out
unfoldable pub ones_from : ℕ → ℕ → List ℕ → ℕ
ones_from a zero s = 0
ones_from a (suc n) s = ones_from a n s + get_or s (a + n) 0 % 2

-- the sum of n pulses from place a on
unfoldable pub sum_from : ℕ → ℕ → List ℕ → ℕ
sum_from a zero s = 0
sum_from a (suc n) s = sum_from a n s + get_or s (a + n) 0

-- two words pack this many pulses
abbrev pub most_packed : ℕ
most_packed = 126

-- n pulses from place a on lie within l pulses, and are no more than two words pack
unfoldable pub lies_within : ℕ → ℕ → ℕ → Bool
lies_within l a n = leb (a + n) l && leb n most_packed

-- the ones among n pulses from place a on; 0 where these do not lie within
unfoldable pub ones_of : ℕ → ℕ → List ℕ → ℕ
ones_of a n s = cond (lies_within (length s) a n) (ones_from a n s) 0
