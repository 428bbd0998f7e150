-- What may stand at each place of a string. A layout is a list of numbers, one a place, and each packs four bytes:
-- a lowest and a highest byte of a range, and two bytes that are allowed beside the range.
use Rattle.std.specs.Prelude.{Bool, cond, ◌&&◌, ◌||◌, List, [], ◌∷◌, ℕ, suc, min, ◌+◌, ◌*◌, ◌/◌, ◌%◌, eqb, leb, length}

-- the four bytes of an entry as one number
unfoldable pub packed : ℕ → ℕ → ℕ → ℕ → ℕ
packed low high other third = low + 256 * high + 65536 * other + 16777216 * third

-- this byte and no other
unfoldable pub exactly : ℕ → ℕ
exactly b = packed b b b b

-- the bytes from low to high
unfoldable pub from : ℕ → ℕ → ℕ
from low high = packed low high low low

-- one of two bytes
unfoldable pub either : ℕ → ℕ → ℕ
either a b = packed a a b b

-- one of three bytes
unfoldable pub one_of : ℕ → ℕ → ℕ → ℕ
one_of a b c = packed a a b c

-- b is in the entry's range
unfoldable pub within : ℕ → ℕ → Bool
within e b = leb (e % 256) b && leb b (e / 256 % 256)

-- b is one of the two bytes that the entry allows beside its range
unfoldable pub beside : ℕ → ℕ → Bool
beside e b = eqb b (e / 65536 % 256) || eqb b (e / 16777216)

-- the byte b may stand where the entry is e
unfoldable pub allowed : ℕ → ℕ → Bool
allowed e b = within e b || beside e b

-- the layout that four columns say, place by place up to the end of the shortest: both ends of the ranges, and the bytes beside them
unfoldable pub columns : List ℕ → List ℕ → List ℕ → List ℕ → List ℕ
columns [] high other third = []
columns (a ∷ low) [] other third = []
columns (a ∷ low) (b ∷ high) [] third = []
columns (a ∷ low) (b ∷ high) (c ∷ other) [] = []
columns (a ∷ low) (b ∷ high) (c ∷ other) (d ∷ third) = packed a b c d ∷ columns low high other third

-- how many bytes from the start are allowed where they stand, up to the end of the layout or of the text
unfoldable pub good_places : List ℕ → List ℕ → ℕ
good_places [] text = 0
good_places (e ∷ layout) [] = 0
good_places (e ∷ layout) (b ∷ text) = cond (allowed e b) (suc (good_places layout text)) 0

-- every byte is allowed where it stands, up to the end of the layout or of the text
abbrev pub all_good : List ℕ → List ℕ → Bool
all_good layout text = leb (min (length layout) (length text)) (good_places layout text)

-- a byte from the space to the tilde
unfoldable pub printable : ℕ → Bool
printable b = leb 32 b && leb b 126

-- how many bytes from the start are printable
unfoldable pub printables : List ℕ → ℕ
printables [] = 0
printables (b ∷ text) = cond (printable b) (suc (printables text)) 0
