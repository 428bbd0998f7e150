-- What the worked cases are about: readings, rows of pulses told by their ones, and strings byte by byte.
use Rattle.std.specs.Prelude.{Bool, false, cond, ◌||◌, List, [], ◌∷◌, ◌++◌, ℕ, zero, suc, ◌+◌, ◌-◌, ◌/◌, ◌%◌, eqb, ℤ, pos, neg_ℤ, get_or, set, replicate}
use Rattle.laws.specs.Tests.{among}
use Rattle.reading.specs.declared.Reading.{Reading}

-- ---- readings

-- a local date, time and offset, with the summer flag, leap announced, change announced and a quality
abbrev pub flagged : ℕ → ℕ → ℕ → ℕ → ℕ → ℕ → ℤ → Bool → Bool → Bool → ℕ → Reading
flagged y mo d h mi s z summer leap change quality =
    record {
      year = y;
      month = mo;
      day = d;
      hour = h;
      minute = mi;
      second = s;
      offset = record { 0 = z };
      summer = summer;
      leap = leap;
      change = change;
      quality = quality;
    }

-- the same with no flags and quality 0
abbrev pub at : ℕ → ℕ → ℕ → ℕ → ℕ → ℕ → ℤ → Reading
at y mo d h mi s z = flagged y mo d h mi s z false false false 0

-- case 6's date, hour and minute, with a second, an offset, the summer flag, leap announced, change announced and a quality
abbrev pub leap_day : ℕ → ℤ → Bool → Bool → Bool → ℕ → Reading
leap_day s z summer leap change quality = flagged 2024 2 29 12 34 s z summer leap change quality

-- so many quarter hours east and west of UTC
abbrev pub plus : ℕ → ℤ
plus n = pos n

abbrev pub minus : ℕ → ℤ
minus n = neg_ℤ (pos n)

-- case 6 at an offset, case 8 and case 9
abbrev pub case6 : ℤ → Reading
case6 z = at 2024 2 29 12 34 56 z

abbrev pub case8 : Reading
case8 = at 2024 2 29 12 34 0 (plus 4)

abbrev pub case9 : Reading
case9 = at 2000 1 1 0 30 0 (plus 4)

-- ---- rows of pulses

-- n pulses with ones at the places given, and a 2 where one is due
unfoldable pub with_ones : (ℕ → Bool) → List ℕ → ℕ → List ℕ
with_ones due places zero = []
with_ones due places (suc n) = with_ones due places n ++ (cond (due n) 2 (cond (among n places) 1 0) ∷ [])

-- a frame with ones at the places given: "Marks at 0, 9, 19, .. 99"
abbrev pub frame_with : List ℕ → List ℕ
frame_with places = with_ones (λ i. eqb i 0 || eqb (i % 10) 9) places 100

-- a minute whose last mark is at the place given, with ones at others: "The last is 2."
abbrev pub minute_with : ℕ → List ℕ → List ℕ
minute_with last places = with_ones (eqb last) places (suc last)

-- the row s with the pulses at the places given turned over, a 0 for a 1 and a 1 for a 0
unfoldable pub turned : List ℕ → List ℕ → List ℕ
turned [] s = s
turned (p ∷ places) s = set (turned places s) p (1 - get_or s p 0)

-- case 6's ones
abbrev pub frame6 : List ℕ
frame6 = frame_with (2 ∷ 3 ∷ 6 ∷ 8 ∷ 12 ∷ 15 ∷ 16 ∷ 21 ∷ 25 ∷ 36 ∷ 37 ∷ 52 ∷ 56 ∷ 64 ∷ 65 ∷ 75 ∷ 84 ∷ 85 ∷ 86 ∷ 87 ∷ 93 ∷ 94 ∷ 96 ∷ [])

-- case 8's ones
abbrev pub ones8 : List ℕ
ones8 = 18 ∷ 20 ∷ 23 ∷ 25 ∷ 26 ∷ 28 ∷ 30 ∷ 33 ∷ 36 ∷ 39 ∷ 41 ∷ 44 ∷ 46 ∷ 52 ∷ 55 ∷ 58 ∷ []

abbrev pub minute8 : List ℕ
minute8 = minute_with 59 ones8

-- ---- strings

-- the two digits of a number
abbrev pub two : ℕ → List ℕ
two n = (48 + n / 10) ∷ (48 + n % 10) ∷ []

-- three numbers of two digits, with a byte between them
abbrev pub three : ℕ → ℕ → ℕ → ℕ → List ℕ
three between a b c = two a ++ (between ∷ []) ++ two b ++ (between ∷ []) ++ two c

-- STX `D:dd.mm.yy;T:w;U:hh.mm.ss;uvxy` ETX, for the numbers dd mm yy w hh mm ss and the four bytes uvxy
abbrev pub meinberg_at : ℕ → ℕ → ℕ → ℕ → ℕ → ℕ → ℕ → List ℕ → List ℕ
meinberg_at d mo y w h mi s letters =
    (2 ∷ 68 ∷ 58 ∷ []) ++ three 46 d mo y ++ (59 ∷ 84 ∷ 58 ∷ (48 + w) ∷ 59 ∷ 85 ∷ 58 ∷ []) ++ three 46 h mi s ++ (59 ∷ []) ++ letters ++ (3 ∷ [])

-- STX `D:29.02.24;T:4;U:12.34.56;uvxy` ETX, for the four bytes uvxy
abbrev pub meinberg6 : ℕ → ℕ → ℕ → ℕ → List ℕ
meinberg6 u v x y = meinberg_at 29 2 24 4 12 34 56 (u ∷ v ∷ x ∷ y ∷ [])

-- 26 spaces of position
abbrev pub position : List ℕ
position = replicate 26 32

-- STX `dd.mm.yy; w; hh:mm:ss; voo:oo; acdfg i; `, 26 spaces of position, ETX, for the numbers dd mm yy w hh mm ss, the six bytes
-- voo:oo and the seven of `acdfg i`
abbrev pub erlangen_at : ℕ → ℕ → ℕ → ℕ → ℕ → ℕ → ℕ → List ℕ → List ℕ → List ℕ
erlangen_at d mo y w h mi s offset flags =
    (2 ∷ []) ++ three 46 d mo y ++ (59 ∷ 32 ∷ (48 + w) ∷ 59 ∷ 32 ∷ []) ++ three 58 h mi s
    ++ (59 ∷ 32 ∷ []) ++ offset ++ (59 ∷ 32 ∷ []) ++ flags ++ (59 ∷ 32 ∷ []) ++ position ++ (3 ∷ [])

-- STX `29.02.24; 4; 12:34:56; voo:oo; acdfg i; `, 26 spaces of position, ETX
abbrev pub erlangen6 : List ℕ → List ℕ → List ℕ
erlangen6 offset flags = erlangen_at 29 2 24 4 12 34 56 offset flags

-- `+01:00`
abbrev pub hour_ahead : List ℕ
hour_ahead = 43 ∷ 48 ∷ 49 ∷ 58 ∷ 48 ∷ 48 ∷ []

-- seven spaces: no flag
abbrev pub no_flags : List ℕ
no_flags = replicate 7 32

-- ---- buffers

-- a lent buffer of n bytes, each a 7
abbrev pub sevens : ℕ → List ℕ
sevens n = replicate n 7

-- ---- listings

-- `at kind answer value place` and a line feed
abbrev pub heading : List ℕ
heading =
    97 ∷ 116 ∷ 32 ∷ 107 ∷ 105 ∷ 110 ∷ 100 ∷ 32 ∷ 97 ∷ 110 ∷ 115 ∷ 119 ∷ 101 ∷ 114 ∷ 32 ∷ 118 ∷ 97 ∷ 108 ∷ 117 ∷ 101 ∷ 32 ∷ 112 ∷ 108 ∷ 97 ∷ 99 ∷ 101 ∷ 10 ∷ []
