-- The bytes that the clock strings are written in, and how they show a flag and a quality.
use Rattle.std.specs.Prelude.{Bool, cond, ◌&&◌, ℕ, leb}

-- the control bytes that start and end the text
abbrev pub stx : ℕ
stx = 2

abbrev pub etx : ℕ
etx = 3

-- ` `
abbrev pub space : ℕ
space = 32

-- `!`: a change is announced
abbrev pub bang : ℕ
bang = 33

-- `#`: the clock has failed
abbrev pub hash : ℕ
hash = 35

-- `*`: the clock is coasting
abbrev pub star : ℕ
star = 42

-- `.`
abbrev pub dot : ℕ
dot = 46

-- `:`
abbrev pub colon : ℕ
colon = 58

-- `;`
abbrev pub semicolon : ℕ
semicolon = 59

-- `A`: a leap second is announced
abbrev pub letter_a : ℕ
letter_a = 65

-- `S`: summer time
abbrev pub letter_s : ℕ
letter_s = 83

-- a flag's letter where it is set, "each else a space"
abbrev pub mark : Bool → ℕ → ℕ
mark flag letter = cond flag letter space

-- "`#` (quality 15) or space (0)": the quality of a clock that has failed, and of one that has not
abbrev pub quality_of : Bool → ℕ
quality_of failed = cond failed 15 0

-- "quality 1..14", which no string can say
abbrev pub quality_unshown : ℕ → Bool
quality_unshown quality = leb 1 quality && leb quality 14
