-- Where each byte of a Meinberg string stands, and what it may be: STX `D:dd.mm.yy;T:w;U:hh.mm.ss;uvxy` ETX.
use Rattle.std.specs.Prelude.{List, [], ◌∷◌, ℕ}
use Rattle.wire.specs.Layout.{exactly, from, either, one_of}
use Rattle.strings.specs.declared.Places.{Places}
pub use Rattle.strings.specs.Letters.{stx, etx, space, bang, hash, star, dot, colon, semicolon, letter_a, letter_s}

-- "Meinberg, 32 bytes"
abbrev pub text_length : ℕ
text_length = 32

-- the largest place
abbrev pub last_place : ℕ
last_place = 31

-- ---- the bytes

-- `D`
abbrev pub letter_d : ℕ
letter_d = 68

-- `T`
abbrev pub letter_t : ℕ
letter_t = 84

-- `U`
abbrev pub letter_u : ℕ
letter_u = 85

-- ---- the layout

-- a decimal digit, `0` to `9`
abbrev pub digit : ℕ
digit = from 48 57

-- what may stand at each place, field by field
unfoldable pub layout : List ℕ
layout =
    exactly stx
    ∷ exactly letter_d ∷ exactly colon ∷ digit ∷ digit ∷ exactly dot ∷ digit ∷ digit ∷ exactly dot ∷ digit ∷ digit ∷ exactly semicolon
    ∷ exactly letter_t ∷ exactly colon ∷ digit ∷ exactly semicolon
    ∷ exactly letter_u ∷ exactly colon ∷ digit ∷ digit ∷ exactly dot ∷ digit ∷ digit ∷ exactly dot ∷ digit ∷ digit ∷ exactly semicolon
    ∷ either hash space ∷ either star space ∷ one_of letter_u space letter_s ∷ one_of bang letter_a space
    ∷ exactly etx
    ∷ []

-- the first place of each field that can be at fault; the offset's is that of the zone's letter
abbrev pub places : Places
places = record { day = 3; month = 6; weekday = 14; hour = 18; minute = 21; second = 24; offset = 29 }

-- where the year's two digits start
abbrev pub year_place : ℕ
year_place = 9

-- where u stands
abbrev pub failure_place : ℕ
failure_place = 27

-- where v stands
abbrev pub coasting_place : ℕ
coasting_place = 28

-- where x stands
abbrev pub zone_place : ℕ
zone_place = 29

-- where y stands
abbrev pub announcement_place : ℕ
announcement_place = 30
