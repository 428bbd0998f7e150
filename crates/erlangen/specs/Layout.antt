-- What may stand at each of the 68 places of a Uni Erlangen string:
-- STX `dd.mm.yy; w; hh:mm:ss; voo:oo; acdfg i; `, 26 bytes of position, ETX.
use Rattle.std.specs.Prelude.{List, [], ◌∷◌, ◌++◌, ℕ, replicate}
use Rattle.wire.specs.Layout.{exactly, from, either}
pub use Rattle.strings.specs.Letters.{stx, etx, space, bang, hash, star, dot, colon, semicolon, letter_a, letter_s}

-- the length of a string, and where in it how many bytes of position stand
abbrev pub size : ℕ
size = 68

abbrev pub position_at : ℕ
position_at = 41

abbrev pub position_size : ℕ
position_size = 26

abbrev pub plus : ℕ
plus = 43

abbrev pub minus : ℕ
minus = 45

-- i: this is a leap second
abbrev pub letter_l : ℕ
letter_l = 76

-- a decimal digit
abbrev pub decimal : ℕ
decimal = from 48 57

-- a letter, or a space for none
abbrev pub flag : ℕ → ℕ
flag letter = either letter space

-- STX `dd.mm.yy; w; `
abbrev pub date_layout : List ℕ
date_layout =
    exactly stx ∷ decimal ∷ decimal ∷ exactly dot ∷ decimal ∷ decimal ∷ exactly dot ∷ decimal ∷ decimal ∷ exactly semicolon ∷ exactly space
    ∷ decimal ∷ exactly semicolon ∷ exactly space ∷ []

-- `hh:mm:ss; `
abbrev pub time_layout : List ℕ
time_layout = decimal ∷ decimal ∷ exactly colon ∷ decimal ∷ decimal ∷ exactly colon ∷ decimal ∷ decimal ∷ exactly semicolon ∷ exactly space ∷ []

-- `voo:oo; `
abbrev pub offset_layout : List ℕ
offset_layout = either minus plus ∷ decimal ∷ decimal ∷ exactly colon ∷ decimal ∷ decimal ∷ exactly semicolon ∷ exactly space ∷ []

-- `acdfg i; `
abbrev pub flag_layout : List ℕ
flag_layout =
    flag hash ∷ flag star ∷ flag letter_s ∷ flag bang ∷ flag letter_a ∷ exactly space ∷ flag letter_l ∷ exactly semicolon ∷ exactly space ∷ []

-- "The position bytes are printable (32..126)"
unfoldable pub layout : List ℕ
layout = date_layout ++ time_layout ++ offset_layout ++ flag_layout ++ replicate position_size (from 32 126) ++ (exactly etx ∷ [])
