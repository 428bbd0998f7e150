-- The zones of a Meinberg string: the one place where their offsets stand.
use Rattle.std.specs.Prelude.{Bool, cond, ◌&&◌, ◌||◌, ℕ, eqb, ℤ, pos}
use Rattle.std.specs.Bool.{beq}
use Rattle.laws.specs.Tests.{same}
use Rattle.meinberg.specs.Layout.{space, letter_s, letter_u}

-- "x is `U` (offset 0), space (offset +2 half hours) or `S` (+4, summer)": the offset, which by L9 "doubles", to quarter hours
unfoldable pub offset_of : ℕ → ℤ
offset_of x = cond (eqb x letter_u) (pos 0) (cond (eqb x letter_s) (pos 8) (pos 4))

-- and the summer flag
unfoldable pub summer_of : ℕ → Bool
summer_of x = eqb x letter_s

-- an offset and a summer flag are those of the letter x
unfoldable pub is_zone : ℕ → ℤ → Bool → Bool
is_zone x offset summer = same offset (offset_of x) && beq summer (summer_of x)

-- they are those of one of the three letters
unfoldable pub zone_carried : ℤ → Bool → Bool
zone_carried offset summer = is_zone letter_u offset summer || is_zone letter_s offset summer || is_zone space offset summer

-- the letter of a zone; the space where the zone is no other letter's
unfoldable pub zone_letter : ℤ → Bool → ℕ
zone_letter offset summer = cond (is_zone letter_u offset summer) letter_u (cond (is_zone letter_s offset summer) letter_s space)
