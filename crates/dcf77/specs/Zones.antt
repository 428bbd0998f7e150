-- The two zones that a DCF77 minute can name.
use Rattle.std.specs.Prelude.{Bool, true, false, cond, not, ◌||◌, ℕ, eqb, ℤ, pos}

-- "+2 half hours", and in summer "+4": by L9 these double, to quarter hours
unfoldable pub offset_in : Bool → ℤ
offset_in summer = cond summer (pos 8) (pos 4)

-- what the marks 17 and 18 add up to: they are 0,1 and in summer 1,0
unfoldable pub zone_of : Bool → ℕ
zone_of summer = cond summer 1 2

-- "DCF77 zone 0,0 or 1,1"
unfoldable pub zone_bad : ℕ → Bool
zone_bad z = not (eqb z (zone_of true) || eqb z (zone_of false))
