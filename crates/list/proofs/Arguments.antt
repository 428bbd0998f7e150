-- What an argument says, as a base or as the number that is none. Assumes nothing.
use Rattle.std.proofs.Common.{◌≡◌, ℕ, Bool, true, false, List, refl}
use Rattle.std.specs.Prelude.{cond, Some, None, unwrap_or}
use Rattle.list.specs.Argument.{four_bytes, base_said, base_named}

chosen : (a b : Bool) → ◌≡◌ {A = ℕ} (unwrap_or (cond a (Some 1990) (cond b (Some 2000) None)) 0) (cond a 1990 (cond b 2000 0))
chosen true b = refl
chosen false true = refl
chosen false false = refl

pub said_or_none : (t : List ℕ) → unwrap_or (base_said t) 0 ≡ base_named t
unfolding base_said base_named
said_or_none t = chosen (four_bytes t 49 57 57 48) (four_bytes t 50 48 48 48)
