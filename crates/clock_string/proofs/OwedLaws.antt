-- The code and place of each refusal of a clock string: the first of the order of the codes whose condition holds, and its lowest place.
use Rattle.std.specs.Prelude.{Err, Ok}
use mathlib.Core.Bool.{Bool, true, false, cond}
use mathlib.Core.List.{List, [], ◌∷◌}
use mathlib.Core.Path.{◌≡◌, refl}
use Prim.Native.Nat.{ℕ}
use lib.Dec.{eqb}
use lib.ListN.{length}
use Rattle.reading.specs.declared.Refusal.{Refusal}
use Rattle.reading.specs.declared.Fault.TheVariants.{Length}
use Rattle.reading.specs.Faults.{number}
use Rattle.reading.specs.Refusals.{Objection, objection, Owed}
use Rattle.reading.proofs.RefusalLaws.{length-owed}
use Rattle.reading.proofs.OneDue.{all_in, owed_more, owed_one}
use Rattle.strings.specs.Checks.{AnswerOwed, Answer as Said}
use Rattle.meinberg.specs.Meaning.{read_meinberg}
use Rattle.meinberg.specs.Objections.{read_objections as meinbergObjections, read_codes as meinbergCodes}
use Rattle.meinberg.proofs.OwedLaws.{read_owed as meinberg-owed}
use Rattle.erlangen.specs.Meaning.{read_erlangen}
use Rattle.erlangen.specs.Objections.{read_objections as erlangenObjections, read_codes as erlangenCodes}
use Rattle.erlangen.proofs.OwedLaws.{read_owed as erlangen-owed}
use Rattle.clock_string.specs.Reader.{as_meinberg, as_erlangen, read_string, whichever}
use Rattle.clock_string.specs.Objections.{read_objections, read_codes}

-- what is owed of a format's answer is owed of the answer that names the format
module _ (l : List Objection) (codes : List ℕ) (all : all_in read_codes codes ≡ true) where
  as_meinberg_lem : (a : Said) → AnswerOwed l codes a → AnswerOwed l read_codes (whichever (as_meinberg a))
  as_meinberg_lem (Ok (r, coasting)) p = p
  as_meinberg_lem (Err x) p = owed_more l codes read_codes x all p

  as_erlangen_lem : (a : Said) → AnswerOwed l codes a → AnswerOwed l read_codes (whichever (as_erlangen a))
  as_erlangen_lem (Ok (r, coasting)) p = p
  as_erlangen_lem (Err x) p = owed_more l codes read_codes x all p

pub read_owed : (base : ℕ) (s : List ℕ) → AnswerOwed (read_objections base s) read_codes (whichever (read_string base s))
unfolding read_objections read_string
read_owed base s = go (eqb (length s) 32) (eqb (length s) 68)
  where
    go : (a b : Bool)
        → AnswerOwed (cond a (meinbergObjections base s) (cond b (erlangenObjections base s) (objection true 1 0 ∷ []))) read_codes
        (whichever (cond a (as_meinberg (read_meinberg base s)) (cond b (as_erlangen (read_erlangen base s)) (Err (number Length)))))
    go true b = as_meinberg_lem (meinbergObjections base s) meinbergCodes refl (read_meinberg base s) (meinberg-owed base s)
    go false true = as_erlangen_lem (erlangenObjections base s) erlangenCodes refl (read_erlangen base s) (erlangen-owed base s)
    go false false = length-owed [] read_codes refl

-- which fixes the refusal
pub read_one : (base : ℕ) (s : List ℕ) (x y : Refusal) → Owed (read_objections base s) read_codes x → Owed (read_objections base s) read_codes y → x ≡ y
read_one base s x y = owed_one (read_objections base s) read_codes x y refl
