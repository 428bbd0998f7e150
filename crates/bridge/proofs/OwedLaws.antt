-- The code and place of each refusal of the bridge: the first of the order of the codes whose condition holds, and its lowest place.
use Rattle.reading.specs.Writing.{Written}
use Rattle.std.specs.Prelude.{Err, Ok}
use mathlib.Core.Bool.{Bool, true, false, cond}
use mathlib.Core.List.{List, [], ◌∷◌, ◌++◌}
use mathlib.Core.Path.{◌≡◌, refl}
use Prim.Native.Nat.{ℕ}
use lib.Dec.{ltb}
use Rattle.reading.specs.declared.Refusal.{Refusal}
use Rattle.reading.specs.declared.Fault.TheVariants.{Length, NotCarried}
use Rattle.reading.specs.Faults.{number}
use Rattle.reading.specs.Refusals.{Objection, objection, Owed}
use Rattle.reading.specs.Objections.{WrittenOwed}
use Rattle.reading.proofs.RefusalLaws.{quiet_later, owed_later, length-owed, quiet_ends, owed_ends, last_owed}
use Rattle.reading.proofs.OneDue.{owed_more, owed_one}
use Rattle.strings.specs.Checks.{AnswerOwed, Answer}
use Rattle.clock_string.specs.Reader.{read_string, whichever}
use Rattle.clock_string.specs.Objections.{read_objections, read_codes}
use Rattle.clock_string.proofs.OwedLaws.{read_owed}
use Rattle.irig.specs.Offset.{odd_quarter}
use Rattle.irig.specs.Faults.{frame_length}
use Rattle.bridge.specs.Bridge.{answer_for, bridge_answer}
use Rattle.bridge.specs.Objections.{odd_said, bridge_objections, bridge_codes}

-- behind what the string's reader objects: of a time, the odd quarter alone
quarter_owed : (l : List Objection) (a : Answer) → AnswerOwed l read_codes a
    → WrittenOwed (l ++ (objection (odd_said a) 11 0 ∷ [])) bridge_codes (answer_for a)
unfolding odd_said number
quarter_owed l (Ok (r, coasting)) p = go (odd_quarter r.offset.0)
  where
    go : (odd : Bool) → WrittenOwed (l ++ (objection odd 11 0 ∷ [])) bridge_codes (cond odd (Err (number NotCarried)) (Ok frame_length))
    go true = last_owed 11 0 l bridge_codes p refl
    go false = quiet_ends l (objection false 11 0) refl p
quarter_owed l (Err x) p = owed_ends l (objection false 11 0) bridge_codes x refl (owed_more l read_codes bridge_codes x refl p)

-- before all of it the room
with_room : (l : List Objection) (short : Bool) (w : Written) → WrittenOwed l bridge_codes w
    → WrittenOwed (objection short 1 0 ∷ l) bridge_codes (cond short (Err (number Length)) w)
with_room l true w p = length-owed l bridge_codes refl
with_room l false (Ok n) p = quiet_later (objection false 1 0) l refl p
with_room l false (Err x) p = owed_later (objection false 1 0) l bridge_codes x refl p

pub bridge_owed : (base : ℕ) (s : List ℕ) (room : ℕ) → WrittenOwed (bridge_objections base s room) bridge_codes (bridge_answer base s room)
unfolding bridge_objections bridge_answer
bridge_owed base s room =
    let a = whichever (read_string base s) in
    with_room (read_objections base s ++ (objection (odd_said a) 11 0 ∷ [])) (ltb room frame_length) (answer_for a)
    (quarter_owed (read_objections base s) a (read_owed base s))

-- which fixes the refusal
pub bridge_one : (base : ℕ) (s : List ℕ) (room : ℕ) (x y : Refusal)
    → Owed (bridge_objections base s room) bridge_codes x → Owed (bridge_objections base s room) bridge_codes y → x ≡ y
bridge_one base s room x y = owed_one (bridge_objections base s room) bridge_codes x y refl
