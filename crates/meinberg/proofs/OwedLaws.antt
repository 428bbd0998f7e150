-- The code and place of each refusal: the first of the order of the codes whose condition holds, and its lowest place.
use Rattle.reading.specs.Faults.{no_fault}
use mathlib.Core.Bool.{Bool, true, false, ◌||◌}
use mathlib.Core.List.{List, []}
use mathlib.Core.Path.{◌≡◌, refl}
use Prim.Native.Nat.{ℕ}
use lib.Dec.{ltb}
use Rattle.reading.specs.declared.Reading.{Reading}
use Rattle.reading.specs.declared.Refusal.{Refusal}
use Rattle.reading.specs.declared.Fault.TheVariants.{Length, NotCarried}
use Rattle.reading.specs.Universal.{utc_of}
use Rattle.reading.specs.Leap.{sixty_bad}
use Rattle.reading.specs.Writing.{written_of}
use Rattle.reading.specs.Refusals.{Owed}
use Rattle.reading.specs.Objections.{check_objections, sound_objections, reading_objections, WrittenOwed}
use Rattle.reading.proofs.RefusalLaws.{Through, none, judged, one_then_other, always_at_0, verdict_owed}
use Rattle.reading.proofs.OneDue.{owed_one}
use Rattle.reading.proofs.OwedLaws.{checked_through, written_owed}
use Rattle.strings.specs.Checks.{fault_of, AnswerOwed}
use Rattle.strings.proofs.OwedLaws.{answer_owed}
use Rattle.meinberg.specs.Layout.{text_length}
use Rattle.meinberg.specs.Meaning.{meaning, coasting_in, fault_in, read_meinberg}
use Rattle.meinberg.specs.Writing.{not_carried, write_fault}
use Rattle.meinberg.specs.Objections.{said_objections, read_objections, write_objections, read_codes, write_codes}

or_false : (b : Bool) → (b || false) ≡ b
or_false true = refl
or_false false = refl

-- (no byte of this string marks a leap second)
read_through : (base : ℕ) (s : List ℕ) → Through (read_objections base s) (fault_in base s)
unfolding read_objections said_objections fault_in fault_of
read_through base s = rw (or_false (sixty_bad (utc_of (meaning base s)) (meaning base s).second)) (search (judged, none) depth 20)

pub read_owed : (base : ℕ) (s : List ℕ) → AnswerOwed (read_objections base s) read_codes (read_meinberg base s)
unfolding read_meinberg read_objections said_objections
read_owed base s =
    answer_owed (read_objections base s) read_codes (fault_in base s) (meaning base s) (coasting_in s)
    (verdict_owed read_codes (read_through base s) refl refl)

write_through : (base : ℕ) (r : Reading) (room : ℕ) → Through (write_objections base r room) (write_fault base r room)
unfolding write_objections write_fault
write_through base r room =
    judged (ltb room text_length) Length 1 0 _ _ refl refl (one_then_other (checked_through base r) (judged (not_carried r) NotCarried 11 0 [] no_fault refl refl none))

pub write_owed : (base : ℕ) (r : Reading) (room : ℕ)
    → WrittenOwed (write_objections base r room) write_codes (written_of (write_fault base r room) text_length)
unfolding write_objections reading_objections sound_objections check_objections
write_owed base r room =
    written_owed (write_objections base r room) write_codes (write_fault base r room) text_length
    (verdict_owed write_codes (write_through base r room) refl refl)

-- ---- which fixes the refusal, and a writer's is at place 0

pub read_one : (base : ℕ) (s : List ℕ) (x y : Refusal) → Owed (read_objections base s) read_codes x → Owed (read_objections base s) read_codes y → x ≡ y
read_one base s x y = owed_one (read_objections base s) read_codes x y refl

module _ (base : ℕ) (r : Reading) (room : ℕ) (x : Refusal) where
  pub write_one : (y : Refusal) → Owed (write_objections base r room) write_codes x → Owed (write_objections base r room) write_codes y → x ≡ y
  write_one y = owed_one (write_objections base r room) write_codes x y refl

  pub write_at_0 : Owed (write_objections base r room) write_codes x → x.place ≡ 0
  unfolding write_objections reading_objections sound_objections check_objections
  write_at_0 = always_at_0 (write_objections base r room) write_codes x refl refl
