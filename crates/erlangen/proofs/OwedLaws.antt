-- The code and place of each refusal: the first of the order of the codes whose condition holds, and its lowest place.
use Rattle.reading.specs.Faults.{no_fault}
use mathlib.Core.Bool.{not}
use mathlib.Core.List.{List, []}
use mathlib.Core.Path.{◌≡◌, refl}
use Prim.Native.Nat.{ℕ}
use lib.Dec.{ltb}
use Rattle.reading.specs.declared.Reading.{Reading}
use Rattle.reading.specs.declared.Refusal.{Refusal}
use Rattle.reading.specs.declared.Fault.TheVariants.{Length, Byte, NotCarried, OtherBase}
use Rattle.reading.specs.Years.{is_base}
use Rattle.reading.specs.Writing.{written_of}
use Rattle.reading.specs.Refusals.{Owed}
use Rattle.reading.specs.Objections.{check_objections, sound_objections, WrittenOwed}
use Rattle.reading.proofs.RefusalLaws.{Through, none, judged, one_then_other, owed_at_0, verdict_owed}
use Rattle.reading.proofs.OneDue.{owed_one}
use Rattle.reading.proofs.OwedLaws.{sound_through, written_owed}
use Rattle.wire.specs.Layout.{printables}
use Rattle.strings.specs.Checks.{fault_of, AnswerOwed}
use Rattle.strings.proofs.OwedLaws.{answer_owed}
use Rattle.erlangen.specs.Layout.{size, position_size}
use Rattle.erlangen.specs.Meaning.{reading_of, coasting_said, fault_in, read_erlangen}
use Rattle.erlangen.specs.Writing.{not_carried, length_bad, carried_of, write_fault}
use Rattle.erlangen.specs.Objections.{said_objections, read_objections, write_objections, read_codes, write_codes}

read_through : (base : ℕ) (s : List ℕ) → Through (read_objections base s) (fault_in base s)
unfolding read_objections said_objections fault_in fault_of
read_through base s = search (judged, none) depth 20

pub read_owed : (base : ℕ) (s : List ℕ) → AnswerOwed (read_objections base s) read_codes (read_erlangen base s)
unfolding read_erlangen read_objections said_objections
read_owed base s =
    answer_owed (read_objections base s) read_codes (fault_in base s) (reading_of base s) (coasting_said s)
    (verdict_owed read_codes (read_through base s) refl refl)

module _ (base : ℕ) (r : Reading) (position : List ℕ) (room : ℕ) where
  write_through : Through (write_objections base r position room) (write_fault base r position room)
  unfolding write_objections write_fault carried_of
  write_through =
      judged (length_bad position room) Length 1 0 _ _ refl refl
      (judged (not (is_base base)) OtherBase 19 0 _ _ refl refl
      (judged (ltb (printables position) position_size) (Byte (printables position)) 2 (printables position) _ _ refl refl
      (one_then_other (sound_through base r) (judged (not_carried r.quality) NotCarried 11 0 [] no_fault refl refl none))))

  pub write_owed : WrittenOwed (write_objections base r position room) write_codes (written_of (write_fault base r position room) size)
  unfolding write_objections sound_objections check_objections
  write_owed =
      written_owed (write_objections base r position room) write_codes (write_fault base r position room) size
      (verdict_owed write_codes write_through refl refl)

-- ---- which fixes the refusal, and a writer's is at place 0

pub read_one : (base : ℕ) (s : List ℕ) (x y : Refusal) → Owed (read_objections base s) read_codes x → Owed (read_objections base s) read_codes y → x ≡ y
read_one base s x y = owed_one (read_objections base s) read_codes x y refl

module _ (base : ℕ) (r : Reading) (position : List ℕ) (room : ℕ) (x : Refusal) where
  pub write_one : (y : Refusal) → Owed (write_objections base r position room) write_codes x → Owed (write_objections base r position room) write_codes y → x ≡ y
  write_one y = owed_one (write_objections base r position room) write_codes x y refl

  -- but for a byte of the position part
  pub write_at_0 : Owed (write_objections base r position room) write_codes x → (x.code ≡ 2 → ⊥) → x.place ≡ 0
  unfolding write_objections sound_objections check_objections
  write_at_0 = owed_at_0 (write_objections base r position room) write_codes x refl
