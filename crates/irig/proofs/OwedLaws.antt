-- The code and place of each refusal: the first of the order of the codes whose condition holds, and its lowest place.
use Rattle.reading.specs.Faults.{Verdict, no_fault}
use Rattle.std.specs.Prelude.{Err, Ok}
use mathlib.Core.List.{List, []}
use mathlib.Core.Path.{◌≡◌, refl}
use Prim.Native.Nat.{ℕ}
use lib.Dec.{ltb}
use Rattle.reading.specs.declared.Reading.{Reading}
use Rattle.reading.specs.declared.Refusal.{Refusal}
use Rattle.reading.specs.declared.Fault.TheVariants.{Length, NotCarried}
use Rattle.reading.specs.Writing.{written_of}
use Rattle.reading.specs.Refusals.{Objection, Owed}
use Rattle.reading.specs.Objections.{check_objections, sound_objections, reading_objections, WrittenOwed}
use Rattle.reading.proofs.RefusalLaws.{Through, none, judged, one_then_other, VerdictOwed, always_at_0, verdict_owed}
use Rattle.reading.proofs.OneDue.{owed_one}
use Rattle.reading.proofs.OwedLaws.{checked_through, written_owed}
use Rattle.pulses.specs.Row.{sums_of}
use Rattle.irig_table.specs.Table.{frame_pulses}
use Rattle.irig.specs.Meaning.{reading_of}
use Rattle.irig.specs.Faults.{frame_length, fields_fault, values_fault, fault_in, answer_of, read_frame}
use Rattle.irig.specs.Offset.{odd_quarter}
use Rattle.irig.specs.Writing.{carried_of, write_fault}
use Rattle.irig.specs.Objections.{said_objections, read_objections, write_objections, read_codes, write_codes, AnswerOwed}

answer_owed : (l : List Objection) (codes : List ℕ) (v : Verdict) (r : Reading) → VerdictOwed l codes v → AnswerOwed l codes (answer_of v r)
answer_owed l codes (Ok done) r p = p
answer_owed l codes (Err x) r p = p

read_through : (base : ℕ) (s : List ℕ) → Through (read_objections base s) (fault_in base s)
unfolding read_objections said_objections fault_in values_fault fields_fault
read_through base s = search (judged, none) depth 40

pub read_owed : (base : ℕ) (s : List ℕ) → AnswerOwed (read_objections base s) read_codes (read_frame base s)
unfolding read_frame read_objections said_objections
read_owed base s =
    answer_owed (read_objections base s) read_codes (fault_in base s) (reading_of base (sums_of frame_pulses s))
    (verdict_owed read_codes (read_through base s) refl refl)

write_through : (base : ℕ) (r : Reading) (room : ℕ) → Through (write_objections base r room) (write_fault base r room)
unfolding write_objections write_fault carried_of
write_through base r room =
    judged (ltb room frame_length) Length 1 0 _ _ refl refl
    (one_then_other (checked_through base r) (judged (odd_quarter r.offset.0) NotCarried 11 0 [] no_fault refl refl none))

pub write_owed : (base : ℕ) (r : Reading) (room : ℕ)
    → WrittenOwed (write_objections base r room) write_codes (written_of (write_fault base r room) frame_length)
unfolding write_objections reading_objections sound_objections check_objections
write_owed base r room =
    written_owed (write_objections base r room) write_codes (write_fault base r room) frame_length
    (verdict_owed write_codes (write_through base r room) refl refl)

-- ---- which fixes the refusal, and a writer's is at place 0

pub read_one : (base : ℕ) (s : List ℕ) (x y : Refusal) → Owed (read_objections base s) read_codes x → Owed (read_objections base s) read_codes y → x ≡ y
read_one base s x y = owed_one (read_objections base s) read_codes x y refl

module _ (base : ℕ) (r : Reading) (room : ℕ) (x : Refusal) where
  pub write_one : (y : Refusal) → Owed (write_objections base r room) write_codes x → Owed (write_objections base r room) write_codes y → x ≡ y
  write_one y = owed_one (write_objections base r room) write_codes x y refl

  pub write_at_0 : Owed (write_objections base r room) write_codes x → x.place ≡ 0
  unfolding write_objections reading_objections sound_objections check_objections
  write_at_0 = always_at_0 (write_objections base r room) write_codes x refl refl
