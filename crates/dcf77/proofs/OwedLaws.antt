-- The code and place of each refusal: the first of the order of the codes whose condition holds, and its lowest place.
use Rattle.reading.specs.Faults.{Verdict}
use Rattle.std.specs.Prelude.{Err, Ok}
use mathlib.Core.List.{List}
use mathlib.Core.Path.{◌≡◌, refl}
use Prim.Native.Nat.{ℕ}
use lib.ListN.{get_or}
use Rattle.reading.specs.declared.Reading.{Reading}
use Rattle.reading.specs.declared.Refusal.{Refusal}
use Rattle.reading.specs.Writing.{written_of}
use Rattle.reading.specs.Refusals.{Objection, Owed}
use Rattle.reading.specs.Objections.{check_objections, WrittenOwed}
use Rattle.reading.proofs.RefusalLaws.{Through, none, judged, judged_then, VerdictOwed, always_at_0, verdict_owed}
use Rattle.reading.proofs.OneDue.{owed_one}
use Rattle.reading.proofs.OwedLaws.{written_owed}
use Rattle.dcf77_table.specs.Table.{head}
use Rattle.dcf77.specs.Forms.{length_of, due_long}
use Rattle.dcf77.specs.Reader.{says, reading_of, digit_fault, parity_fault, field_fault, rule_fault, said_fault, read_fault, answer_of, read_dcf77}
use Rattle.dcf77.specs.Writer.{checked_with, carry_fault, room_fault, write_fault}
use Rattle.dcf77.specs.Objections.{said_objections, read_objections, write_objections, read_codes, write_codes, AnswerOwed}

answer_owed : (l : List Objection) (codes : List ℕ) (v : Verdict) (r : Reading) (h : ℕ) → VerdictOwed l codes v → AnswerOwed l codes (answer_of v r h)
answer_owed l codes (Ok done) r h p = p
answer_owed l codes (Err x) r h p = p

read_through : (base : ℕ) (s : List ℕ) → Through (read_objections base s) (read_fault base s)
unfolding read_objections said_objections read_fault said_fault digit_fault parity_fault field_fault rule_fault
read_through base s = search (judged, judged_then, none) depth 40

pub read_owed : (base : ℕ) (s : List ℕ) → AnswerOwed (read_objections base s) read_codes (read_dcf77 base s)
unfolding read_dcf77 read_objections said_objections
read_owed base s =
    answer_owed (read_objections base s) read_codes (read_fault base s) (reading_of base (says s)) (get_or (says s) head 0)
    (verdict_owed read_codes (read_through base s) refl refl)

module _ (base : ℕ) (r : Reading) (h room : ℕ) where
  write_through : Through (write_objections base r h room) (write_fault base r h room)
  unfolding write_objections check_objections write_fault room_fault carry_fault checked_with
  write_through = search (judged, judged_then, none) depth 20

  pub write_owed : WrittenOwed (write_objections base r h room) write_codes (written_of (write_fault base r h room) (length_of (due_long r)))
  unfolding write_objections check_objections
  write_owed =
      written_owed (write_objections base r h room) write_codes (write_fault base r h room) (length_of (due_long r))
      (verdict_owed write_codes write_through refl refl)

-- ---- which fixes the refusal, and a writer's is at place 0

pub read_one : (base : ℕ) (s : List ℕ) (x y : Refusal) → Owed (read_objections base s) read_codes x → Owed (read_objections base s) read_codes y → x ≡ y
read_one base s x y = owed_one (read_objections base s) read_codes x y refl

module _ (base : ℕ) (r : Reading) (h room : ℕ) (x : Refusal) where
  pub write_one : (y : Refusal) → Owed (write_objections base r h room) write_codes x → Owed (write_objections base r h room) write_codes y → x ≡ y
  write_one y = owed_one (write_objections base r h room) write_codes x y refl

  pub write_at_0 : Owed (write_objections base r h room) write_codes x → x.place ≡ 0
  unfolding write_objections check_objections
  write_at_0 = always_at_0 (write_objections base r h room) write_codes x refl refl
