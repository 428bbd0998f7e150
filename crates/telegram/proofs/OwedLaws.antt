-- The code and place of each refusal: the first of the order of the codes whose condition holds, at place 0.
use mathlib.Core.Path.{◌≡◌, refl}
use Prim.Native.Nat.{ℕ}
use Rattle.reading.specs.declared.Refusal.{Refusal}
use Rattle.reading.specs.Writing.{written_of}
use Rattle.reading.specs.Refusals.{Owed}
use Rattle.reading.specs.Objections.{WrittenOwed}
use Rattle.reading.proofs.RefusalLaws.{Through, none, judged, always_at_0, verdict_owed}
use Rattle.reading.proofs.OneDue.{owed_one}
use Rattle.reading.proofs.OwedLaws.{written_owed}
use Rattle.dcf77.specs.Forms.{length_of, due_long}
use Rattle.dcf77.specs.Writer.{room_fault}
use Rattle.telegram.specs.declared.Sent.{Sent}
use Rattle.telegram.specs.declared.Sender.{Sender}
use Rattle.telegram.specs.Telegram.{telegram_reading}
use Rattle.telegram.specs.Faults.{fault_with, send_fault, telegram_fault}
use Rattle.telegram.specs.Objections.{send_objections, send_codes}

module _ (base : ℕ) (sender : Sender) (sent : Sent) (head room : ℕ) where
  send_through : Through (send_objections base sender sent head room) (telegram_fault base sender sent head room)
  unfolding send_objections telegram_fault room_fault send_fault fault_with
  send_through = search (judged, none) depth 20

  pub send_owed : WrittenOwed (send_objections base sender sent head room) send_codes (written_of (telegram_fault base sender sent head room) (length_of (due_long (telegram_reading sender sent))))
  unfolding send_objections
  send_owed =
      written_owed (send_objections base sender sent head room) send_codes (telegram_fault base sender sent head room)
      (length_of (due_long (telegram_reading sender sent))) (verdict_owed send_codes send_through refl refl)

  -- which fixes the refusal, at place 0
  pub send_one : (x y : Refusal) → Owed (send_objections base sender sent head room) send_codes x → Owed (send_objections base sender sent head room) send_codes y → x ≡ y
  send_one x y = owed_one (send_objections base sender sent head room) send_codes x y refl

  pub send_at_0 : (x : Refusal) → Owed (send_objections base sender sent head room) send_codes x → x.place ≡ 0
  unfolding send_objections
  send_at_0 x = always_at_0 (send_objections base sender sent head room) send_codes x refl refl
