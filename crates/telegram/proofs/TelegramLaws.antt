-- Every telegram that is not refused is a minute of DCF77 that reads back, for any base year: the promises, over the definitions that the
-- contract of `Sender::write` cites.
use Rattle.reading.specs.Faults.{first, Verdict, no_fault}
use Rattle.std.specs.Prelude.{Err, Ok}
use mathlib.Core.Bool.{Bool, true, not, ◌&&◌, false}
use mathlib.Core.List.{List}
use mathlib.Core.Path.{◌≡◌, refl, ap, ◌∙◌}
use Prim.Native.Nat.{ℕ, ◌≤◌, ◌<◌}
use lib.Dec.{leb, ltb}
use borrow.Author.Tests.{ltb-true, ltb-false}
use lib.ListN.{length, take}
use Rattle.reading.specs.Years.{is_base}
use Rattle.reading.specs.declared.Refusal.{Refusal}
use Rattle.reading.specs.declared.Fault.{Fault}
use Rattle.reading.specs.declared.Fault.TheVariants.{Length as Short, OtherBase}
use Rattle.reading.specs.Universal.{utc_of}
use Rattle.reading.specs.Writing.{and_then, written_of, filled}
use Rattle.reading.proofs.CheckLaws.{first_good}
use Rattle.reading.proofs.LocalLaws.{Next}
use Rattle.dcf77.specs.Forms.{short_length, length_of, due_long}
use Rattle.dcf77.specs.Reader.{read_dcf77}
use Rattle.dcf77.specs.Writer.{bytes_of, needed, room_fault, write_fault}
use Rattle.dcf77.proofs.LengthLaws.{room_short, room_own, room-all}
use Rattle.reading.proofs.WrittenLaws.{length_is, untouched}
use Rattle.dcf77.proofs.RoundTrip.{written_reads}
use Rattle.summer.specs.Changes.{change_date, change_minute, is_summer}
use Rattle.summer.proofs.ChangeLaws.{counted, summer_between}
use Rattle.telegram.specs.declared.Sent.{Sent}
use Rattle.telegram.specs.declared.Sender.{Sender}
use Rattle.telegram.specs.Telegram.{utc_sent, named_minute, named_summer, closed_minute, telegram_reading}
use Rattle.telegram.specs.Faults.{send_fault, telegram_fault, fault_with}
use Rattle.telegram.proofs.SentLaws.{Fit, fit, named_next, utc_named, named_carried, long_exactly}

-- ---- the telegram is what the DCF77 writer writes

module _ (base : ℕ) (sender : Sender) (sent : Sent) (head : ℕ) where
  -- where the sent minute is not refused, all is as the DCF77 writer has it of the reading of the named minute, room included
  pub as_written : (room : ℕ) → send_fault base sender sent head ≡ no_fault
      → telegram_fault base sender sent head room ≡ write_fault base (telegram_reading sender sent) head room
  unfolding telegram_fault write_fault
  as_written room e = rw (e, named_carried base sender sent head (fit base sender sent head e))

-- a verdict with room for it is good where the verdict is
room_good : (v : Verdict) (long : Bool) (room : ℕ) → room_fault v long room ≡ no_fault → v ≡ no_fault
unfolding room_fault
room_good v long room e = (first_good (ltb room (needed v long)) Short v e).1

pub not-refused : (base : ℕ) (sender : Sender) (sent : Sent) (head room : ℕ) → telegram_fault base sender sent head room ≡ no_fault → send_fault base sender sent head ≡ no_fault
unfolding telegram_fault
not-refused base sender sent head room e = room_good (send_fault base sender sent head) (due_long (telegram_reading sender sent)) room e

-- ---- the room that the sender asks for

module _ (base : ℕ) (sender : Sender) (sent : Sent) (head : ℕ) where
  abbrev due : Bool
  due = due_long (telegram_reading sender sent)

  -- fewer than 60 bytes are too few for anything
  pub too_few_bytes : (room : ℕ) → room < short_length → telegram_fault base sender sent head room ≡ Err Short
  unfolding telegram_fault
  too_few_bytes room h = room_short due room (send_fault base sender sent head) h

  -- "A refused minute needs 60 bytes of output": with these it has its own code
  pub own_code : (room : ℕ) (x : Fault) → send_fault base sender sent head ≡ Err x → short_length ≤ room → telegram_fault base sender sent head room ≡ Err x
  unfolding telegram_fault
  own_code room x e h = rw e (room_own due room x h)

  -- the checks in the order in which the code makes them: the room for any minute, the sender's own, and then the writer's
  pub in_steps : (room : ℕ) → telegram_fault base sender sent head room
      ≡ first (ltb room short_length) Short (and_then (send_fault base sender sent head) (write_fault base (telegram_reading sender sent) head room))
  in_steps room = by (send_fault base sender sent head) refl (ltb room short_length) refl
    where
      by : (v : Verdict) → send_fault base sender sent head ≡ v → (few : Bool) → ltb room short_length ≡ few
          → telegram_fault base sender sent head room ≡ first few Short (and_then v (write_fault base (telegram_reading sender sent) head room))
      by v e true f = too_few_bytes room (ltb-true room short_length f)
      by (Err x) e false f = own_code room x e (ltb-false room short_length f)
      by (Ok done) e false f = as_written base sender sent head room e

  -- and they are too few for a long minute that is accepted
  pub long_needs_all : send_fault base sender sent head ≡ no_fault → due ≡ true → telegram_fault base sender sent head short_length ≡ Err Short
  unfolding telegram_fault
  long_needs_all e k = rw (e, k) room-all

-- "any other base .. is 19, straight after 1", and so before a rule of summer time
other_base_sent : (base : ℕ) (sender : Sender) (sent : Sent) (head : ℕ) → is_base base ≡ false → send_fault base sender sent head ≡ Err OtherBase
unfolding send_fault fault_with
other_base_sent base sender sent head g = rw g

pub other_base_refused : (base : ℕ) (sender : Sender) (sent : Sent) (head room : ℕ) → is_base base ≡ false → short_length ≤ room
    → telegram_fault base sender sent head room ≡ Err OtherBase
other_base_refused base sender sent head room g h = own_code base sender sent head room OtherBase (other_base_sent base sender sent head g) h

summer_is : (sender : Sender) (sent : Sent) → (telegram_reading sender sent).summer ≡ is_summer sender.rule (named_minute sent).date (named_minute sent).minute
unfolding telegram_reading named_summer
summer_is sender sent = refl

-- ---- over the contract: what stands in the buffer after a telegram was written

module _ (base : ℕ) (sender : Sender) (sent : Sent) (head : ℕ) (out : List ℕ) where
  abbrev verdict : Verdict
  verdict = telegram_fault base sender sent head (length out)

  module _ (n : ℕ) (wrote : written_of verdict (length_of (due_long (telegram_reading sender sent))) ≡ Ok n) where
    abbrev good : send_fault base sender sent head ≡ no_fault
    good = not-refused base sender sent head (length out) (length_is verdict (length_of (due_long (telegram_reading sender sent))) n wrote).0

    abbrev p : Fit base sender sent head
    p = fit base sender sent head good

    abbrev same : verdict ≡ write_fault base (telegram_reading sender sent) head (length out)
    same = as_written base sender sent head (length out) good

    -- it is read as the reading of the named minute, with its head
    pub telegram-reads : read_dcf77 base (take n (filled verdict (bytes_of (telegram_reading sender sent) head) out)) ≡ Ok ((telegram_reading sender sent), head)
    telegram-reads = rw same (written_reads base (telegram_reading sender sent) head out n (rw same at wrote))

    -- whose UTC is one minute after the one that is being sent
    pub telegram-utc : Next (utc_sent sent) (utc_of (telegram_reading sender sent))
    telegram-utc = rw (utc_named base sender sent head p) (named_next base sender sent head p)

    -- which is summer exactly from the change of spring, included, to the change of autumn, excluded
    pub telegram-summer : let u = utc_of (telegram_reading sender sent) in (telegram_reading sender sent).summer
        ≡ (leb (counted (change_date sender.rule.start u.date.year) change_minute) (counted u.date u.minute)
        && not (leb (counted (change_date sender.rule.end u.date.year) change_minute) (counted u.date u.minute)))
    telegram-summer =
        rw (utc_named base sender sent head p)
        (summer_is sender sent ∙ summer_between sender.rule (named_minute sent).date (named_minute sent).minute p.rule)

    -- and which is long exactly where the minute that is being sent is 23:59 of the leap second's day
    pub telegram-long : n ≡ length_of (closed_minute sender.leap (utc_sent sent))
    telegram-long =
        (length_is verdict (length_of (due_long (telegram_reading sender sent))) n wrote).1
        ∙ ap length_of (long_exactly base sender sent head p)

  -- a refusal leaves the buffer as it was
  pub refused_untouched : (x : Refusal) → written_of verdict (length_of (due_long (telegram_reading sender sent))) ≡ Err x
      → filled verdict (bytes_of (telegram_reading sender sent) head) out ≡ out
  refused_untouched x e = untouched verdict (length_of (due_long (telegram_reading sender sent))) (bytes_of (telegram_reading sender sent) head) out x e
