-- Through any changes of zone and any leap second: a fresh pulse reader that is fed a gap and then the telegrams of successive minutes says
-- every named minute with its head, in order, each at its telegram's last symbol, and nothing else.
use Rattle.reading.specs.Faults.{no_fault}
use Rattle.std.specs.Prelude.{None, Ok, Some}
use mathlib.Core.List.{List, [], ◌∷◌, ◌++◌, append_assoc}
use mathlib.Core.Path.{◌≡◌, refl, ap, ap₂, ◌∙◌}
use Prim.Native.Nat.{ℕ, zero, suc, ◌+◌, ◌*◌, ◌/◌, ◌%◌}
use native.Mathlib.Omega.{arith}
use lib.ListN.{length, replicate}
use lib.Seq.{take_at}
use Rattle.reading.specs.declared.Reading.{Reading}
use Rattle.dcf77.specs.Forms.{length_of, last_of, due_long}
use Rattle.dcf77.specs.Writer.{bytes_of, carry_fault}
use Rattle.dcf77.proofs.WriteLaws.{length-bytes}
use Rattle.streams.specs.Stream.{owed_to}
use Rattle.streams.proofs.Runs.{owed-append}
use Rattle.dcf77_stream.specs.Said.{owed, answers, Said}
use Rattle.dcf77_stream.specs.Ending.{gapless}
use Rattle.dcf77_stream.proofs.SinceGap.{nothing_at_first_gap}
use Rattle.dcf77_stream.proofs.StreamLaws.{fresh_says_owed}
use Rattle.dcf77_stream.proofs.MinutesTold.{marks_of}
use Rattle.dcf77_stream.proofs.RunLaws.{minute_answers, gap_again}
use Rattle.telegram.specs.declared.Sent.{Sent}
use Rattle.telegram.specs.declared.Sender.{Sender}
use Rattle.telegram.specs.Telegram.{utc_sent, named_minute, telegram_reading}
use Rattle.telegram.specs.Faults.{telegram_fault}
use Rattle.telegram.proofs.SentLaws.{fit, named_carried}
use Rattle.telegram.proofs.TelegramLaws.{not-refused}
use Rattle.telegram_run.specs.Run.{Call, sent_after, telegram_of, telegrams_from, NoneRefused, named_from, said_from, spoken}

-- the minute that is sent next is the one that was named
pub successive : (sent : Sent) → utc_sent (sent_after sent) ≡ named_minute sent
unfolding utc_sent sent_after
successive sent =
    let m : (named_minute sent).minute / 60 * 60 + (named_minute sent).minute % 60 ≡ (named_minute sent).minute = omega arith in
    λ i. record { date = (named_minute sent).date; minute = m i }

module _ (base : ℕ) (sender : Sender) where
  module _ (sent : Sent) (call : Call) (good : telegram_fault base sender sent call.head (length call.buffer) ≡ no_fault) where
    abbrev r : Reading
    r = telegram_reading sender sent

    -- what the sender leaves are the marks of the reading
    pub telegram-is : telegram_of base sender sent call ≡ bytes_of r call.head
    unfolding telegram_of
    telegram-is = rw good (take_at (bytes_of r call.head) _ (length_of (due_long r)) (length-bytes r call.head))

    carried : carry_fault base r call.head ≡ no_fault
    carried = named_carried base sender sent call.head (fit base sender sent call.head (not-refused base sender sent call.head (length call.buffer) good))

  run_from : (before : List ℕ) (sent : Sent) (calls : List Call) → NoneRefused base sender sent calls
      → owed_to (owed base) (before ++ (2 ∷ [])) (telegrams_from base sender sent calls) ≡ said_from sender sent calls
  unfolding owed_to telegrams_from said_from
  run_from before sent [] p = refl
  run_from before sent (call ∷ calls) p =
      let r = telegram_reading sender sent in
      let c = carried sent call p.0 in
      let since = before ++ (2 ∷ []) in
      let marks = marks_of r call.head in
      let rest = telegrams_from base sender (sent_after sent) calls in
      ap (λ (s : List ℕ). owed_to (owed base) since (s ++ rest)) (telegram-is sent call p.0)
      ∙ owed-append (owed base) since (bytes_of r call.head) rest
      ∙ ap₂ ◌++◌ (minute_answers base r call.head c before)
      (ap (λ (s : List ℕ). owed_to (owed base) s rest) (gap_again base r call.head c before)
      ∙ run_from (since ++ marks) (sent_after sent) calls p.1)
      ∙ append_assoc (replicate (last_of (due_long r)) None) (Some (Ok (r, call.head)) ∷ []) (said_from sender (sent_after sent) calls)

  -- every answer, symbol by symbol
  pub run_told : (sent : Sent) (calls : List Call) → NoneRefused base sender sent calls
      → answers base (2 ∷ telegrams_from base sender sent calls) ≡ None ∷ said_from sender sent calls
  unfolding owed_to gapless
  run_told sent calls p =
      fresh_says_owed base (2 ∷ telegrams_from base sender sent calls)
      ∙ ap₂ ◌∷◌ (nothing_at_first_gap base [] refl) (run_from [] sent calls p)

-- ---- what is said at all

silent_first : (n : ℕ) (rest : List Said) → spoken (replicate n None ++ rest) ≡ spoken rest
unfolding spoken
silent_first zero rest = refl
silent_first (suc n) rest = silent_first n rest

spoken_run : (sender : Sender) (sent : Sent) (calls : List Call) → spoken (said_from sender sent calls) ≡ named_from sender sent calls
unfolding spoken said_from named_from
spoken_run sender sent [] = refl
spoken_run sender sent (call ∷ calls) =
    let r = telegram_reading sender sent in
    silent_first (last_of (due_long r)) (Some (Ok (r, call.head)) ∷ said_from sender (sent_after sent) calls)
    ∙ ap (λ (l : List Said). Some (Ok (r, call.head)) ∷ l) (spoken_run sender (sent_after sent) calls)

-- "gives back every named minute in order"
pub run_in_order : (base : ℕ) (sender : Sender) (sent : Sent) (calls : List Call) → NoneRefused base sender sent calls
    → spoken (answers base (2 ∷ telegrams_from base sender sent calls)) ≡ named_from sender sent calls
unfolding spoken
run_in_order base sender sent calls p = ap spoken (run_told base sender sent calls p) ∙ spoken_run sender sent calls
