-- A run of telegrams for successive minutes, as the sender leaves them in the buffers that it is lent, and what a pulse reader owes it.
-- L8: "a run of telegrams for successive minutes, through the DCF77 pulse reader after a first gap, gives back every named minute in order".
use Rattle.reading.specs.Faults.{no_fault}
use Rattle.dcf77_stream.specs.Said.{Said}
use Rattle.std.specs.Prelude.{List, [], ◌∷◌, ◌++◌, ◌≡◌, ℕ, ◌/◌, ◌%◌, length, take, replicate, Err, None, Ok, Some}
use Rattle.reading.specs.Writing.{filled}
use Rattle.dcf77.specs.Forms.{length_of, last_of, due_long}
use Rattle.dcf77.specs.Writer.{bytes_of}
use Rattle.telegram.specs.declared.Sent.{Sent}
use Rattle.telegram.specs.declared.Sender.{Sender}
use Rattle.telegram.specs.Telegram.{named_minute, telegram_reading}
use Rattle.telegram.specs.Faults.{telegram_fault}

-- what the sender is given for each minute: a head, and a buffer
pub record Call : Type 0 where
  pub head : ℕ
  pub buffer : List ℕ

-- the minute to be sent after a minute
unfoldable pub sent_after : Sent → Sent
sent_after sent = record { date = (named_minute sent).date; hour = (named_minute sent).minute / 60; minute = (named_minute sent).minute % 60 }

-- what the sender leaves of a telegram
unfoldable pub telegram_of : ℕ → Sender → Sent → Call → List ℕ
telegram_of base sender sent call =
    take (length_of (due_long (telegram_reading sender sent)))
    (filled (telegram_fault base sender sent call.head (length call.buffer)) (bytes_of (telegram_reading sender sent) call.head) call.buffer)

-- the telegrams of successive minutes, from a minute on
unfoldable pub telegrams_from : ℕ → Sender → Sent → List Call → List ℕ
telegrams_from base sender sent [] = []
telegrams_from base sender sent (call ∷ calls) = telegram_of base sender sent call ++ telegrams_from base sender (sent_after sent) calls

-- none of them is refused
abbrev pub NoneRefused : ℕ → Sender → Sent → List Call → Type 0
NoneRefused base sender sent [] = Unit {0}
NoneRefused base sender sent (call ∷ calls) =
    (telegram_fault base sender sent call.head (length call.buffer) ≡ no_fault) × NoneRefused base sender (sent_after sent) calls

-- the named minutes with their heads, in order
unfoldable pub named_from : Sender → Sent → List Call → List Said
named_from sender sent [] = []
named_from sender sent (call ∷ calls) = Some (Ok ((telegram_reading sender sent), call.head)) ∷ named_from sender (sent_after sent) calls

-- an answer to each symbol: each named minute at its telegram's last, and nothing else
unfoldable pub said_from : Sender → Sent → List Call → List Said
said_from sender sent [] = []
said_from sender sent (call ∷ calls) =
    replicate (last_of (due_long (telegram_reading sender sent))) None
    ++ (Some (Ok ((telegram_reading sender sent), call.head)) ∷ said_from sender (sent_after sent) calls)

-- the answers that say something
unfoldable pub spoken : List Said → List Said
spoken [] = []
spoken (None ∷ rest) = spoken rest
spoken (Some (Ok (r, head)) ∷ rest) = Some (Ok (r, head)) ∷ spoken rest
spoken (Some (Err x) ∷ rest) = Some (Err x) ∷ spoken rest
