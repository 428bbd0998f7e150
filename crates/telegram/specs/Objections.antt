-- What can be wrong with what is to be sent, with code and place: conditions and codes are L8's, and L12's before them, and "Writers keep place 0."
use Rattle.std.specs.Prelude.{List, [], ◌∷◌, ℕ, ltb}
use Rattle.reading.specs.Checks.{no_day}
use Rattle.reading.specs.Objections.{base_objection}
use Rattle.reading.specs.Refusals.{Objection, objection}
use Rattle.dcf77.specs.Forms.{due_long}
use Rattle.dcf77.specs.Writer.{head_bad, needed}
use Rattle.summer.specs.Rules.{rule_bad}
use Rattle.telegram.specs.declared.Sent.{Sent}
use Rattle.telegram.specs.declared.Sender.{Sender}
use Rattle.telegram.specs.Telegram.{named_minute, telegram_reading}
use Rattle.telegram.specs.Faults.{time_bad, leap_date_bad, outside, send_fault}

-- a minute to be sent with its head, and room for so many marks
unfoldable pub send_objections : ℕ → Sender → Sent → ℕ → ℕ → List Objection
send_objections base sender sent head room =
    objection (ltb room (needed (send_fault base sender sent head) (due_long (telegram_reading sender sent)))) 1 0
    ∷ base_objection base
    ∷ objection (rule_bad sender.rule) 18 0
    ∷ objection (time_bad sent) 15 0
    ∷ objection (no_day base sent.date) 16 0
    ∷ objection (head_bad head) 17 0
    ∷ objection (leap_date_bad base sender.leap) 9 0
    ∷ objection (outside base (named_minute sent).date.year (telegram_reading sender sent).year) 12 0
    ∷ []

-- the codes that it can be refused with
abbrev pub send_codes : List ℕ
send_codes = 1 ∷ 19 ∷ 18 ∷ 15 ∷ 16 ∷ 17 ∷ 9 ∷ 12 ∷ []
