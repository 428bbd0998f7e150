-- Three stand-ins that the contract rules out: a sender that refuses everything, one minute for all, and a sender that leaves the buffer as
-- found. Two minutes of 2024 tell them apart.
use Rattle.std.specs.Prelude.{None, Ok}
use mathlib.Core.List.{List}
use mathlib.Core.Path.{◌≡◌, refl, sym, ap, ◌∙◌}
use Prim.Native.Nat.{ℕ}
use native.Mathlib.Omega.{arith}
use lib.ListN.{length, take, replicate}
use Rattle.calendar.specs.Calendar.{leap_year, days_in, days_before, year_length, days_before_year, day_of_year, day_number, weekday_of, is_month, last_day, is_day, is_date}
use Rattle.reading.specs.declared.Reading.{Reading}
use Rattle.reading.specs.Offset.{west, east}
use Rattle.reading.specs.Years.{usual_base as base, is_base, first_year, in_hundred}
use Rattle.reading.proofs.YearLaws.{usual_base_lem}
use Rattle.reading.specs.Universal.{on_day, minute_after, within_day, local_minutes, shown_at, local_at}
use Rattle.reading.specs.Writing.{written_of, filled}
use Rattle.reading.proofs.CheckLaws.{clash}
use Rattle.dcf77.specs.Zones.{offset_in}
use Rattle.dcf77.specs.Forms.{length_of, due_long}
use Rattle.dcf77.specs.Reader.{read_dcf77}
use Rattle.dcf77.specs.Writer.{bytes_of, head_bad, needed, room_fault}
use Rattle.dcf77.proofs.StandIns.{no_marks}
use Rattle.summer.specs.Changes.{days_until, changed, is_summer, hour_before, announces_change}
use Rattle.summer.specs.Rules.{weekday_bad, date_bad, too_late, set_day_bad, day_in, crossed, rule_bad}
use Rattle.telegram.specs.declared.Sent.{Sent}
use Rattle.telegram.specs.declared.Sender.{Sender}
use Rattle.telegram.specs.Telegram.{utc_sent, named_minute, named_summer, announces_leap, telegram_reading}
use Rattle.telegram.specs.Faults.{time_bad, leap_date_bad, outside, fault_with, send_fault, telegram_fault}
use Rattle.telegram.proofs.TelegramLaws.{telegram-reads}

-- from the first Sunday at or after 25 March to the first at or after 25 October, and no leap second
abbrev plant : Sender
plant =
    record {
      rule = record { start = record { month = 3; day = 25; weekday = 7 }; end = record { month = 10; day = 25; weekday = 7 } };
      leap = None;
    }

-- so many minutes after noon of 1 January 2024
abbrev noon : ℕ → Sent
noon n = record { date = record { year = 2024; month = 1; day = 1 }; hour = 12; minute = n }

-- a buffer without a mark
abbrev blank : List ℕ
blank = replicate 60 3

-- the sender wrote so many marks, and what the buffer holds then
abbrev pub Wrote : Sender → Sent → ℕ → List ℕ → ℕ → Type 0
Wrote sender sent head out n = written_of (telegram_fault base sender sent head (length out)) (length_of (due_long (telegram_reading sender sent))) ≡ Ok n

abbrev pub after : Sender → Sent → ℕ → List ℕ → List ℕ
after sender sent head out = filled (telegram_fault base sender sent head (length out)) (bytes_of (telegram_reading sender sent) head) out

accepted : Wrote plant (noon 0) 0 blank 60 × Wrote plant (noon 1) 0 blank 60
unfolding telegram_fault room_fault needed send_fault fault_with head_bad time_bad leap_date_bad outside in_hundred
    rule_bad set_day_bad weekday_bad date_bad too_late crossed day_in
    telegram_reading named_summer named_minute utc_sent announces_leap minute_after local_at shown_at local_minutes within_day on_day west east offset_in
    is_summer changed announces_change hour_before days_until due_long length_of
    leap_year days_in days_before year_length days_before_year day_of_year day_number weekday_of is_month last_day is_day is_date first_year is_base
accepted = (refl, refl)

minutes : ((telegram_reading plant (noon 0)).minute ≡ 1) × ((telegram_reading plant (noon 1)).minute ≡ 2)
unfolding telegram_reading named_summer named_minute utc_sent minute_after local_at shown_at local_minutes within_day on_day west east offset_in
    is_summer changed days_until
    leap_year days_in days_before year_length days_before_year day_of_year day_number weekday_of
minutes = (refl, refl)

-- a sender that refuses everything
pub not-all-refused : ((sender : Sender) (sent : Sent) (head : ℕ) (out : List ℕ) (n : ℕ) → Wrote sender sent head out n → ⊥) → ⊥
not-all-refused f = f plant (noon 0) 0 blank 60 accepted.0

-- what is read of a telegram
abbrev pub Reads : Reading → Type 0
Reads r = (sender : Sender) (sent : Sent) (head : ℕ) (out : List ℕ) (n : ℕ) → Wrote sender sent head out n
    → (q : Reading) (h : ℕ) → read_dcf77 base (take n (after sender sent head out)) ≡ Ok (q, h) → q ≡ r

-- one minute for all
pub not-one_minute : (r : Reading) → Reads r → ⊥
not-one_minute r f =
    let a = f plant (noon 0) 0 blank 60 accepted.0 _ _ (telegram-reads base plant (noon 0) 0 blank 60 accepted.0) in
    let b = f plant (noon 1) 0 blank 60 accepted.1 _ _ (telegram-reads base plant (noon 1) 0 blank 60 accepted.1) in
    let m = ap (λ (q : Reading). q.minute) (a ∙ sym b) in
    omega (arith, minutes.0, minutes.1)

-- a sender that leaves the buffer as found
pub not_as_found : ((sender : Sender) (sent : Sent) (head : ℕ) (out : List ℕ) → after sender sent head out ≡ out) → ⊥
not_as_found f =
    let a : read_dcf77 base (take 60 blank) ≡ Ok ((telegram_reading plant (noon 0)), 0) =
    rw (f plant (noon 0) 0 blank) at (telegram-reads base plant (noon 0) 0 blank 60 accepted.0) in
    let z : ◌≡◌ {A = ℕ} 0 1 = cc (no_marks base usual_base_lem) in clash z
