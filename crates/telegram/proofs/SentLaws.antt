-- A minute that is not refused: what its checks tell, the UTC of the minute that it names, and the form that is due.
use Rattle.reading.specs.Faults.{no_fault}
use Rattle.std.specs.Prelude.{None, Some}
use mathlib.Core.Bool.{Bool, true, false, not, ◌&&◌, and-false}
use mathlib.Core.Path.{◌≡◌, refl, sym, ap, ◌∙◌}
use Prim.Native.Nat.{ℕ, ◌+◌, ◌*◌, ◌≤◌, ◌<◌}
use native.Mathlib.Omega.{arith}
use lib.Dec.{eqb, leb}
use lib.IntN.{ℤ}
use borrow.Author.Tests.{ltb-false, eqb-true, le-leb, not-false}
use Rattle.laws.proofs.Bools.{both, neither}
use Rattle.calendar.specs.declared.Date.{Date}
use Rattle.calendar.specs.Calendar.{day_number, is_date}
use Rattle.calendar.proofs.DateLaws.{Real, real, is_date_lem, last_number, before_last}
use Rattle.reading.specs.declared.Utc.{Utc}
use Rattle.reading.specs.Offset.{offset_good}
use Rattle.reading.specs.Universal.{day, date_of, utc_of, minute_after, local_at, shown_at}
use Rattle.reading.specs.Years.{is_base, in_hundred}
use Rattle.reading.specs.Leap.{last_minute, closes_with_leap, leap_minute, after_leap, sixty_bad}
use Rattle.reading.specs.Checks.{hour_bad, minute_bad, no_day}
use Rattle.reading.proofs.YearLaws.{starts_between, hundred}
use Rattle.reading.proofs.CheckLaws.{first_good, is_checked}
use Rattle.reading.proofs.LocalLaws.{Next, minute_after_is, Inner, inner, local_utc, local_date, local_hour, local_minute}
use Rattle.reading.proofs.LeapLaws.{after_leap_minute}
use Rattle.dcf77.specs.Zones.{offset_in}
use Rattle.dcf77.specs.Forms.{due_long}
use Rattle.dcf77.specs.Writer.{head_bad, carry_fault}
use Rattle.dcf77.proofs.WriteLaws.{is_carried}
use Rattle.dcf77.proofs.ReadBack.{offset_fine, zero_fine}
use Rattle.summer.specs.Rules.{rule_bad}
use Rattle.telegram.specs.declared.Sent.{Sent}
use Rattle.telegram.specs.declared.Sender.{Sender}
use Rattle.telegram.specs.Telegram.{utc_sent, named_minute, named_summer, same_date, last_hour, announces_leap, closed_minute, telegram_reading, LeapSecond}
use Rattle.telegram.specs.Faults.{time_bad, leap_date_bad, outside, fault_with, send_fault}

-- ---- what the checks tell

pub record Fit (base : ℕ) (sender : Sender) (sent : Sent) (head : ℕ) : Type 0 where
  pub base_good : is_base base ≡ true
  pub rule : rule_bad sender.rule ≡ false
  pub hour : sent.hour ≤ 23
  pub minute : sent.minute ≤ 59
  pub year : in_hundred base sent.date.year ≡ true
  pub date : is_date sent.date ≡ true
  pub small : head ≤ 32767
  pub leap : leap_date_bad base sender.leap ≡ false
  pub utc_year : in_hundred base (named_minute sent).date.year ≡ true
  pub local_year : in_hundred base (telegram_reading sender sent).year ≡ true

time_good : (sent : Sent) → time_bad sent ≡ false → (sent.hour ≤ 23) × (sent.minute ≤ 59)
unfolding time_bad
time_good sent e =
    let p = neither (hour_bad sent.hour) (minute_bad sent.minute) e in
    (ltb-false 23 sent.hour p.0, ltb-false 59 sent.minute p.1)

date_good : (base : ℕ) (t : Date) → no_day base t ≡ false → (in_hundred base t.year ≡ true) × (is_date t ≡ true)
date_good base t e = both (in_hundred base t.year) (is_date t) (not-false (in_hundred base t.year && is_date t) e)

head_good : (head : ℕ) → head_bad head ≡ false → head ≤ 32767
unfolding head_bad
head_good head e = ltb-false 32767 head e

inside : (base y z : ℕ) → outside base y z ≡ false → (in_hundred base y ≡ true) × (in_hundred base z ≡ true)
unfolding outside
inside base y z e = both (in_hundred base y) (in_hundred base z) (not-false (in_hundred base y && in_hundred base z) e)

pub fit : (base : ℕ) (sender : Sender) (sent : Sent) (head : ℕ) → send_fault base sender sent head ≡ no_fault → Fit base sender sent head
unfolding send_fault fault_with
fit base sender sent head e =
    let k = first_good (not (is_base base)) _ _ e in
    let a = first_good (rule_bad sender.rule) _ _ k.1 in
    let b = first_good (time_bad sent) _ _ a.1 in
    let c = first_good (no_day base sent.date) _ _ b.1 in
    let d = first_good (head_bad head) _ _ c.1 in
    let f = first_good (leap_date_bad base sender.leap) _ _ d.1 in
    let g = first_good (outside base (named_minute sent).date.year (telegram_reading sender sent).year) _ _ f.1 in
    let t = time_good sent b.0 in
    let u = date_good base sent.date c.0 in
    let y = inside base (named_minute sent).date.year (telegram_reading sender sent).year g.0 in
    record {
      base_good = not-false _ k.0;
      rule = a.0;
      hour = t.0;
      minute = t.1;
      year = u.0;
      date = u.1;
      small = head_good head d.0;
      leap = f.0;
      utc_year = y.0;
      local_year = y.1;
    }

-- ---- the named minute

utc_minute : (sent : Sent) → (utc_sent sent).minute ≡ sent.hour * 60 + sent.minute
unfolding utc_sent
utc_minute sent = refl

-- the reading of the named minute, as far as UTC goes
same_utc : (sender : Sender) (sent : Sent) → utc_of (telegram_reading sender sent) ≡ utc_of (local_at (named_minute sent) (offset_in (named_summer sender sent)))
unfolding telegram_reading utc_of
same_utc sender sent = refl

plain_fields : (sender : Sender) (sent : Sent)
    → let r = telegram_reading sender sent in (r.second ≡ 0) × (r.quality ≡ 0) × (r.offset.0 ≡ offset_in r.summer)
unfolding telegram_reading local_at shown_at
plain_fields sender sent = (refl, refl, refl)

due_named : (sender : Sender) (sent : Sent)
    → due_long (telegram_reading sender sent) ≡ (announces_leap sender.leap (utc_sent sent) && after_leap (utc_of (telegram_reading sender sent)))
unfolding due_long telegram_reading
due_named sender sent = refl

named_is : (sent : Sent) → after_leap (named_minute sent) ≡ after_leap (minute_after (utc_sent sent))
unfolding named_minute
named_is sent = refl

same_date_lem : (s t : Date) → same_date s t ≡ true → s ≡ t
unfolding same_date
same_date_lem s t e =
    let a = both (eqb s.year t.year) (eqb s.month t.month && eqb s.day t.day) e in
    let b = both (eqb s.month t.month) (eqb s.day t.day) a.1 in
    let year = eqb-true s.year t.year a.0 in
    let month = eqb-true s.month t.month b.0 in
    let day = eqb-true s.day t.day b.1 in
    λ i. record { year = year i; month = month i; day = day i }

-- announced in the whole hour before it, the leap second closes the last minute of it
closed : (t d : Date) (m : ℕ) → closes_with_leap t ≡ true
    → ((same_date t d && leb last_hour m) && (eqb m last_minute && closes_with_leap d)) ≡ (same_date t d && eqb m last_minute)
closed t d m c = go (same_date t d) refl (eqb m last_minute) refl
  where
    go : (a : Bool) → same_date t d ≡ a → (b : Bool) → eqb m last_minute ≡ b → ((a && leb last_hour m) && (b && closes_with_leap d)) ≡ (a && b)
    go false e b f = refl
    go true e false f = and-false (leb last_hour m)
    go true e true f =
        let k = eqb-true m last_minute f in
        rw (le-leb last_hour m (omega arith)) (ap closes_with_leap (sym (same_date_lem t d e)) ∙ c)

configured : (base : ℕ) (leap : LeapSecond) (u : Utc) → leap_date_bad base leap ≡ false → (announces_leap leap u && leap_minute u) ≡ closed_minute leap u
unfolding announces_leap closed_minute leap_date_bad leap_minute
configured base None u e = refl
configured base (Some t) u e = closed t u.date u.minute (not-false (closes_with_leap t) (neither (no_day base t) (not (closes_with_leap t)) e).1)

module _ (base : ℕ) (sender : Sender) (sent : Sent) (head : ℕ) (p : Fit base sender sent head) where
  sent_real : Real (utc_sent sent).date
  unfolding utc_sent
  sent_real = real sent.date p.date

  sent_early : (utc_sent sent).minute < day
  sent_early = omega (arith, utc_minute sent, p.hour, p.minute)

  sent_before_last : day_number (utc_sent sent).date < last_number
  unfolding utc_sent
  sent_before_last = before_last sent.date (real sent.date p.date) (omega (arith, (hundred base sent.date.year p.year).1, starts_between base))

  -- "the following minute": one minute after the one that is being sent
  pub named_next : Next (utc_sent sent) (named_minute sent)
  unfolding named_minute
  named_next = minute_after_is (utc_sent sent) sent_real sent_early sent_before_last

  named_inner : Inner (named_minute sent).date
  named_inner =
      let h = hundred base (named_minute sent).date.year p.utc_year in
      inner (named_minute sent).date named_next.real (omega (arith, starts_between base)) (omega (arith, starts_between base))

  abbrev offset : ℤ
  offset = offset_in (named_summer sender sent)

  -- the UTC of the reading is the named minute
  pub utc_named : utc_of (telegram_reading sender sent) ≡ named_minute sent
  utc_named =
      same_utc sender sent
      ∙ local_utc (named_minute sent) offset named_inner named_next.minute (offset_fine (named_summer sender sent))

  -- the DCF77 writer carries the reading
  local_good : (is_date (date_of (telegram_reading sender sent)) ≡ true) × ((telegram_reading sender sent).hour ≤ 23) × ((telegram_reading sender sent).minute ≤ 59)
  unfolding telegram_reading
  local_good =
      let n = named_minute sent in
      let i = named_inner in
      let m = named_next.minute in
      let g = offset_fine (named_summer sender sent) in
      (is_date_lem (date_of (local_at n offset)) (local_date n offset i m g), local_hour n offset i m g, local_minute n offset i m g)

  pub named_carried : carry_fault base (telegram_reading sender sent) head ≡ no_fault
  named_carried =
      let r = telegram_reading sender sent in
      let l = local_good in
      let f = plain_fields sender sent in
      is_carried base r head
      (record {
        checked =
            is_checked base r
            (record {
              base_good = p.base_good;
              hour = l.1;
              minute = l.2;
              second = omega (arith, f.0);
              year = p.local_year;
              date = l.0;
              quality = omega (arith, f.1);
              offset = ap offset_good f.2 ∙ offset_fine r.summer;
              leap = ap (sixty_bad (utc_of r)) f.0 ∙ zero_fine r;
            });
        head = p.small;
        second = f.0;
        quality = f.1;
        offset = f.2;
      })

  -- ---- the form that is due

  -- 61 marks exactly where the minute that is being sent is closed by the configured leap second
  pub long_exactly : due_long (telegram_reading sender sent) ≡ closed_minute sender.leap (utc_sent sent)
  long_exactly =
      due_named sender sent
      ∙ ap (λ (u : Utc). announces_leap sender.leap (utc_sent sent) && after_leap u) utc_named
      ∙ ap (λ (after : Bool). announces_leap sender.leap (utc_sent sent) && after) named-after-leap
      ∙ configured base sender.leap (utc_sent sent) p.leap
    where
      named-after-leap : after_leap (named_minute sent) ≡ leap_minute (utc_sent sent)
      named-after-leap = named_is sent ∙ after_leap_minute (utc_sent sent) sent_real sent_early sent_before_last
