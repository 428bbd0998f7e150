-- The values that a carried reading and head have the groups say: they fit the marks, and the plain ones are left as they are
-- by the parities.
use mathlib.Core.Bool.{Bool, true, false}
use mathlib.Core.List.{List}
use mathlib.Core.Path.{◌≡◌, refl, sym, subst, ◌∙◌}
use Prim.Native.Nat.{ℕ, ◌^◌, ◌<◌, ◌≤◌}
use native.Mathlib.Omega.{arith}
use lib.Dec.{T, leb, leb→le}
use lib.ListN.{get_or, set}
use lib.Seq.{get_or-set_other}
use Rattle.laws.specs.Tests.{below}
use Rattle.laws.proofs.Tested.{at}
use Rattle.calendar.specs.Calendar.{leap_year, days_in, is_date}
use Rattle.calendar.proofs.DateLaws.{real, month_of}
use Rattle.calendar.proofs.WeekdayLaws.{weekday_range}
use Rattle.reading.specs.declared.Reading.{Reading}
use Rattle.reading.specs.Universal.{date_of}
use Rattle.reading.proofs.CheckLaws.{checked_is}
use Rattle.pulses.specs.Row.{groups}
use Rattle.pulses.proofs.BitLaws.{bit_small}
use Rattle.dcf77_table.specs.Table.{minute_parity, hour_parity, date_parity}
use Rattle.dcf77_table.specs.Values.{widths, Proper}
use Rattle.dcf77_table.proofs.Family.{Each, each}
use Rattle.dcf77_table.proofs.PartLaws.{is_plain, SamePlain, minute_part, hour_part, date_part}
use Rattle.dcf77.specs.Zones.{zone_of}
use Rattle.dcf77.specs.Writer.{plain_of, evened, with_parity, values_of}
use Rattle.dcf77.proofs.WriteLaws.{Carried}
use Rattle.dcf77.proofs.ParityLaws.{evened_small}

-- ---- a date's day and month as numbers

longest : (l : Bool) → T (below (λ m. leb (days_in l m) 31) 13)
unfolding days_in
longest true = tt
longest false = tt

pub month_and_day : (r : Reading) → is_date (date_of r) ≡ true → (r.month ≤ 12) × (r.day ≤ 31)
month_and_day r e =
    let p = real (date_of r) e in
    let m = month_of (date_of r) p in
    let l = leap_year r.year in
    let d = leb→le (days_in l r.month) 31 (at (λ m. leb (days_in l m) 31) 13 (longest l) r.month (omega arith)) in
    (m.1, omega (arith, p.last))

-- ---- the values fit

zone_small : (b : Bool) → zone_of b < 4
unfolding zone_of
zone_small true = omega arith
zone_small false = omega arith

pub values_proper : (base : ℕ) (r : Reading) (h : ℕ) → Carried base r h → Proper (values_of r h)
unfolding values_of with_parity plain_of widths
values_proper base r h p =
    let c = checked_is base r p.checked in
    let d = month_and_day r c.date in
    let v = plain_of r h in
    let all : Each (λ g. get_or (values_of r h) g 0 < 2 ^ get_or widths g 0) 32 =
    omega (
      arith,
      c.minute,
      c.hour,
      p.head,
      weekday_range (date_of r),
      bit_small r.change,
      bit_small r.leap,
      zone_small r.summer,
      evened_small minute_part v,
      evened_small hour_part v,
      evened_small date_part v,
    ) in
    record { long = refl; small = λ g k. each (λ g. get_or (values_of r h) g 0 < 2 ^ get_or widths g 0) groups all g k }

-- ---- the parities are set in groups of their own

plain_is_none : (g x : ℕ) → T (is_plain g) → is_plain x ≡ false → g ≡ x → ⊥
plain_is_none g x t e q = let f : is_plain g ≡ false = rw q e in subst T f t

pub parities_apart : (v s : List ℕ) → SamePlain v (with_parity v s)
unfolding with_parity is_plain
parities_apart v s g l t =
    let a = evened 21 28 s in
    let b = evened 29 35 s in
    let c = evened 36 58 s in
    sym
    (get_or-set_other (set (set v minute_parity a) hour_parity b) date_parity g c 0 (plain_is_none g date_parity t refl)
    ∙ get_or-set_other (set v minute_parity a) hour_parity g b 0 (plain_is_none g hour_parity t refl)
    ∙ get_or-set_other v minute_parity g a 0 (plain_is_none g minute_parity t refl))
