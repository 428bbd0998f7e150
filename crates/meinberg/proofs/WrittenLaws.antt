-- The bytes that are written, read: each is allowed where it stands, and they say the reading that they were written for.
use mathlib.Core.Bool.{Bool, true, false}
use mathlib.Core.List.{List, [], ◌∷◌}
use mathlib.Core.Path.{◌≡◌, refl, ap, ◌∙◌}
use Prim.Native.Nat.{ℕ, ◌<◌}
use native.Mathlib.Omega.{arith}
use lib.Dec.{T, eqb, leb, leb→le, ltb, ltb→lt}
use lib.ListN.{length, get_or}
use Rattle.laws.specs.Tests.{below}
use Rattle.laws.proofs.Tested.{at}
use Rattle.calendar.specs.declared.Date.{Date}
use Rattle.calendar.specs.Calendar.{leap_year, days_in, is_date, weekday_of}
use Rattle.calendar.proofs.DateLaws.{real, month_of}
use Rattle.calendar.proofs.WeekdayLaws.{weekday_range}
use Rattle.reading.specs.declared.Reading.{Reading}
use Rattle.reading.specs.Universal.{date_of}
use Rattle.reading.specs.Years.{year_of}
use Rattle.reading.proofs.CheckLaws.{Checked}
use Rattle.reading.proofs.YearLaws.{year_back}
use Rattle.wire.specs.Digits.{digit, pair, tens, ones}
use Rattle.wire.specs.Layout.{exactly, either, allowed, good_places}
use Rattle.wire.proofs.DigitLaws.{tens_is_digit, ones_is_digit, pair_of}
use Rattle.wire.proofs.EntryLaws.{exactly_allows, from_allows, either_allows, one_of_allows}
use Rattle.meinberg.specs.Layout.{
  text_length,
  stx,
  etx,
  space,
  bang,
  hash,
  star,
  dot,
  colon,
  semicolon,
  letter_a,
  letter_d,
  letter_s,
  letter_t,
  letter_u,
  digit as digitEntry,
  layout,
  places,
  year_place,
}
use Rattle.meinberg.specs.Meaning.{coasting_in, meaning}
use Rattle.meinberg.specs.Writing.{mark, year_digits, bytes_of}
use Rattle.meinberg.proofs.ZoneLaws.{zone_back, letter_is}
use Rattle.meinberg.proofs.FieldLaws.{digit_of_ones, mark_is, quality_back, coasting_back, announcement_is, announced_back}
use Rattle.meinberg.proofs.WriteLaws.{Carried, bytes-length}

-- ---- each byte is allowed

fixed : (b : ℕ) → T (ltb b 256) → allowed (exactly b) b ≡ true
fixed b t = exactly_allows b b (ltb→lt b 256 t) refl

tens_allowed : (v : ℕ) → allowed digitEntry (tens v) ≡ true
tens_allowed v = from_allows 48 57 (tens v) (omega arith) (tens_is_digit v).0 (tens_is_digit v).1

ones_allowed : (v : ℕ) → allowed digitEntry (ones v) ≡ true
ones_allowed v = from_allows 48 57 (ones v) (omega arith) (ones_is_digit v).0 (ones_is_digit v).1

mark_allowed : (flag : Bool) (letter : ℕ) → T (ltb letter 256) → allowed (either letter space) (mark flag letter) ≡ true
mark_allowed flag letter t = either_allows letter space (mark flag letter) (ltb→lt letter 256 t) (omega arith) (mark_is flag letter)

-- each byte of a text is allowed by the entry at its place
infixr 20 ◌▸◌
data Allowed : List ℕ → List ℕ → Type 0 where
  end : Allowed [] []
  ◌▸◌ : {e b : ℕ} {l t : List ℕ} → allowed e b ≡ true → Allowed l t → Allowed (e ∷ l) (b ∷ t)

all-good : {l t : List ℕ} → Allowed l t → good_places l t ≡ length t
unfolding good_places
all-good end = refl
all-good (p ▸ q) = rw (p, all-good q)

module _ (r : Reading) (coasting : Bool) where
  each_allowed : Allowed layout (bytes_of r coasting)
  unfolding layout bytes_of
  each_allowed =
      fixed stx tt
      ▸ fixed letter_d tt ▸ fixed colon tt ▸ tens_allowed r.day ▸ ones_allowed r.day
      ▸ fixed dot tt ▸ tens_allowed r.month ▸ ones_allowed r.month
      ▸ fixed dot tt ▸ tens_allowed (year_digits r.year) ▸ ones_allowed (year_digits r.year) ▸ fixed semicolon tt
      ▸ fixed letter_t tt ▸ fixed colon tt ▸ ones_allowed (weekday_of (date_of r)) ▸ fixed semicolon tt
      ▸ fixed letter_u tt ▸ fixed colon tt ▸ tens_allowed r.hour ▸ ones_allowed r.hour
      ▸ fixed dot tt ▸ tens_allowed r.minute ▸ ones_allowed r.minute
      ▸ fixed dot tt ▸ tens_allowed r.second ▸ ones_allowed r.second ▸ fixed semicolon tt
      ▸ mark_allowed (eqb r.quality 15) hash tt ▸ mark_allowed coasting star tt
      ▸ one_of_allows letter_u space letter_s _ (omega arith) (omega arith) (letter_is r.offset.0 r.summer)
      ▸ one_of_allows bang letter_a space _ (omega arith) (omega arith) (announcement_is r.change r.leap)
      ▸ fixed etx tt
      ▸ end

  pub bytes_allowed : good_places layout (bytes_of r coasting) ≡ text_length
  bytes_allowed = all-good each_allowed ∙ bytes-length r coasting

-- ---- what they say

-- the month and the day of a date have two digits
longest : (l : Bool) → T (below (λ m. leb (days_in l m) 31) 13)
unfolding days_in
longest true = tt
longest false = tt

two_digit_date : (t : Date) → is_date t ≡ true → (t.month < 100) × (t.day < 100)
two_digit_date t e =
    let p = real t e in
    let l = leap_year t.year in
    let m = month_of t p in
    let top = leb→le (days_in l t.month) 31 (at (λ m. leb (days_in l m) 31) 13 (longest l) t.month (omega arith)) in
    (omega arith, omega (arith, p.last))

module _ (base : ℕ) (r : Reading) (coasting : Bool) (checked : Checked base r) (carried : Carried r) where
  year_said : year_of base (pair (bytes_of r coasting) year_place) ≡ r.year
  unfolding bytes_of
  year_said =
      ap (year_of base) (pair_of (bytes_of r coasting) year_place (year_digits r.year) (omega arith) refl refl)
      ∙ year_back base r.year checked.year

  pub meaning_back : meaning base (bytes_of r coasting) ≡ r
  unfolding meaning bytes_of
  meaning_back =
      let s = bytes_of r coasting in
      let date = two_digit_date (date_of r) checked.date in
      let month = pair_of s places.month r.month date.0 refl refl in
      let day = pair_of s places.day r.day date.1 refl refl in
      let hour = pair_of s places.hour r.hour (omega (arith, checked.hour)) refl refl in
      let minute = pair_of s places.minute r.minute (omega (arith, checked.minute)) refl refl in
      let second = pair_of s places.second r.second (omega (arith, checked.second)) refl refl in
      let zone = zone_back r.offset.0 r.summer carried.zone in
      let announced = announced_back r.change r.leap carried.announced in
      let quality = quality_back r.quality checked.quality carried.quality in
      λ i. record {
        year = year_said i;
        month = month i;
        day = day i;
        hour = hour i;
        minute = minute i;
        second = second i;
        offset = record { 0 = zone.0 i };
        summer = zone.1 i;
        leap = announced.1 i;
        change = announced.0 i;
        quality = quality i;
      }

  pub coasting_said_lem : coasting_in (bytes_of r coasting) ≡ coasting
  unfolding coasting_in bytes_of
  coasting_said_lem = coasting_back coasting

  pub weekday_said_lem : digit (get_or (bytes_of r coasting) places.weekday 0) ≡ weekday_of (date_of r)
  unfolding bytes_of
  weekday_said_lem = digit_of_ones (weekday_of (date_of r)) (omega (arith, weekday_range (date_of r)))
