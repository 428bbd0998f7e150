-- What is read is carried, and written again: values without a fault are those of their own reading and head.
use mathlib.Core.Bool.{Bool, true, false, cond, ◌||◌}
use mathlib.Core.List.{List}
use mathlib.Core.Logic.{⊎_elim}
use mathlib.Core.Path.{◌≡◌, refl, sym, ◌∙◌}
use Prim.Native.Nat.{ℕ, ◌<◌}
use native.Mathlib.Decide.{dec_lt}
use native.Mathlib.Omega.{arith}
use borrow.Author.Tests.{eqb-true, not-false}
use lib.Dec.{eqb}
use lib.ListN.{get_or}
use Rattle.laws.proofs.Bools.{either, is_true}
use Rattle.reading.specs.declared.Reading.{Reading}
use Rattle.reading.specs.Years.{is_base}
use Rattle.reading.specs.Offset.{west, east, offset_good}
use Rattle.reading.specs.Universal.{utc_of}
use Rattle.reading.specs.Leap.{sixty_bad}
use Rattle.reading.proofs.CheckLaws.{is_checked}
use Rattle.reading.proofs.YearLaws.{year_in_lem, digits_of}
use Rattle.pulses.specs.Row.{row}
use Rattle.pulses.proofs.BitLaws.{bit_there}
use Rattle.dcf77_table.specs.Table.{head, change, zone, leap, minute_parity, hour_parity, date_parity, tens_of_years, years, minute_marks}
use Rattle.dcf77_table.specs.Values.{widths, Proper}
use Rattle.dcf77_table.proofs.Family.{Each, each}
use Rattle.dcf77_table.proofs.ValueLaws.{first_unused, same_unused, same_values}
use Rattle.dcf77_table.proofs.PartLaws.{Part, is_plain, SamePlain, minute_part, hour_part, date_part}
use Rattle.dcf77.specs.Zones.{offset_in, zone_of, zone_bad}
use Rattle.dcf77.specs.Reader.{two_digits, reading_of, odd}
use Rattle.dcf77.specs.Writer.{plain_of, evened, with_parity, values_of}
use Rattle.dcf77.proofs.WriteLaws.{Carried}
use Rattle.dcf77.proofs.ParityLaws.{evened_same, even-parity}
use Rattle.dcf77.proofs.SoundLaws.{Sound}
use Rattle.dcf77.proofs.ValueBounds.{values_proper, parities_apart}

-- ---- zones, back and there

zone_there : (z : ℕ) → zone_bad z ≡ false → zone_of (eqb z (zone_of true)) ≡ z
unfolding zone_bad zone_of
zone_there z e =
    ⊎_elim (λ q. rw q (sym (eqb-true z 1 q))) (λ q. let k = eqb-true z 2 q in rw k)
    (either (eqb z 1) (eqb z 2) (not-false (eqb z 1 || eqb z 2) e))

-- the two offsets are offsets of a reading
pub offset_fine : (b : Bool) → offset_good (offset_in b) ≡ true
unfolding offset_good offset_in west east
offset_fine true = refl
offset_fine false = refl

-- second 0 is no leap second
pub zero_fine : (r : Reading) → sixty_bad (utc_of r) 0 ≡ false
unfolding sixty_bad
zero_fine r = refl

-- ---- values without a fault

module _ (base : ℕ) (based : is_base base ≡ true) (long : Bool) (v : List ℕ) (p : Proper v) (q : Sound (row (minute_marks long) v) v (reading_of base v)) where
  abbrev r : Reading
  r = reading_of base v

  abbrev h : ℕ
  h = get_or v head 0

  pub said_carried : Carried base r h
  unfolding reading_of widths
  said_carried =
      record {
        checked =
            is_checked base r
            (record {
              base_good = based;
              hour = q.fields.hour;
              minute = q.fields.minute;
              second = omega arith;
              year = year_in_lem base (two_digits v tens_of_years years);
              date = q.fields.date;
              quality = omega arith;
              offset = offset_fine (eqb (get_or v zone 0) (zone_of true));
              leap = zero_fine r;
            });
        head = omega (arith, p.small head (omega arith));
        second = refl;
        quality = refl;
        offset = refl;
      }

  -- but for the parities, which are left 0
  plain_there : Each (λ g. get_or (plain_of r h) g 0 ≡ cond (is_plain g) (get_or v g 0) 0) first_unused
  unfolding reading_of plain_of is_plain widths
  plain_there =
      omega (
        arith,
        q.digits,
        q.fields.week,
        bit_there (get_or v change 0) (p.small change (omega arith)),
        bit_there (get_or v leap 0) (p.small leap (omega arith)),
        zone_there (get_or v zone 0) q.fields.zone_good,
        digits_of base (two_digits v tens_of_years years),
      )

  plain_same : SamePlain (plain_of r h) v
  unfolding values_of
  plain_same g l t = elim (dec_lt g first_unused) [
    | yes k ↦ each (λ g. get_or (plain_of r h) g 0 ≡ cond (is_plain g) (get_or v g 0) 0) first_unused plain_there g k ∙ rw (is_true (is_plain g) t)
    | no k ↦
        parities_apart (plain_of r h) (row (minute_marks false) (plain_of r h)) g l t
        ∙ same_unused (values_of r h) v (values_proper base r h said_carried) p g (omega arith) l
  ]

  -- a parity mark of even marks is the one that is written
  parity_there : {a b g : ℕ} → Part a b g → get_or v g 0 < 2 → odd a b (row (minute_marks long) v) ≡ false
      → evened a b (row (minute_marks false) (plain_of r h)) ≡ get_or v g 0
  parity_there part small e = evened_same part (plain_of r h) v plain_same ∙ sym (even-parity part long v small e)

  pub values_there : values_of r h ≡ v
  unfolding reading_of values_of with_parity plain_of is_plain widths
  values_there =
      same_values (values_of r h) v (values_proper base r h said_carried) p
      (omega (
        arith,
        plain_there,
        p.small 0 (omega arith),
        p.small 1 (omega arith),
        p.small 2 (omega arith),
        parity_there minute_part (p.small minute_parity (omega arith)) q.evens.minute,
        parity_there hour_part (p.small hour_parity (omega arith)) q.evens.hour,
        parity_there date_part (p.small date_parity (omega arith)) q.evens.date,
      ))
