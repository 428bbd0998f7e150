-- What is carried is read back: the marks of a reading and a head say its values, and these name it. In the form that is not due they
-- are refused.
use Rattle.std.specs.Prelude.{Err, Ok}
use mathlib.Core.Bool.{Bool, true, false, not}
use mathlib.Core.List.{List}
use mathlib.Core.Path.{◌≡◌, refl, sym, ap, ◌∙◌}
use Prim.Native.Nat.{ℕ, ◌+◌, ◌*◌, ◌/◌, ◌%◌}
use native.Mathlib.Omega.{arith}
use lib.Dec.{eqb}
use lib.ListN.{length, get_or}
use Rattle.reading.specs.declared.Reading.{Reading}
use Rattle.reading.specs.declared.Fault.TheVariants.{LeapSecond}
use Rattle.reading.specs.Faults.{number}
use Rattle.reading.specs.Years.{year_of}
use Rattle.reading.proofs.CheckLaws.{checked_is}
use Rattle.reading.proofs.YearLaws.{year_back}
use Rattle.pulses.specs.Row.{row, good_pulses}
use Rattle.pulses.proofs.BitLaws.{bit_back}
use Rattle.pulses.proofs.RowLaws.{length-row, row_good}
use Rattle.dcf77_table.specs.Table.{head, weekday, zone, minute_marks}
use Rattle.dcf77_table.proofs.ValueLaws.{said_row}
use Rattle.dcf77_table.proofs.PartLaws.{Part, minute_part, hour_part, date_part}
use Rattle.dcf77.specs.Zones.{offset_in, zone_of, zone_bad}
use Rattle.dcf77.specs.Forms.{length_of, last_of, due_long}
use Rattle.dcf77.specs.Reader.{is_long, table_for, says, reading_of, length_bad, odd, read_dcf77}
use Rattle.dcf77.specs.Writer.{plain_of, evened, with_parity, values_of, bytes_of}
use Rattle.dcf77.proofs.WriteLaws.{Carried, bytes_are, length_of_marks}
use Rattle.dcf77.proofs.ParityLaws.{evened_same, evened_small, parity-even}
use Rattle.dcf77.proofs.SoundLaws.{Digits, Evens, Fields, length_against}
use Rattle.dcf77.proofs.ReadLaws.{is_read, marks-told}
use Rattle.dcf77.proofs.ValueBounds.{values_proper, parities_apart}

-- ---- zones, there and back

summer_back : (b : Bool) → eqb (zone_of b) (zone_of true) ≡ b
unfolding zone_of
summer_back true = refl
summer_back false = refl

zone_fine : (b : Bool) → zone_bad (zone_of b) ≡ false
unfolding zone_bad zone_of
zone_fine true = refl
zone_fine false = refl

long_back : (b : Bool) → is_long (length_of b) ≡ b
unfolding is_long length_of
long_back true = refl
long_back false = refl

length_fine : (b : Bool) → length_bad (length_of b) ≡ false
unfolding length_bad length_of
length_fine true = refl
length_fine false = refl

-- ---- write, read

module _ (base : ℕ) (r : Reading) (h : ℕ) (p : Carried base r h) where
  reading_back : reading_of base (values_of r h) ≡ r
  unfolding reading_of values_of with_parity plain_of
  reading_back =
      let digits : 10 * (r.year / 10 % 10) + r.year % 10 ≡ r.year % 100 = omega arith in
      let year : year_of base (10 * (r.year / 10 % 10) + r.year % 10) ≡ r.year =
      ap (λ (d : ℕ). year_of base d) digits ∙ year_back base r.year (checked_is base r p.checked).year in
      let month : 10 * (r.month / 10) + r.month % 10 ≡ r.month = omega arith in
      let day : 10 * (r.day / 10) + r.day % 10 ≡ r.day = omega arith in
      let hour : 10 * (r.hour / 10) + r.hour % 10 ≡ r.hour = omega arith in
      let minute : 10 * (r.minute / 10) + r.minute % 10 ≡ r.minute = omega arith in
      let second : 0 ≡ r.second = sym p.second in
      let quality : 0 ≡ r.quality = sym p.quality in
      let summer = summer_back r.summer in
      let offset = ap offset_in summer ∙ sym p.offset in
      let leap = bit_back r.leap in
      let change = bit_back r.change in
      λ i. record {
        year = year i;
        month = month i;
        day = day i;
        hour = hour i;
        minute = minute i;
        second = second i;
        offset = record { 0 = offset i };
        summer = summer i;
        leap = leap i;
        change = change i;
        quality = quality i;
      }

  head_back : get_or (values_of r h) head 0 ≡ h
  unfolding values_of with_parity plain_of
  head_back = refl

  digits_back : Digits (values_of r h)
  unfolding values_of with_parity plain_of
  digits_back =
      let c = checked_is base r p.checked in
      record { minute = omega arith; hour = omega arith; day = omega arith; month = omega arith; year = omega arith; decade = omega arith }

  fields_back : (long : Bool) → long ≡ due_long r → Fields r (get_or (values_of r h) weekday 0) (get_or (values_of r h) zone 0) long
  unfolding values_of with_parity plain_of
  fields_back long e =
      let c = checked_is base r p.checked in
      record { minute = c.minute; hour = c.hour; date = c.date; week = refl; zone_good = zone_fine r.summer; form = e }

  -- the marks in either form, due or not
  module _ (long : Bool) where
    marks : List ℕ
    marks = row (minute_marks long) (values_of r h)

    marks-length : length marks ≡ length_of long
    unfolding marks
    marks-length = length-row (minute_marks long) (values_of r h) ∙ length_of_marks long

    form-said : is_long (length marks) ≡ long
    form-said = rw (marks-length, long_back long)

    says_back : says marks ≡ values_of r h
    unfolding says table_for marks
    says_back = rw form-said (said_row long (values_of r h) (values_proper base r h p))

    good-back : good_pulses (table_for marks) marks ≡ length marks
    unfolding table_for marks
    good-back = rw (form-said, marks-length) (row_good (minute_marks long) (values_of r h) ∙ length_of_marks long)

    -- a part is even where the value of its parity evens the plain marks
    even-back : {a b g : ℕ} → Part a b g → get_or (values_of r h) g 0 ≡ evened a b (row (minute_marks false) (plain_of r h)) → odd a b marks ≡ false
    unfolding values_of marks
    even-back {a} {b} {g} part e =
        let v = plain_of r h in
        let w = values_of r h in
        let same = evened_same part v w (parities_apart v (row (minute_marks false) v)) in
        parity-even part long w (omega (arith, evened_small part v)) (e ∙ same)

    evens-back : Evens marks
    unfolding values_of with_parity plain_of
    evens-back = record { minute = even-back minute_part refl; hour = even-back hour_part refl; date = even-back date_part refl }

  -- in the form that is due they are read back
  due_reads : read_dcf77 base (marks (due_long r)) ≡ Ok (r, h)
  due_reads =
      let s = marks (due_long r) in
      let said = says_back (due_long r) in
      is_read base s r h (rw (marks-length (due_long r)) (length_fine (due_long r)))
      (record {
        long = rw (form-said (due_long r)) (marks-length (due_long r));
        base_good = (checked_is base r p.checked).base_good;
        good = good-back (due_long r);
        reading = rw said reading_back;
        head_is = rw said head_back;
        sound_marks = rw said (record { digits = digits_back; evens = evens-back (due_long r); fields = fields_back (is_long (length s)) (form-said (due_long r)) });
      })

  pub carried_reads : read_dcf77 base (bytes_of r h) ≡ Ok (r, h)
  unfolding marks
  carried_reads = rw (bytes_are r h) due_reads

  -- and in the other they are refused by 9 at their last place
  pub other_form : read_dcf77 base (row (minute_marks (not (due_long r))) (values_of r h)) ≡ Err (number (LeapSecond (last_of (not (due_long r)))))
  unfolding marks
  other_form =
      let long = not (due_long r) in
      let s = marks long in
      let e : length_bad (length s) ≡ false = rw (marks-length long) (length_fine long) in
      sym
      (marks-told base s e (checked_is base r p.checked).base_good (values_of r h) r (Err (LeapSecond (last_of long))) (Err (number (LeapSecond (last_of long)))) (omega (arith, good-back long)) (sym (says_back long)) (sym reading_back)
      (sym (length_against s (values_of r h) r digits_back (evens-back long) (fields_back (due_long r) refl) (form-said long)))
      refl)
