-- The frame of a reading that a frame carries is read as that reading, and a frame that is read is the frame of its reading,
-- which it carries. Both hold for any base year.
use Rattle.reading.specs.Faults.{Verdict, no_fault}
use Rattle.std.specs.Prelude.{Err, Ok}
use mathlib.Core.Path.{◌≡◌, refl, sym, ap, subst, ◌∙◌}
use mathlib.Core.Bool.{true, false, not}
use mathlib.Core.List.{List}
use Prim.Native.Nat.{ℕ, ◌%◌, ◌<◌}
use native.Mathlib.Omega.{arith}
use borrow.Author.Tests.{eqb-true, eq-eqb, ltb-false, le-ltb, not-false}
use lib.Dec.{eqb, ltb}
use lib.ListN.{length, get_or}
use Rattle.reading.specs.declared.Reading.{Reading}
use Rattle.reading.specs.Years.{is_base}
use Rattle.reading.proofs.CheckLaws.{first_good, clash}
use Rattle.pulses.specs.Row.{good_pulses, sums_of, row, ones_from}
use Rattle.pulses.proofs.GoodLaws.{good_in_table}
use Rattle.pulses.proofs.RowLaws.{row_good}
use Rattle.pulses.proofs.TripLaws.{written_sums}
use Rattle.irig_table.specs.Table.{frame_pulses, parity}
use Rattle.irig_table.proofs.TableLaws.{frame_length_lem, frame_sound, widths}
use Rattle.irig.specs.Meaning.{said, reading_of}
use Rattle.irig.specs.Faults.{frame_length, parity_place, is_odd, fault_in, answer_of, read_frame}
use Rattle.irig.specs.Writing.{values_of, before_parity, parity_of, frame_of}
use Rattle.irig.proofs.GroupLaws.{sums_fit, sums_of_row}
use Rattle.irig.proofs.FieldLaws.{Digits, Sound, values-sound, sound-values}
use Rattle.irig.proofs.CarriedLaws.{Carried}
use Rattle.irig.proofs.ValueLaws.{values_fit, reading_back, values_digits, values_are_sound}
use Rattle.irig.proofs.AgainLaws.{reading_carried, values_again}
use Rattle.irig.proofs.ParityLaws.{same_ones, parity-pulse, parity_is, parity_small, frame_even, parity_right}
use Rattle.irig.proofs.WriteLaws.{length_frame}

-- ---- write, read

module _ (base : ℕ) (r : Reading) (c : Carried base r) where
  frame_sums : sums_of frame_pulses (frame_of r) ≡ values_of r (parity_of r)
  unfolding frame_of
  frame_sums = sums_of_row (values_of r (parity_of r)) (values_fit base r (parity_of r) c (parity_small r))

  frame_good : ltb (good_pulses frame_pulses (frame_of r)) frame_length ≡ false
  unfolding frame_of
  frame_good =
      le-ltb (good_pulses frame_pulses (row frame_pulses (values_of r (parity_of r)))) frame_length
      (omega (arith, row_good frame_pulses (values_of r (parity_of r)), frame_length_lem))

  not-odd : is_odd (frame_of r) ≡ false
  unfolding is_odd
  not-odd = rw (frame_even r)

  faultless : fault_in base (frame_of r) ≡ no_fault
  unfolding fault_in
  faultless =
      rw (eq-eqb (length (frame_of r)) frame_length (length_frame r), c.checked.base_good, frame_good, frame_sums, not-odd)
      (sound-values base (values_of r (parity_of r)) false (values_digits base r (parity_of r) c) refl (values_are_sound base r (parity_of r) c))

  pub frame_read : read_frame base (frame_of r) ≡ Ok r
  unfolding read_frame
  frame_read = rw (faultless, frame_sums, reading_back base r (parity_of r) c)

-- ---- read, write

pub record Accepted (base : ℕ) (s : List ℕ) (r : Reading) : Type 0 where
  pub long : length s ≡ frame_length
  pub base_good : is_base base ≡ true
  pub good : good_pulses frame_pulses s ≡ frame_length
  pub digits : Digits (sums_of frame_pulses s)
  pub even : ones_from 1 parity_place s % 2 ≡ 0
  pub sound : Sound base (sums_of frame_pulses s)
  pub is : reading_of base (sums_of frame_pulses s) ≡ r

told_good : (v : Verdict) (x r : Reading) → answer_of v x ≡ Ok r → (v ≡ no_fault) × (x ≡ r)
told_good (Ok done) x r e = (refl, cc)
told_good (Err f) x r e = let z : ◌≡◌ {A = ℕ} 0 1 = cc in clash z

even_ones : (s : List ℕ) → is_odd s ≡ false → ones_from 1 parity_place s % 2 ≡ 0
unfolding is_odd
even_ones s e = eqb-true _ 0 (not-false _ e)

pub accepted : (base : ℕ) (s : List ℕ) (r : Reading) → read_frame base s ≡ Ok r → Accepted base s r
unfolding read_frame fault_in
accepted base s r e =
    let v = sums_of frame_pulses s in
    let t = told_good (fault_in base s) (reading_of base v) r e in
    let long = first_good (not (eqb (length s) frame_length)) _ _ t.0 in
    let based = first_good (not (is_base base)) _ _ long.1 in
    let good = first_good (ltb (good_pulses frame_pulses s) frame_length) _ _ based.1 in
    let p = values-sound base v (is_odd s) good.1 in
    record {
      long = eqb-true (length s) frame_length (not-false _ long.0);
      base_good = not-false _ based.0;
      good = omega (arith, ltb-false (good_pulses frame_pulses s) frame_length good.0, good_in_table frame_pulses s, frame_length_lem);
      digits = p.0;
      even = even_ones s p.1;
      sound = p.2;
      is = t.1;
    }

module _ (base : ℕ) (s : List ℕ) (r : Reading) (a : Accepted base s r) where
  v : List ℕ
  v = sums_of frame_pulses s

  pub reading_is_carried : Carried base r
  reading_is_carried =
      subst (Carried base) a.is (reading_carried base (sums_of frame_pulses s) a.base_good (sums_fit s) a.digits a.sound)

  -- the values of its groups are those of the reading, with the parity that it has
  same_values : values_of r (said v parity) ≡ v
  unfolding v
  same_values =
      ap (λ (x : Reading). values_of x (said v parity)) (sym a.is)
      ∙ values_again base (sums_of frame_pulses s) a.base_good (sums_fit s) a.digits a.sound

  same_row : row frame_pulses (values_of r (said v parity)) ≡ s
  unfolding v
  same_row =
      ap (row frame_pulses) same_values
      ∙ written_sums frame_pulses frame_sound s (omega (arith, frame_length_lem)) (a.long ∙ sym frame_length_lem) (a.good ∙ sym frame_length_lem)

  one_pulse : said v parity < 2
  unfolding v widths
  one_pulse = (sums_fit s).fits parity (omega arith) (omega arith)

  last_pulse : get_or s parity_place 0 ≡ said v parity
  last_pulse = ap (λ (t : List ℕ). get_or t parity_place 0) (sym same_row) ∙ parity-pulse r (said v parity) one_pulse

  -- and that parity is the one that makes the ones even
  same_parity : parity_of r ≡ said v parity
  same_parity =
      let p = said v parity in
      let e : ones_from 1 before_parity (row frame_pulses (values_of r 0)) ≡ ones_from 1 before_parity s =
      sym (same_ones r p) ∙ ap (ones_from 1 before_parity) same_row in
      let q = parity_right s (omega (arith, last_pulse, one_pulse)) a.even in
      omega (arith, parity_is r, last_pulse)

  pub frame_again : frame_of r ≡ s
  unfolding frame_of
  frame_again = ap (λ (p : ℕ). row frame_pulses (values_of r p)) same_parity ∙ same_row
