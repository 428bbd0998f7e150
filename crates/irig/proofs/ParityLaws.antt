-- The parity of a frame: its group has one pulse, which is left out where the ones are counted, and which makes them even.
use mathlib.Core.Path.{◌≡◌, refl, sym, ap, ◌∙◌}
use mathlib.Core.Bool.{not}
use mathlib.Core.List.{List, ◌++◌}
use Prim.Native.Nat.{ℕ, ◌+◌, ◌/◌, ◌%◌, ◌<◌, ◌≤◌}
use native.Mathlib.Omega.{arith}
use lib.Dec.{eqb}
use lib.ListN.{length, get_or, drop, set, length-append}
use lib.Seq.{get_or-set_other, set-append_left}
use Rattle.reading.specs.declared.Reading.{Reading}
use Rattle.pulses.specs.Row.{group_of, weight_of, row, laid, ones_from, sum_from, ones_of}
use Rattle.pulses.proofs.EntryLaws.{pulse_data, pulse_for_same}
use Rattle.pulses.proofs.RowLaws.{Alone, length-row, pulse_at_lem, row-set, enough}
use Rattle.pulses.proofs.OnesLaws.{ones_more, ones_same, ones_front, ones_of_part, parity_of_sum}
use Rattle.irig_table.specs.Table.{frame_pulses, parity}
use Rattle.irig_table.proofs.TableLaws.{frame_length_lem, parity_alone}
use Rattle.irig.specs.Faults.{frame_length, parity_place, is_odd}
use Rattle.irig.specs.Writing.{groups_of, values_of, before_parity, parity_of, frame_of}

-- its pulse is the pulse 75, alone
parity_place_lem : Alone frame_pulses parity parity_place
unfolding frame_pulses group_of weight_of
parity_place_lem = record {
  placed = omega (arith, frame_length_lem);
  group = refl;
  weight = refl;
  known = omega arith;
  only = λ i h e. parity_alone i (omega (arith, frame_length_lem)) e;
}

module _ (r : Reading) (p : ℕ) where
  has_group : parity < length (values_of r 0)
  unfolding values_of groups_of
  has_group = omega arith

  -- the parity is the value of its own group alone
  its_group : values_of r p ≡ set (values_of r 0) parity p
  unfolding values_of groups_of
  its_group = refl

  pub other_group : (g : ℕ) → (g ≡ parity → ⊥) → get_or (values_of r p) g 0 ≡ get_or (values_of r 0) g 0
  other_group g d = ap (λ (v : List ℕ). get_or v g 0) its_group ∙ get_or-set_other (values_of r 0) parity g p 0 d

  -- every other pulse is the same
  pub other_pulse : (i : ℕ) → i < frame_length → (i ≡ parity_place → ⊥)
      → get_or (row frame_pulses (values_of r p)) i 0 ≡ get_or (row frame_pulses (values_of r 0)) i 0
  other_pulse i h d =
      let e = get_or frame_pulses i 0 in
      let l : i < length frame_pulses = omega (arith, frame_length_lem) in
      pulse_at_lem frame_pulses (values_of r p) i l
      ∙ pulse_for_same e (values_of r p) (values_of r 0) (λ _. other_group (group_of e) (λ q. d (parity_alone i h q)))
      ∙ sym (pulse_at_lem frame_pulses (values_of r 0) i l)

  pub same_ones : ones_from 1 before_parity (row frame_pulses (values_of r p)) ≡ ones_from 1 before_parity (row frame_pulses (values_of r 0))
  same_ones =
      ones_same 1 before_parity (row frame_pulses (values_of r p)) (row frame_pulses (values_of r 0))
      (λ i l. other_pulse (1 + i) (omega arith) (λ q. omega arith))

  module _ (small : p < 2) where
    -- and the pulse 75 is the parity
    pub parity-pulse : get_or (row frame_pulses (values_of r p)) parity_place 0 ≡ p
    unfolding frame_pulses group_of weight_of values_of groups_of
    parity-pulse =
        pulse_at_lem frame_pulses (values_of r p) parity_place (omega (arith, frame_length_lem))
        ∙ pulse_data (get_or frame_pulses parity_place 0) (values_of r p) 0 (omega arith) refl ∙ digit
      where
        digit : p / 1 % 2 ≡ p
        digit = omega arith

    -- the row of another parity is the row with its pulse 75 changed
    pub set-parity : set (row frame_pulses (values_of r 0)) parity_place p ≡ row frame_pulses (values_of r p)
    set-parity = row-set frame_pulses (values_of r 0) parity parity_place p parity_place_lem has_group small ∙ ap (row frame_pulses) (sym its_group)

pub parity_is : (r : Reading) → parity_of r ≡ ones_from 1 before_parity (row frame_pulses (values_of r 0)) % 2
unfolding parity_of
parity_is r = refl

pub parity_small : (r : Reading) → parity_of r < 2
parity_small r = omega (arith, parity_is r)

-- ---- every frame that is written has an even number of ones

even : (n p : ℕ) → p ≡ n % 2 → (n + p % 2) % 2 ≡ 0
even n p e = omega arith

pub frame_even : (r : Reading) → ones_from 1 parity_place (frame_of r) % 2 ≡ 0
unfolding frame_of
frame_even r =
    let v = values_of r (parity_of r) in
    rw (
      ones_more 1 before_parity (row frame_pulses v),
      parity-pulse r (parity_of r) (parity_small r),
      same_ones r (parity_of r),
    )
    (even (ones_from 1 before_parity (row frame_pulses (values_of r 0))) (parity_of r) (parity_is r))

-- the ones among 1 to 75 are even where the pulse 75 is the parity of the others
pub parity_right : (s : List ℕ) → get_or s parity_place 0 < 2 → ones_from 1 parity_place s % 2 ≡ 0 → ones_from 1 before_parity s % 2 ≡ get_or s parity_place 0
parity_right s h e = omega (arith, ones_more 1 before_parity s)

-- of any bytes: the reader's parity, by the count of ones in packed words, is that of the sum of the pulses
pub odd_by_sum : (s : List ℕ) → is_odd s ≡ not (eqb (sum_from 1 parity_place s % 2) 0)
unfolding is_odd
odd_by_sum s = rw (parity_of_sum 1 parity_place s)

-- ---- a frame, laid with parity 0 and mended

pub mended : (r : Reading) (out laidOut : List ℕ) (n : ℕ) → frame_length ≤ length out → laidOut ≡ laid frame_pulses (values_of r 0) out
    → n ≡ ones_of 1 before_parity laidOut → set laidOut parity_place (n % 2) ≡ frame_of r ++ drop frame_length out
unfolding frame_of parity_of
mended r out laidOut n h e q =
    let z = row frame_pulses (values_of r 0) in
    let rest = drop frame_length out in
    let long : length z ≡ frame_length = length-row frame_pulses (values_of r 0) ∙ frame_length_lem in
    let l : laidOut ≡ z ++ rest = e ∙ (rw frame_length_lem at (enough frame_pulses (values_of r 0) out (omega (arith, frame_length_lem))).1) in
    let c : ones_of 1 before_parity (z ++ rest) ≡ ones_from 1 before_parity z =
    ones_of_part 1 before_parity (z ++ rest) (omega (arith, long, length-append z rest)) (omega arith) ∙ ones_front 1 before_parity z rest (omega (arith, long)) in
    rw (q, l, c, set-append_left z rest parity_place (ones_from 1 before_parity z % 2) (omega (arith, long)), set-parity r (ones_from 1 before_parity z % 2) (omega arith))
