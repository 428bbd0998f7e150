-- The shape of a minute that is written: marks of 0 or 1, and then the missing mark, a 2.
use mathlib.Core.Bool.{Bool, true, false, cond, not}
use mathlib.Core.List.{[], ◌∷◌, ◌++◌}
use mathlib.Core.Path.{◌≡◌, refl, ◌∙◌}
use Prim.Native.Nat.{ℕ, zero, suc, ◌<◌}
use native.Mathlib.Omega.{arith}
use borrow.Author.Tests.{le-ltb}
use lib.Dec.{T, eqb, ltb}
use lib.ListN.{get_or, take, drop, drop_of_length-le}
use lib.Seq.{split_at}
use Rattle.laws.specs.Tests.{below}
use Rattle.laws.proofs.Tested.{at}
use Rattle.reading.specs.declared.Reading.{Reading}
use Rattle.pulses.specs.Row.{marks, first_data, group_of, weight_of, digit_of, pulse_of, pulse_for}
use Rattle.pulses.proofs.EntryLaws.{digit_small}
use Rattle.pulses.proofs.RowLaws.{pulse_at_lem}
use Rattle.dcf77_table.specs.Table.{shared_marks, last_marks, minute_marks}
use Rattle.dcf77.specs.Forms.{length_of, last_of, due_long}
use Rattle.dcf77.specs.Writer.{values_of, bytes_of}
use Rattle.dcf77.proofs.WriteLaws.{length_of_marks, length-bytes}

-- ---- the tables

pub last_place_lem : (long : Bool) → length_of long ≡ suc (last_of long)
unfolding length_of last_of
last_place_lem true = refl
last_place_lem false = refl

no_gap : Bool → ℕ → Bool
no_gap long i = not (eqb (group_of (get_or (minute_marks long) i 0)) marks)

no_gaps : (long : Bool) → T (below (no_gap long) (last_of long))
unfolding no_gap last_of shared_marks last_marks minute_marks group_of
no_gaps true = tt
no_gaps false = tt

gap_due : (long : Bool) (n : ℕ) → pulse_of (get_or (minute_marks long) (last_of long) 0) n ≡ 2
unfolding last_of shared_marks last_marks minute_marks group_of pulse_of
gap_due true n = refl
gap_due false n = refl

-- ---- the marks

small : (g d : ℕ) → d < 2 → T (not (eqb g marks)) → cond (ltb g first_data) g d < 2
small zero d h t = omega arith
small (suc zero) d h t = omega arith
small (suc (suc zero)) d h t = absurd t
small (suc (suc (suc g))) d h t = rw (le-ltb (suc (suc (suc g))) first_data (omega arith)) h

module _ (r : Reading) (h : ℕ) where
  mark_is : (i : ℕ) → i < length_of (due_long r) → get_or (bytes_of r h) i 0 ≡ pulse_for (get_or (minute_marks (due_long r)) i 0) (values_of r h)
  unfolding bytes_of
  mark_is i k = pulse_at_lem (minute_marks (due_long r)) (values_of r h) i (omega (arith, length_of_marks (due_long r)))

  -- every mark but the last is 0 or 1
  pub marks_small : (i : ℕ) → i < last_of (due_long r) → get_or (bytes_of r h) i 0 < 2
  unfolding pulse_for pulse_of no_gap
  marks_small i k =
      let e = get_or (minute_marks (due_long r)) i 0 in
      let t = at (no_gap (due_long r)) (last_of (due_long r)) (no_gaps (due_long r)) i k in
      let l : i < length_of (due_long r) = omega (arith, last_place_lem (due_long r)) in
      let n = get_or (values_of r h) (group_of e) 0 in
      rw (mark_is i l) (small (group_of e) (digit_of n (weight_of e)) (digit_small n (weight_of e)) t)

  -- and the last is a 2
  pub gap_at_end : bytes_of r h ≡ take (last_of (due_long r)) (bytes_of r h) ++ (2 ∷ [])
  unfolding pulse_for
  gap_at_end =
      let k = last_of (due_long r) in
      let l : k < length_of (due_long r) = omega (arith, last_place_lem (due_long r)) in
      let e : get_or (bytes_of r h) k 0 ≡ 2 = mark_is k l ∙ gap_due (due_long r) _ in
      let d : drop (suc k) (bytes_of r h) ≡ [] = drop_of_length-le (bytes_of r h) {i = suc k} (omega (arith, length-bytes r h, last_place_lem (due_long r))) in
      split_at (bytes_of r h) k 0 (omega (arith, length-bytes r h)) ∙ rw (e, d)
