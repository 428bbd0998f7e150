-- What the groups of a minute say: values that their marks can hold, and every such value, laid as marks and read again.
use mathlib.Core.Bool.{Bool, true, false}
use mathlib.Core.List.{List, [], ◌∷◌}
use mathlib.Core.Path.{◌≡◌, refl, sym, ◌∙◌, subst}
use Prim.Native.Nat.{ℕ, zero, suc, ◌%◌, ◌^◌, ◌<◌, ◌≤◌}
use native.Mathlib.Nat.{zero-mul}
use native.Mathlib.Decide.{ℕ_discrete, dec_le, dec_lt}
use native.Mathlib.Omega.{arith}
use borrow.Author.Tests.{eq-eqb, ne_eqb, lt-ltb}
use lib.Dec.{T, leb, ltb, eqb, eqb→eq, leb→le, le→leb}
use lib.ListN.{length, get_or}
use lib.Seq.{ext_get_or}
use Rattle.laws.proofs.Bools.{where_so, then, holds}
use Rattle.laws.specs.Tests.{below}
use Rattle.laws.proofs.Tested.{at, and_left, and_right}
use Rattle.pulses.specs.Row.{groups, first_data, most_places, group_of, weight_of, good_pulses, share_of, sum_of, sums_of, row}
use Rattle.pulses.proofs.SumLaws.{sums_at, length_sums}
use Rattle.pulses.proofs.TripLaws.{sum-small, read_written, written_sums}
use Rattle.dcf77_table.specs.Table.{head, minute_marks}
use Rattle.dcf77_table.specs.Values.{widths, Proper}
use Rattle.dcf77_table.proofs.Family.{Each, each}
use Rattle.dcf77_table.proofs.TableLaws.{marks-length, marks_sound, marks_widths, light, marks_light}

-- ---- the groups that are fixed say nothing

light_share : (e b g : ℕ) → T (where_so (ltb (group_of e) first_data) (eqb (weight_of e) 0)) → g < first_data → share_of e b g ≡ 0
unfolding share_of
light_share e b g t h = elim (ℕ_discrete (group_of e) g) [
  | yes q ↦
      let low : group_of e < first_data = omega arith in
      let w = eqb→eq (weight_of e) 0 (then (ltb (group_of e) first_data) (eqb (weight_of e) 0) t (holds (ltb (group_of e) first_data) (lt-ltb (group_of e) first_data low))) in
      rw (eq-eqb (group_of e) g q, w) (zero-mul (b % 2))
  | no n ↦ rw (ne_eqb (group_of e) g n)
]

light-sum : (t s : List ℕ) (g : ℕ) → T (light t) → g < first_data → sum_of t s g ≡ 0
unfolding sum_of light
light-sum [] s g a h = refl
light-sum (e ∷ t) [] g a h = refl
light-sum (e ∷ t) (b ∷ s) g a h =
    let p = where_so (ltb (group_of e) first_data) (eqb (weight_of e) 0) in
    rw (light_share e b g (and_left p (light t) a) h, light-sum t s g (and_right p (light t) a) h)

fixed_width : (g : ℕ) → g < first_data → 2 ^ get_or widths g 0 ≡ 1
unfolding widths
fixed_width zero h = refl
fixed_width (suc zero) h = refl
fixed_width (suc (suc zero)) h = refl
fixed_width (suc (suc (suc g))) h = absurd (omega arith)

-- ---- what the marks say

pub few : (long : Bool) → length (minute_marks long) ≤ most_places
few true = omega (arith, marks-length true)
few false = omega (arith, marks-length false)

module _ (long : Bool) where
  sum_fits : (s : List ℕ) (g : ℕ) → g < groups → sum_of (minute_marks long) s g < 2 ^ get_or widths g 0
  sum_fits s g h = elim (dec_le first_data g) [
    | yes k ↦ subst (λ (n : ℕ). sum_of (minute_marks long) s g < 2 ^ n) (marks_widths long g k h) (sum-small (minute_marks long) (marks_sound long) s g k h)
    | no k ↦
        let low : g < first_data = omega arith in
        rw (fixed_width g low) (omega (arith, light-sum (minute_marks long) s g (marks_light long) low))
  ]

  -- any marks say values that they can hold
  pub said_proper : (s : List ℕ) → Proper (sums_of (minute_marks long) s)
  said_proper s =
      record {
        long = length_sums (minute_marks long) s;
        small = λ g h. rw (sums_at (minute_marks long) s g (few long) h) (sum_fits s g h);
      }

  module _ (v : List ℕ) (p : Proper v) where
    said-of-row : (g : ℕ) → g < groups → sum_of (minute_marks long) (row (minute_marks long) v) g ≡ get_or v g 0
    said-of-row g h = elim (dec_le first_data g) [
      | yes k ↦
          read_written (minute_marks long) (marks_sound long) v g k h
          (subst (λ (n : ℕ). get_or v g 0 < 2 ^ n) (sym (marks_widths long g k h)) (p.small g h))
      | no k ↦
          let low : g < first_data = omega arith in
          let none : get_or v g 0 < 1 = rw (fixed_width g low) at (p.small g h) in
          omega (arith, light-sum (minute_marks long) (row (minute_marks long) v) g (marks_light long) low)
    ]

    -- such values, laid as marks, are what the marks say
    pub said_row : sums_of (minute_marks long) (row (minute_marks long) v) ≡ v
    said_row =
        let s = row (minute_marks long) v in
        ext_get_or 0 (sums_of (minute_marks long) s) v (length_sums (minute_marks long) s ∙ sym p.long)
        (λ g h. let k : g < groups = rw length_sums at h in sums_at (minute_marks long) s g (few long) k ∙ said-of-row g k)

  -- and what good marks say gives the marks again
  pub row_said : (s : List ℕ) → length s ≡ length (minute_marks long) → good_pulses (minute_marks long) s ≡ length (minute_marks long)
      → row (minute_marks long) (sums_of (minute_marks long) s) ≡ s
  row_said s l good = written_sums (minute_marks long) (marks_sound long) s (few long) l good

narrow_rule : ℕ → Bool
narrow_rule g = where_so (ltb first_data g) (leb (2 ^ get_or widths g 0) 16)

narrow_test : T (below narrow_rule groups)
unfolding narrow_rule widths
narrow_test = tt

narrow : (g : ℕ) → first_data < g → g < groups → 2 ^ get_or widths g 0 ≤ 16
unfolding narrow_rule
narrow g h k =
    let w = 2 ^ get_or widths g 0 in
    leb→le w 16 (then (ltb first_data g) (leb w 16) (at narrow_rule groups narrow_test g k) (holds (ltb first_data g) (lt-ltb first_data g h)))

-- every value but the head is below 16
pub digit_small : {v : List ℕ} → Proper v → (g : ℕ) → first_data < g → g < groups → get_or v g 0 < 16
digit_small {v} p g h k = omega (arith, p.small g k, narrow g h k)

-- and the head below 32768
pub head_small : (long : Bool) (s : List ℕ) → get_or (sums_of (minute_marks long) s) head 0 < 32768
unfolding widths
head_small long s = (said_proper long s).small head (omega arith)

-- ---- two lists of values

-- the first group that holds nothing
abbrev pub first_unused : ℕ
first_unused = 21

unused_rule : ℕ → Bool
unused_rule g = where_so (leb first_unused g) (eqb (2 ^ get_or widths g 0) 1)

unused_test : T (below unused_rule groups)
unfolding unused_rule widths
unused_test = tt

unused : (g : ℕ) → first_unused ≤ g → g < groups → 2 ^ get_or widths g 0 ≡ 1
unfolding unused_rule
unused g h k =
    let w = 2 ^ get_or widths g 0 in
    eqb→eq w 1 (then (leb first_unused g) (eqb w 1) (at unused_rule groups unused_test g k) (le→leb first_unused g h))

module _ (v w : List ℕ) (p : Proper v) (q : Proper w) where
  -- both say nothing there
  pub same_unused : (g : ℕ) → first_unused ≤ g → g < groups → get_or v g 0 ≡ get_or w g 0
  same_unused g h k = omega (arith, unused g h k, p.small g k, q.small g k)

  -- values that agree in the groups of data are the same
  pub same_values : Each (λ g. get_or v g 0 ≡ get_or w g 0) first_unused → v ≡ w
  same_values t =
      ext_get_or 0 v w (p.long ∙ sym q.long)
      (λ g h. elim (dec_lt g first_unused) [
        | yes k ↦ each (λ g. get_or v g 0 ≡ get_or w g 0) first_unused t g k
        | no k ↦ same_unused g (omega arith) (omega (arith, p.long))
      ])
