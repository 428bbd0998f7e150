-- What the cells of a part say is what the pulses of that part add up to, where no two pulses of data have one tag.
use mathlib.Core.Path.{◌≡◌, sym, ap, ◌∙◌}
use mathlib.Core.Bool.{Bool, cond, ◌&&◌}
use mathlib.Core.List.{List}
use Prim.Native.Nat.{ℕ, zero, suc, ◌+◌, ◌*◌, ◌/◌, ◌%◌, ◌^◌, ◌<◌, ◌≤◌, min}
use native.Mathlib.Nat.{zero-add, add-zero, mul-zero, zero-mul}
use native.Mathlib.Decide.{ℕ_discrete, dec_lt}
use native.Mathlib.Omega.{arith}
use borrow.Author.Tests.{eq-eqb, ne_eqb, lt-ltb, le-ltb}
use lib.Dec.{T, eqb, ltb, ltb→lt}
use lib.ListN.{length, get_or, set}
use lib.Seq.{get_or-set_same, get_or-set_other}
use Rattle.laws.specs.Tests.{below}
use Rattle.laws.proofs.Bools.{where_so, then, holds}
use Rattle.laws.proofs.Tested.{at, and_left, and_right}
use Rattle.pulses.specs.Row.{groups, first_data, up_to}
use Rattle.pulses.specs.Tags.{total, cells_put, cells_after, cells_say, tag_sums}
use Rattle.pulses.proofs.CellLaws.{cells_long}
use Rattle.pulses.proofs.PartLaws.{part_sum}
use Rattle.pulses.proofs.SumLaws.{zeros}
use Rattle.pulses.proofs.TotalLaws.{total_same, total-zero, total_nothing, total_one, total_swap, up_to_same}

-- part and weight of the tag at a place; what is fixed weighs nothing
abbrev pub tag_part : List ℕ → ℕ → ℕ
tag_part tags i = get_or tags i 0 % groups

abbrev pub tag_weight : List ℕ → ℕ → ℕ
tag_weight tags i = cond (ltb (get_or tags i 0 % groups) first_data) 0 (2 ^ (get_or tags i 0 / groups))

-- the tag at place j is a byte, and no pulse before has it, where it is of data
abbrev own_tag : List ℕ → ℕ → Bool
own_tag tags j = ltb (get_or tags j 0) 256 && below (λ i. where_so (eqb (get_or tags i 0) (get_or tags j 0)) (ltb (get_or tags j 0 % groups) first_data)) j

unfoldable pub own_tags : List ℕ → Bool
own_tags tags = below (own_tag tags) (length tags)

-- ---- the digit that a tag picks

one_digit : (t k b : ℕ) → t < 256 → k < groups
    → total (λ e. 2 ^ e * cond (eqb t (groups * e + k)) b 0) 8 ≡ cond (eqb (t % groups) k) (2 ^ (t / groups) * b) 0
one_digit t k b h l = elim (ℕ_discrete (t % groups) k) [
  | yes q ↦
      let e : t ≡ groups * (t / groups) + k = omega arith in
      rw (eq-eqb (t % groups) k q)
      (total_one (λ e. 2 ^ e * cond (eqb t (groups * e + k)) b 0) (t / groups) 8 (omega arith)
      (λ j d. rw (ne_eqb t (groups * j + k) (λ z. d (omega arith))) (mul-zero (2 ^ j)))
      ∙ rw (eq-eqb t (groups * (t / groups) + k) e))
  | no d ↦
      rw (ne_eqb (t % groups) k d)
      (total-zero (λ e. 2 ^ e * cond (eqb t (groups * e + k)) b 0) 8
      (λ j. rw (ne_eqb t (groups * j + k) (λ z. d (omega arith))) (mul-zero (2 ^ j))))
]

module _ (tags s : List ℕ) (own : T (own_tags tags)) where
  tested : (j : ℕ) → j < length tags → T (own_tag tags j)
  unfolding own_tags
  tested j h = at (own_tag tags) (length tags) own j h

  byte : (j : ℕ) → j < length tags → get_or tags j 0 < 256
  byte j h = ltb→lt (get_or tags j 0) 256 (and_left (ltb (get_or tags j 0) 256) _ (tested j h))

  -- a pulse before has another tag
  other : (i j : ℕ) → j < length tags → i < j → first_data ≤ get_or tags j 0 % groups → get_or tags i 0 ≡ get_or tags j 0 → ⊥
  other i j h l d e =
      let c = at (λ i. where_so (eqb (get_or tags i 0) (get_or tags j 0)) (ltb (get_or tags j 0 % groups) first_data)) j (and_right (ltb (get_or tags j 0) 256) _ (tested j h)) i l in
      let f = ltb→lt (get_or tags j 0 % groups) first_data (then (eqb (get_or tags i 0) (get_or tags j 0)) _ c (holds _ (eq-eqb (get_or tags i 0) (get_or tags j 0) e))) in
      omega arith

  -- a cell of data holds the pulse that has its tag, or nothing
  held : (c : ℕ) → first_data ≤ c % groups → (n : ℕ) → n ≤ length tags
      → get_or (cells_after tags s n) c 0 % 2 ≡ total (λ i. cond (eqb (get_or tags i 0) c) (get_or s i 0 % 2) 0) n
  unfolding cells_put cells_after total
  held c d zero h = rw (zeros 256 c)
  held c d (suc n) h = elim (ℕ_discrete (get_or tags n 0) c) [
    | yes e ↦
        let k : first_data ≤ get_or tags n 0 % groups = rw e d in
        let z : total (λ i. cond (eqb (get_or tags i 0) c) (get_or s i 0 % 2) 0) n ≡ 0 =
        total_nothing (λ i. cond (eqb (get_or tags i 0) c) (get_or s i 0 % 2) 0) n (λ i l. rw (ne_eqb (get_or tags i 0) c (λ q. other i n h l k (q ∙ sym e)))) in
        rw (z, eq-eqb (get_or tags n 0) c e)
        (ap (λ (x : ℕ). x % 2) (ap (λ (t : ℕ). get_or (set (cells_after tags s n) t (get_or s n 0)) c 0) e ∙ get_or-set_same (cells_after tags s n) c (get_or s n 0) 0 (omega (arith, cells_long tags s n, byte n h)))
        ∙ sym (zero-add (get_or s n 0 % 2)))
    | no q ↦
        rw (ne_eqb (get_or tags n 0) c q)
        (ap (λ (x : ℕ). x % 2) (get_or-set_other (cells_after tags s n) (get_or tags n 0) c (get_or s n 0) 0 (λ z. q (sym z)))
        ∙ held c d n (omega arith) ∙ sym (add-zero _))
  ]

  module _ (n : ℕ) (m : n ≡ min (length tags) (length s)) where
    part-said : (k : ℕ) → first_data ≤ k → k < groups → cells_say (cells_after tags s n) k ≡ part_sum (tag_part tags) (tag_weight tags) s n k
    unfolding cells_say part_sum
    part-said k d h =
        total_same (λ e. 2 ^ e * (get_or (cells_after tags s n) (groups * e + k) 0 % 2)) (λ e. 2 ^ e * total (λ i. cond (eqb (get_or tags i 0) (groups * e + k)) (get_or s i 0 % 2) 0) n) 8
        (λ e l. ap (λ (x : ℕ). 2 ^ e * x) (held (groups * e + k) (omega arith) n (omega arith)))
        ∙ total_swap (λ e. 2 ^ e) (λ i e. cond (eqb (get_or tags i 0) (groups * e + k)) (get_or s i 0 % 2) 0) 8 n
        ∙ total_same _ _ n (λ i l. one_digit (get_or tags i 0) k (get_or s i 0 % 2) (byte i (omega arith)) h ∙ weighed (get_or tags i 0) k (get_or s i 0 % 2) d)
      where
        weighed : (t k b : ℕ) → first_data ≤ k → cond (eqb (t % groups) k) (2 ^ (t / groups) * b) 0 ≡ cond (eqb (t % groups) k) (cond (ltb (t % groups) first_data) 0 (2 ^ (t / groups)) * b) 0
        weighed t k b d = elim (ℕ_discrete (t % groups) k) [
          | yes q ↦ rw (eq-eqb (t % groups) k q, le-ltb (t % groups) first_data (omega arith))
          | no q ↦ rw (ne_eqb (t % groups) k q)
        ]

    fixed-said : (k : ℕ) → k < first_data → part_sum (tag_part tags) (tag_weight tags) s n k ≡ 0
    unfolding part_sum
    fixed-said k h = total-zero _ n (λ i. light (get_or tags i 0) (get_or s i 0 % 2))
      where
        light : (t b : ℕ) → cond (eqb (t % groups) k) (cond (ltb (t % groups) first_data) 0 (2 ^ (t / groups)) * b) 0 ≡ 0
        light t b = elim (ℕ_discrete (t % groups) k) [
          | yes q ↦ rw (eq-eqb (t % groups) k q, lt-ltb (t % groups) first_data (omega arith)) (zero-mul b)
          | no q ↦ rw (ne_eqb (t % groups) k q)
        ]

    pub tags-sums : tag_sums tags s ≡ up_to (part_sum (tag_part tags) (tag_weight tags) s n) groups
    unfolding tag_sums
    tags-sums =
        rw (← m)
        (up_to_same (λ k. cond (ltb k first_data) 0 (cells_say (cells_after tags s n) k)) (part_sum (tag_part tags) (tag_weight tags) s n) groups
        (λ k h. elim (dec_lt k first_data) [
          | yes f ↦ rw (lt-ltb k first_data f) (sym (fixed-said k f))
          | no f ↦ rw (le-ltb k first_data (omega arith)) (part-said k (omega arith) h)
        ]))
