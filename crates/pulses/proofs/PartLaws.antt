-- The parts of a group: what they add up to, joined, is what the group adds up to; with every part joined, the parts and weights of the tags
-- are the groups and weights of the table, by one test over its entries.
use mathlib.Core.Path.{◌≡◌, refl, sym, ap, ◌∙◌}
use mathlib.Core.Bool.{Bool, cond, ◌&&◌}
use mathlib.Core.List.{List}
use Prim.Native.Nat.{ℕ, ◌+◌, ◌*◌, ◌%◌, ◌<◌, ◌≤◌, min}
use native.Mathlib.Nat.{mul_assoc, zero-add}
use native.Mathlib.Decide.{ℕ_discrete}
use native.Mathlib.Omega.{arith}
use borrow.Author.Tests.{eq-eqb, ne_eqb}
use lib.Dec.{T, eqb, eqb→eq}
use lib.ListN.{length, get_or, set, length-set}
use lib.Seq.{ext_get_or, get_or-set_same, get_or-set_other, take_all}
use Rattle.laws.specs.Tests.{below}
use Rattle.laws.proofs.Tested.{at, and_left, and_right}
use Rattle.pulses.specs.Row.{groups, most_places, group_of, weight_of, share_of, sum_of, sums_of, up_to}
use Rattle.pulses.specs.Tags.{total}
use Rattle.pulses.proofs.SumLaws.{length_up_to, up_to_at}
use Rattle.pulses.proofs.TotalLaws.{total_same, total_both, total-zero, sum-total, up_to_same}

-- what a pulse b of weight w counts: it does so by its lowest bit
abbrev counted : ℕ → ℕ → ℕ
counted w b = w * (b % 2)

-- what the pulses at the first n places add to part k, where p has the part of each place and w its weight
unfoldable pub part_sum : (ℕ → ℕ) → (ℕ → ℕ) → List ℕ → ℕ → ℕ → ℕ
part_sum p w s n k = total (λ i. cond (eqb (p i) k) (counted (w i) (get_or s i 0)) 0) n

-- ---- one part joined to its group

-- the parts with part a counted as group g
abbrev pub joined_part : ℕ → ℕ → (ℕ → ℕ) → ℕ → ℕ
joined_part a g p i = cond (eqb (p i) a) g (p i)

-- and the weights with those of part a f times as large
abbrev pub joined_weight : ℕ → ℕ → (ℕ → ℕ) → (ℕ → ℕ) → ℕ → ℕ
joined_weight a f p w i = cond (eqb (p i) a) (f * w i) (w i)

-- the values with what part a says added to group g
abbrev pub joined : ℕ → ℕ → ℕ → List ℕ → List ℕ
joined a g f v = set (set v g (get_or v g 0 + f * get_or v a 0)) a 0

-- what a pulse y of part q and weight x adds to part k
abbrev added : ℕ → ℕ → ℕ → ℕ → ℕ
added q x y k = cond (eqb q k) (counted x y) 0

module _ (a g f : ℕ) (d : a ≡ g → ⊥) (q x y : ℕ) where
  -- the same, where part a is joined to group g
  abbrev added_joined : ℕ → ℕ
  added_joined k = added (cond (eqb q a) g q) (cond (eqb q a) (f * x) x) y k

  to_group : added_joined g ≡ added q x y g + f * added q x y a
  to_group = elim (ℕ_discrete q a) [
    | yes e ↦ rw (eq-eqb q a e, eq-eqb g g refl, ne_eqb q g (λ z. d (sym e ∙ z)), mul_assoc f x (y % 2)) (sym (zero-add (f * (x * (y % 2)))))
    | no n ↦ rw (ne_eqb q a n) (omega arith)
  ]

  to_part : added_joined a ≡ 0
  to_part = elim (ℕ_discrete q a) [
    | yes e ↦ rw (eq-eqb q a e, ne_eqb g a (λ z. d (sym z)))
    | no n ↦ rw (ne_eqb q a n, ne_eqb q a n)
  ]

  to_other : (k : ℕ) → (k ≡ a → ⊥) → (k ≡ g → ⊥) → added_joined k ≡ added q x y k
  to_other k n m = elim (ℕ_discrete q a) [
    | yes e ↦ rw (eq-eqb q a e, ne_eqb g k (λ z. m (sym z)), ne_eqb q k (λ z. n (sym z ∙ e)))
    | no c ↦ rw (ne_eqb q a c)
  ]

module _ (a g f : ℕ) (d : a ≡ g → ⊥) (p w : ℕ → ℕ) (s : List ℕ) (n : ℕ) where
  -- what each part adds up to where part a is joined
  abbrev sum_joined : ℕ → ℕ
  sum_joined = part_sum (joined_part a g p) (joined_weight a f p w) s n

  sum-at : (v : List ℕ) → v ≡ up_to (part_sum p w s n) groups → (k : ℕ) → k < groups → get_or v k 0 ≡ part_sum p w s n k
  sum-at v e k h = rw e (up_to_at (part_sum p w s n) groups k h)

  group_joined : sum_joined g ≡ part_sum p w s n g + f * part_sum p w s n a
  unfolding part_sum
  group_joined = total_both _ _ _ f n (λ i. to_group a g f d (p i) (w i) (get_or s i 0))

  part_joined : sum_joined a ≡ 0
  unfolding part_sum
  part_joined = total-zero _ n (λ i. to_part a g f d (p i) (w i) (get_or s i 0))

  other_joined : (k : ℕ) → (k ≡ a → ⊥) → (k ≡ g → ⊥) → sum_joined k ≡ part_sum p w s n k
  unfolding part_sum
  other_joined k h l = total_same _ _ n (λ i _. to_other a g f d (p i) (w i) (get_or s i 0) k h l)

  pub sums_joined : (v : List ℕ) → v ≡ up_to (part_sum p w s n) groups → a < groups → g < groups → joined a g f v ≡ up_to sum_joined groups
  sums_joined v e h k =
      ext_get_or 0 (joined a g f v) (up_to sum_joined groups)
      (length-set u a 0 ∙ length-set v g x ∙ long ∙ sym (length_up_to sum_joined groups))
      (λ i l. place i (omega (arith, length-set u a 0, length-set v g x, long)) ∙ sym (up_to_at sum_joined groups i (omega (arith, length-set u a 0, length-set v g x, long))))
    where
      x : ℕ
      x = get_or v g 0 + f * get_or v a 0

      u : List ℕ
      u = set v g x

      long : length v ≡ groups
      long = ap length e ∙ length_up_to (part_sum p w s n) groups

      place : (i : ℕ) → i < groups → get_or (set u a 0) i 0 ≡ sum_joined i
      place i l = elim (ℕ_discrete i a) [
        | yes q ↦ rw q (get_or-set_same u a 0 0 (omega (arith, length-set v g x, long)) ∙ sym part_joined)
        | no m ↦ get_or-set_other u a i 0 0 m ∙ elim (ℕ_discrete i g) [
          | yes q ↦ rw q (get_or-set_same v g x 0 (omega (arith, long)) ∙ rw (sum-at v e g k, sum-at v e a h) (sym group_joined))
          | no o ↦ get_or-set_other v g i x 0 o ∙ sum-at v e i l ∙ sym (other_joined i m o)
        ]
      ]

-- ---- the parts are the table's groups

module _ (t : List ℕ) (p w : ℕ → ℕ) where
  -- group and weight of the entry at a place
  abbrev pub same_entry : ℕ → Bool
  same_entry i = eqb (p i) (group_of (get_or t i 0)) && eqb (w i) (weight_of (get_or t i 0))

  module _ (h : T (below same_entry (length t))) (s : List ℕ) (n : ℕ) (m : n ≡ min (length t) (length s)) where
    own-sum : (k : ℕ) → part_sum p w s n k ≡ total (λ i. share_of (get_or t i 0) (get_or s i 0) k) n
    unfolding part_sum share_of
    own-sum k =
        total_same _ _ n
        (λ i b.
        let c = at same_entry (length t) h i (omega arith) in
        let x = eqb (p i) (group_of (get_or t i 0)) in
        let y = eqb (w i) (weight_of (get_or t i 0)) in
        rw (eqb→eq (p i) (group_of (get_or t i 0)) (and_left x y c), eqb→eq (w i) (weight_of (get_or t i 0)) (and_right x y c)))

    pub parts-sums : length t ≤ most_places → up_to (part_sum p w s n) groups ≡ sums_of t s
    unfolding sums_of
    parts-sums few =
        rw (take_all most_places t few)
        (up_to_same (part_sum p w s n) (sum_of t s) groups (λ k _. own-sum k ∙ sym (sum-total t s k n m)))
