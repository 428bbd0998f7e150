-- The count of ones: how it splits, how a change of one pulse changes it, and how a packed word holds it.
use mathlib.Core.Path.{◌≡◌, refl, sym, ap, ◌∙◌}
use mathlib.Core.List.{List, ◌++◌}
use Prim.Native.Nat.{ℕ, zero, suc, ◌+◌, ◌-◌, ◌*◌, ◌%◌, ◌^◌, ◌<◌, ◌≤◌}
use native.Mathlib.Nat.{sub-zero, zero-add, add-suc, add_assoc, add-zero, pow-succ', le_refl}
use native.Mathlib.Decide.{ℕ_discrete, dec_le}
use native.Mathlib.Numerals.{add-one}
use native.Mathlib.Omega.{arith}
use borrow.Author.Tests.{le-leb, lt-leb}
use lib.Count as Count
use lib.ListN.{length, get_or, take, set, get_or-append}
use lib.Seq.{get_or-set_same, get_or-set_other}
use Rattle.std.specs.Prelude.{slice_range}
use Rattle.std.proofs.lemmas.List.Edits.{length-between, get_or-between}
use Rattle.pulses.specs.Row.{ones_from, sum_from, most_packed, lies_within, ones_of}

-- one pulse more
pub ones_more : (a n : ℕ) (s : List ℕ) → ones_from a (suc n) s ≡ ones_from a n s + get_or s (a + n) 0 % 2
unfolding ones_from
ones_more a n s = refl

-- two parts, one after the other
pub ones_split : (a n m : ℕ) (s : List ℕ) → ones_from a (n + m) s ≡ ones_from a n s + ones_from (a + n) m s
unfolding ones_from
ones_split a n zero s = rw (add-zero n) (sym (add-zero (ones_from a n s)))
ones_split a n (suc m) s =
    rw (add-suc, ones_split a n m s, ← add_assoc a n m) (add_assoc (ones_from a n s) (ones_from (a + n) m s) (get_or s (a + n + m) 0 % 2))

-- no more ones than pulses
pub ones_within : (a n : ℕ) (s : List ℕ) → ones_from a n s ≤ n
unfolding ones_from
ones_within a zero s = le_refl 0
ones_within a (suc n) s = omega (arith, ones_within a n s)

-- the count goes by the pulses that it counts alone
pub ones_same : (a n : ℕ) (s t : List ℕ) → ((i : ℕ) → i < n → get_or s (a + i) 0 ≡ get_or t (a + i) 0) → ones_from a n s ≡ ones_from a n t
unfolding ones_from
ones_same a zero s t h = refl
ones_same a (suc n) s t h = rw (ones_same a n s t (λ i l. h i (omega arith)), h n (le_refl (suc n)))

-- what follows the row does not count
pub ones_front : (a n : ℕ) (s t : List ℕ) → a + n ≤ length s → ones_from a n (s ++ t) ≡ ones_from a n s
ones_front a n s t h = ones_same a n (s ++ t) s (λ i l. get_or-append s t 0 (a + i) (omega arith))

-- a part that is cut out has its own ones
pub ones_part : (s : List ℕ) (a b : ℕ) → b ≤ length s → ones_from 0 (length (slice_range s a b)) (slice_range s a b) ≡ ones_from a (b - a) s
unfolding ones_from
ones_part s a b h = rw (length-between s a b h) (go (b - a) (le_refl (b - a)))
  where
    go : (n : ℕ) → n ≤ b - a → ones_from 0 n (slice_range s a b) ≡ ones_from a n s
    go zero k = refl
    go (suc n) k = rw (go n (omega arith), zero-add n, get_or-between s a b n 0 (omega arith))

-- ---- one pulse changed

module _ (a : ℕ) (s : List ℕ) (p x : ℕ) where
  -- outside of the part, nothing changes
  pub ones_apart : (n : ℕ) → ((i : ℕ) → i < n → a + i ≡ p → ⊥) → ones_from a n (set s p x) ≡ ones_from a n s
  ones_apart n h = ones_same a n (set s p x) s (λ i l. get_or-set_other s p (a + i) x 0 (h i l))

  -- within it the new pulse counts in the place of the old one
  pub ones_changed : (n : ℕ) → a ≤ p → p < a + n → p < length s → ones_from a n (set s p x) + get_or s p 0 % 2 ≡ ones_from a n s + x % 2
  unfolding ones_from
  ones_changed zero h k l = absurd (omega arith)
  ones_changed (suc n) h k l = last (ones_changed n h) (ℕ_discrete (a + n) p)
    where
      last : (p < a + n → p < length s → ones_from a n (set s p x) + get_or s p 0 % 2 ≡ ones_from a n s + x % 2) → Dec (a + n ≡ p)
          → ones_from a n (set s p x) + get_or (set s p x) (a + n) 0 % 2 + get_or s p 0 % 2 ≡ ones_from a n s + get_or s (a + n) 0 % 2 + x % 2
      last r (yes e) =
          rw (e, ones_apart n (λ i b q. omega arith), get_or-set_same s p x 0 l) (omega arith)
      last r (no d) =
          rw (get_or-set_other s p (a + n) x 0 d) (omega (arith, r (omega arith) l))

  -- so that another digit turns the parity
  pub parity_turns : (n : ℕ) → a ≤ p → p < a + n → p < length s → (x % 2 ≡ get_or s p 0 % 2 → ⊥)
      → ones_from a n (set s p x) % 2 ≡ ones_from a n s % 2 → ⊥
  parity_turns n h k l d e = d (omega (arith, ones_changed n h k l))

-- the parity of the count is that of the sum of the pulses
pub parity_of_sum : (a n : ℕ) (s : List ℕ) → ones_from a n s % 2 ≡ sum_from a n s % 2
unfolding ones_from sum_from
parity_of_sum a zero s = refl
parity_of_sum a (suc n) s = omega (arith, parity_of_sum a n s)

-- ---- a word, packed pulse by pulse

ones_bit : (x : ℕ) → x < 2 → Count.ones x ≡ x
unfolding Count.ones Count.ones_in
ones_bit zero h = refl
ones_bit (suc zero) h = refl
ones_bit (suc (suc x)) h = absurd (omega arith)

-- the word w holds the first i pulses
pub record Packs (s : List ℕ) (i w : ℕ) : Type 0 where
  pub small : w < 2 ^ i
  pub counts : Count.ones w ≡ ones_from 0 i s

pub packs_none : (s : List ℕ) → Packs s 0 0
unfolding Count.ones Count.ones_in ones_from
packs_none s = record { small = omega arith; counts = refl }

module _ (s : List ℕ) (i w x : ℕ) (h : Packs s i w) where
  grows : x < 2 → w * 2 + x < 2 ^ (i + 1)
  grows k = rw (add-one, pow-succ' 2 i) (omega (arith, h.small))

  pub packs_more : x ≡ get_or s i 0 % 2 → Packs s (i + 1) (w * 2 + x)
  unfolding ones_from
  packs_more b =
      let k : x < 2 = omega arith in
      record { small = grows k; counts = Count.ones_cat 1 w x k ∙ rw (add-one, zero-add i, ones_bit x k, h.counts, b) }

-- ---- the part asked for

pub ones_of_part : (a n : ℕ) (s : List ℕ) → a + n ≤ length s → n ≤ most_packed → ones_of a n s ≡ ones_from a n s
unfolding ones_of lies_within
ones_of_part a n s h k = rw (le-leb (a + n) (length s) h, le-leb n most_packed k)

pub ones_of_none : (a n : ℕ) (s : List ℕ) → ((a + n ≤ length s) × (n ≤ most_packed) → ⊥) → 0 ≡ ones_of a n s
unfolding ones_of lies_within
ones_of_none a n s h = elim (dec_le (a + n) (length s)) [
  | no k ↦ let l : length s < a + n = omega arith in rw (lt-leb (a + n) (length s) l)
  | yes k ↦ elim (dec_le n most_packed) [
    | yes m ↦ absurd (h (k, m))
    | no m ↦ let l : most_packed < n = omega arith in rw (lt-leb n most_packed l, le-leb (a + n) (length s) k)
  ]
]

-- the counts of two parts, m pulses and the others, make up the count asked for
module _ (s : List ℕ) (a n m : ℕ) (h : m ≤ n) (k : a + n ≤ length s) (l : n ≤ most_packed) where
  abbrev cut : List ℕ
  cut = slice_range s a (a + n)

  cut_length : length cut ≡ n
  cut_length = length-between s a (a + n) k ∙ omega arith

  low : ones_from 0 (length (take m cut)) (take m cut) ≡ ones_from 0 m cut
  low = rw sub-zero at (ones_part cut 0 m (omega (arith, cut_length)))

  whole : ones_from 0 n cut ≡ ones_from a n s
  whole =
      let d : a + n - a ≡ n = omega arith in
      rw cut_length at (ones_part s a (a + n) k) ∙ ap (λ (j : ℕ). ones_from a j s) d

  both : ones_from 0 m cut + ones_from m (length cut - m) cut ≡ ones_from a n s
  both =
      let d : m + (n - m) ≡ n = omega arith in
      rw cut_length (rw zero-add at (sym (ones_split 0 m (n - m) cut)) ∙ ap (λ (j : ℕ). ones_from 0 j cut) d ∙ whole)

  pub ones_of_two : (x y : ℕ) → x ≡ ones_from 0 (length (take m cut)) (take m cut)
      → y ≡ ones_from 0 (length (slice_range cut m (length cut))) (slice_range cut m (length cut))
      → (x + y ≡ ones_of a n s) × (x + y ≤ most_packed)
  ones_of_two x y p q =
      let b : x + y ≡ ones_from a n s = rw (p, q, low, ones_part cut m (length cut) (le_refl (length cut))) both in
      (b ∙ sym (ones_of_part a n s k l), omega (arith, b, ones_within a n s))
