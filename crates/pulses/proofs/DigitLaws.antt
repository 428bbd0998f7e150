-- A group whose pulses weigh 1, 2, 4, .. : its sum is below two to the number of its pulses, the digits of a number add up to
-- it, and each pulse is the digit of the sum that its weight picks. One law over the group, the lowest power and the table.
use mathlib.Core.Path.{◌≡◌, refl, sym, ap, ◌∙◌}
use mathlib.Core.Bool.{Bool, true, false, cond, ◌&&◌}
use mathlib.Core.List.{List, [], ◌∷◌}
use Prim.Native.Nat.{ℕ, zero, suc, ◌+◌, ◌*◌, ◌/◌, ◌%◌, ◌^◌, ◌<◌, ◌≤◌}
use native.Mathlib.Nat.{not-suc-le-zero, add-zero, zero-add, pow-succ', mod-one, mod-mod, div-one, mul-one, mul-le-mul_left}
use native.Mathlib.Numerals.{add-one}
use native.Mathlib.Omega.{arith}
use borrow.Author.Tests.{eqb-true, eqb-false}
use lib.Arith.{digits_div, digits_mod}
use lib.Dec.{T, eqb, eqb→eq}
use lib.ListN.{length, get_or}
use lib.Pow.{pow_mono, mod-pow-add, shr-shr}
use Rattle.laws.proofs.Tested.{and_left, and_right}
use Rattle.pulses.specs.Row.{first_data, group_of, weight_of, digit_of, pulse_for, row, share_of, sum_of, pulses_in, doubling}
use Rattle.pulses.proofs.EntryLaws.{pulse_data, digit_is}

twice : (k : ℕ) → 2 ^ suc k ≡ 2 * 2 ^ k
twice k = pow-succ' 2 k

-- ---- the first entry and the rest

module _ (e : ℕ) (t : List ℕ) (g k : ℕ) where
  -- what the test tells of the first entry, where it is of group g and where it is not, and of the rest
  abbrev First : Bool → Type 0
  First true = (group_of e ≡ g) × (weight_of e ≡ 2 ^ k) × T (doubling t g (suc k))
  First false = (group_of e ≡ g → ⊥) × T (doubling t g k)

  tells : (a : Bool) → eqb (group_of e) g ≡ a → T (cond a (eqb (weight_of e) (2 ^ k) && doubling t g (suc k)) (doubling t g k)) → First a
  tells true p h =
      let w = eqb (weight_of e) (2 ^ k) in
      let d = doubling t g (suc k) in
      (eqb-true (group_of e) g p, eqb→eq (weight_of e) (2 ^ k) (and_left w d h), and_right w d h)
  tells false p h = (eqb-false (group_of e) g p, h)

  first : T (doubling (e ∷ t) g k) → First (eqb (group_of e) g)
  unfolding doubling
  first h = tells (eqb (group_of e) g) refl h

  -- ---- one entry more: x is its digit, r the sum of the rest, n the number of pulses of the rest

  module _ (x : ℕ) (small : x < 2) (r n : ℕ) where
    below_more : ((j : ℕ) → T (doubling t g j) → r + 2 ^ j ≤ 2 ^ (j + n)) → (a : Bool) → First a
        → cond a (weight_of e * x) 0 + r + 2 ^ k ≤ 2 ^ (k + cond a (suc n) n)
    below_more ih false f = omega (arith, ih k f.1)
    below_more ih true f =
        let m : k + suc n ≡ suc k + n = omega arith in
        rw (m, f.1) (omega (arith, ih (suc k) f.2, twice k, mul-le-mul_left (2 ^ k) small))

    multiple-more : ((j : ℕ) → T (doubling t g j) → (q : ℕ) × (r ≡ q * 2 ^ j)) → (a : Bool) → First a
        → (q : ℕ) × (cond a (weight_of e * x) 0 + r ≡ q * 2 ^ k)
    multiple-more ih false f = let i = ih k f.1 in (i.0, omega (arith, i.1))
    multiple-more ih true f = let i = ih (suc k) f.2 in (x + 2 * i.0, rw (f.1, i.1, twice k) (omega arith))

-- ---- the sum is below two to the number of pulses, whatever the pulses are

bit_small : (b : ℕ) → b % 2 < 2
bit_small b = omega arith

pub sum_below : (t s : List ℕ) (g k : ℕ) → T (doubling t g k) → sum_of t s g + 2 ^ k ≤ 2 ^ (k + pulses_in t g)
unfolding sum_of share_of pulses_in
sum_below [] s g k h = rw (add-zero k) (omega arith)
sum_below (e ∷ t) [] g k h = omega (arith, pow_mono {i = k} {j = k + pulses_in (e ∷ t) g} (omega arith))
sum_below (e ∷ t) (b ∷ s) g k h =
    below_more e t g k (b % 2) (bit_small b) (sum_of t s g) (pulses_in t g) (sum_below t s g) (eqb (group_of e) g) (first e t g k h)

-- ---- and a multiple of the lowest weight

multiple : (t s : List ℕ) (g k : ℕ) → T (doubling t g k) → (q : ℕ) × (sum_of t s g ≡ q * 2 ^ k)
unfolding sum_of share_of
multiple [] s g k h = (0, omega arith)
multiple (e ∷ t) [] g k h = (0, omega arith)
multiple (e ∷ t) (b ∷ s) g k h =
    multiple-more e t g k (b % 2) (bit_small b) (sum_of t s g) 0 (multiple t s g) (eqb (group_of e) g) (first e t g k h)

-- ---- the digits of a number add up to it

-- the digits of v from the k-th on, n of them, at their weights
part : ℕ → ℕ → ℕ → ℕ
part v k n = (v / 2 ^ k % 2 ^ n) * 2 ^ k

part_none : (v k : ℕ) → part v k 0 ≡ 0
unfolding part
part_none v k = rw (mod-one (v / 2 ^ k)) (omega arith)

part_more : (v k n : ℕ) → 2 ^ k * (v / 2 ^ k % 2 % 2) + part v (suc k) n ≡ part v k (suc n)
unfolding part
part_more v k n =
    let u = v / 2 ^ k in
    let m : u % 2 ^ suc n ≡ (v / 2 ^ suc k % 2 ^ n) * 2 + u % 2 =
    ap (λ (j : ℕ). u % 2 ^ j) (sym (add-one n)) ∙ mod-pow-add u n 1
    ∙ ap (λ (y : ℕ). (y % 2 ^ n) * 2 + u % 2) (shr-shr v k 1 ∙ ap (λ (j : ℕ). v / 2 ^ j) (add-one k)) in
    rw (mod-mod, m, twice k) (omega arith)

module _ (g : ℕ) (d : first_data ≤ g) (v : List ℕ) where
  digits_more : (e : ℕ) (t : List ℕ) (k : ℕ)
      → ((j : ℕ) → T (doubling t g j) → sum_of t (row t v) g ≡ part (get_or v g 0) j (pulses_in t g)) → (a : Bool) → First e t g k a
      → cond a (weight_of e * (pulse_for e v % 2)) 0 + sum_of t (row t v) g ≡ part (get_or v g 0) k (cond a (suc (pulses_in t g)) (pulses_in t g))
  digits_more e t k ih false f = omega (arith, ih k f.1)
  digits_more e t k ih true f =
      let p : pulse_for e v ≡ get_or v g 0 / 2 ^ k % 2 = pulse_data e v k (rw f.0 d) f.1 ∙ rw f.0 in
      rw (p, f.1, ih (suc k) f.2) (part_more (get_or v g 0) k (pulses_in t g))

  digits : (t : List ℕ) (k : ℕ) → T (doubling t g k) → sum_of t (row t v) g ≡ part (get_or v g 0) k (pulses_in t g)
  unfolding sum_of share_of pulses_in row
  digits [] k h = sym (part_none (get_or v g 0) k)
  digits (e ∷ t) k h = digits_more e t k (digits t) (eqb (group_of e) g) (first e t g k h)

  -- what the row says of a group is its value, as far as its pulses go
  pub sum_of_row : (t : List ℕ) → T (doubling t g 0) → sum_of t (row t v) g ≡ get_or v g 0 % 2 ^ pulses_in t g
  unfolding part
  sum_of_row t h = digits t 0 h ∙ rw (div-one (get_or v g 0)) (mul-one (get_or v g 0 % 2 ^ pulses_in t g))

-- ---- each pulse is a digit of the sum

module _ (g : ℕ) where
  digit_here : (e : ℕ) (t s : List ℕ) (b k low : ℕ) → group_of e ≡ g → low < 2 ^ k → (a : Bool) → First e t g k a
      → digit_of (low + (cond a (weight_of e * (b % 2)) 0 + sum_of t s g)) (weight_of e) ≡ b % 2
  digit_here e t s b k low p l false f = absurd (f.0 p)
  digit_here e t s b k low p l true f =
      let m = multiple t s g (suc k) f.2 in
      let S : low + (2 ^ k * (b % 2) + sum_of t s g) ≡ (m.0 * 2 + b % 2) * 2 ^ k + low = rw (m.1, twice k) (omega arith) in
      rw (f.1, S, digit_is ((m.0 * 2 + b % 2) * 2 ^ k + low) k, digits_div (m.0 * 2 + b % 2) l, digits_mod m.0 (bit_small b))

  digit_later : (e : ℕ) (t s : List ℕ) (b w x k low : ℕ)
      → ((j m : ℕ) → T (doubling t g j) → m < 2 ^ j → digit_of (m + sum_of t s g) w ≡ x) → low < 2 ^ k → (a : Bool) → First e t g k a
      → digit_of (low + (cond a (weight_of e * (b % 2)) 0 + sum_of t s g)) w ≡ x
  digit_later e t s b w x k low ih l false f =
      let S : low + (0 + sum_of t s g) ≡ low + sum_of t s g = omega arith in
      rw S (ih k low f.1 l)
  digit_later e t s b w x k low ih l true f =
      let S : low + (2 ^ k * (b % 2) + sum_of t s g) ≡ low + 2 ^ k * (b % 2) + sum_of t s g = omega arith in
      let L : low + 2 ^ k * (b % 2) < 2 ^ suc k = omega (arith, twice k, mul-le-mul_left (2 ^ k) (bit_small b)) in
      rw (f.1, S) (ih (suc k) (low + 2 ^ k * (b % 2)) f.2 L)

  digit : (t s : List ℕ) (i k low : ℕ) → T (doubling t g k) → low < 2 ^ k → i < length t → i < length s → group_of (get_or t i 0) ≡ g
      → digit_of (low + sum_of t s g) (weight_of (get_or t i 0)) ≡ get_or s i 0 % 2
  unfolding sum_of share_of
  digit [] s i k low h l a b p = absurd (not-suc-le-zero a)
  digit (e ∷ t) [] i k low h l a b p = absurd (not-suc-le-zero b)
  digit (e ∷ t) (x ∷ s) zero k low h l a b p = digit_here e t s x k low p l (eqb (group_of e) g) (first e t g k h)
  digit (e ∷ t) (x ∷ s) (suc i) k low h l a b p =
      digit_later e t s x (weight_of (get_or t i 0)) (get_or s i 0 % 2) k low
      (λ j m u v. digit t s i j m u v (omega arith) (omega arith) p) l (eqb (group_of e) g) (first e t g k h)

  pub digit_of_sum : (t s : List ℕ) (i : ℕ) → T (doubling t g 0) → i < length t → i < length s → group_of (get_or t i 0) ≡ g
      → digit_of (sum_of t s g) (weight_of (get_or t i 0)) ≡ get_or s i 0 % 2
  digit_of_sum t s i h a b p =
      ap (λ (n : ℕ). digit_of n (weight_of (get_or t i 0))) (sym (zero-add (sum_of t s g))) ∙ digit t s i 0 0 h (omega arith) a b p
