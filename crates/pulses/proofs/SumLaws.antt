-- What the pulses of a group add up to, gathered for all groups place by place.
use mathlib.Core.Path.{◌≡◌, refl, sym, ap, ◌∙◌}
use mathlib.Core.Bool.{Bool, true, false, cond}
use mathlib.Core.List.{List, [], ◌∷◌}
use Prim.Native.Nat.{ℕ, zero, suc, ◌+◌, ◌*◌, ◌%◌, ◌<◌, ◌≤◌}
use native.Mathlib.Nat.{not-suc-le-zero, add-zero, le_refl}
use native.Mathlib.Decide.{ℕ_discrete}
use native.Mathlib.Numerals.{add-one}
use native.Mathlib.Omega.{arith}
use borrow.Author.Tests.{eq-eqb, ne_eqb}
use lib.Dec.{eqb}
use lib.ListN.{length, get_or, take, set, replicate, length-append, length-set, get_or-append}
use lib.Seq.{ext_get_or, get_or_at, get_or-set_same, get_or-set_other, take_all}
use Rattle.pulses.specs.Row.{weights, groups, most_places, group_of, weight_of, share_of, sum_of, up_to, sums_of}
use Rattle.pulses.proofs.EntryLaws.{group_small}

-- ---- a list by its places

module _ (f : ℕ → ℕ) where
  pub length_up_to : (n : ℕ) → length (up_to f n) ≡ n
  unfolding up_to
  length_up_to zero = refl
  length_up_to (suc n) = length-append (up_to f n) (f n ∷ []) ∙ rw (length_up_to n) (add-one n)

  pub up_to_at : (n i : ℕ) → i < n → get_or (up_to f n) i 0 ≡ f i
  unfolding up_to
  up_to_at zero i h = absurd (not-suc-le-zero h)
  up_to_at (suc n) i h = elim (ℕ_discrete i n) [
    | yes e ↦ get_or_at (up_to f n) (f n) [] 0 i (length_up_to n ∙ sym e) ∙ ap f (sym e)
    | no d ↦ let l : i < n = omega arith in get_or-append (up_to f n) (f n ∷ []) 0 i (rw length_up_to l) ∙ up_to_at n i l
  ]

  -- a list that has each of the numbers at its place
  pub up_to_each : (n : ℕ) (l : List ℕ) → length l ≡ n → ((i : ℕ) → i < n → get_or l i 0 ≡ f i) → l ≡ up_to f n
  up_to_each n l e h =
      ext_get_or 0 l (up_to f n) (e ∙ sym (length_up_to n))
      (λ i k. let m : i < n = omega (arith, e) in h i m ∙ sym (up_to_at n i m))

-- ---- the sums

-- each group's sum stands at its place, for a table of no more places than are summed
pub sums_at : (t s : List ℕ) (g : ℕ) → length t ≤ most_places → g < groups → get_or (sums_of t s) g 0 ≡ sum_of t s g
unfolding sums_of
sums_at t s g h k = up_to_at (sum_of (take most_places t) s) groups g k ∙ ap (λ (u : List ℕ). sum_of u s g) (take_all most_places t h)

pub length_sums : (t s : List ℕ) → length (sums_of t s) ≡ groups
unfolding sums_of
length_sums t s = length_up_to (sum_of (take most_places t) s) groups

none_left : (t : List ℕ) (g : ℕ) → sum_of t [] g ≡ 0
unfolding sum_of
none_left [] g = refl
none_left (e ∷ t) g = refl

-- one pulse more adds its share
sum-grows : (t s : List ℕ) (i g : ℕ) → i < length t → i < length s
    → sum_of t (take (suc i) s) g ≡ sum_of t (take i s) g + share_of (get_or t i 0) (get_or s i 0) g
unfolding sum_of
sum-grows [] s i g h k = absurd (not-suc-le-zero h)
sum-grows (e ∷ t) [] i g h k = absurd (not-suc-le-zero k)
sum-grows (e ∷ t) (b ∷ s) zero g h k = omega (arith, none_left t g)
sum-grows (e ∷ t) (b ∷ s) (suc i) g h k = omega (arith, sum-grows t s i g (omega arith) (omega arith))

-- ---- one pass

-- v holds what the first i places add
pub record Gathered (t s v : List ℕ) (i : ℕ) : Type 0 where
  pub long : length v ≡ groups
  pub holds : (g : ℕ) → get_or v g 0 ≡ sum_of t (take i s) g
  pub small : (g : ℕ) → get_or v g 0 ≤ 1048575 * i

pub zeros : (n g : ℕ) → ◌≡◌ {A = ℕ} (get_or (replicate n 0) g 0) 0
zeros zero g = refl
zeros (suc n) zero = refl
zeros (suc n) (suc g) = zeros n g

pub gathered_none : (t s : List ℕ) → Gathered t s (replicate groups 0) 0
gathered_none t s =
    record { long = refl; holds = λ g. omega (arith, zeros groups g, none_left t g); small = λ g. omega (arith, zeros groups g) }

added : (v : List ℕ) (f x g : ℕ) → f < length v → get_or (set v f (get_or v f 0 + x)) g 0 ≡ get_or v g 0 + cond (eqb f g) x 0
added v f x g h = elim (ℕ_discrete f g) [
  | yes e ↦ rw (eq-eqb f g e, ← e) (get_or-set_same v f (get_or v f 0 + x) 0 h)
  | no n ↦ rw (ne_eqb f g n) (get_or-set_other v f g (get_or v f 0 + x) 0 (λ q. n (sym q)) ∙ sym (add-zero (get_or v g 0)))
]

at_most : (a : Bool) (x : ℕ) → cond a x 0 ≤ x
at_most true x = le_refl x
at_most false x = omega arith

pub gathered_more : (t s v : List ℕ) (i f x : ℕ) → Gathered t s v i → i < length t → i < length s → f ≡ group_of (get_or t i 0)
    → x ≡ weight_of (get_or t i 0) * (get_or s i 0 % 2) → x < weights → Gathered t s (set v f (get_or v f 0 + x)) (i + 1)
unfolding share_of
gathered_more t s v i f x a h k p q r =
    let l : f < length v = omega (arith, a.long, group_small (get_or t i 0)) in
    let m : (g : ℕ) → sum_of t (take (suc i) s) g ≡ sum_of t (take i s) g + cond (eqb f g) x 0 = λ g. sum-grows t s i g h k ∙ rw (p, q) in
    record {
      long = length-set v f (get_or v f 0 + x) ∙ a.long;
      holds = λ g. rw add-one (omega (arith, added v f x g l, a.holds g, m g));
      small = λ g. omega (arith, added v f x g l, a.small g, at_most (eqb f g) x);
    }

-- what is gathered is the list of sums
pub gathered_all : (t s v : List ℕ) (i : ℕ) → Gathered t s v i → v ≡ up_to (sum_of t (take i s)) groups
gathered_all t s v i a =
    let f = sum_of t (take i s) in
    ext_get_or 0 v (up_to f groups) (a.long ∙ sym (length_up_to f groups))
    (λ g l. a.holds g ∙ sym (up_to_at f groups g (omega (arith, a.long))))
