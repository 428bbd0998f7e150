-- Sums over the first places: one place more, sums that agree place by place, and what a group adds up to as a sum over the places.
use mathlib.Core.Path.{◌≡◌, refl, sym, ap, ◌∙◌}
use mathlib.Core.List.{List, [], ◌∷◌}
use Prim.Native.Nat.{ℕ, zero, suc, ◌+◌, ◌*◌, ◌<◌, min}
use native.Mathlib.Nat.{le_refl, add-zero, zero-add, mul-add, mul-zero}
use native.Mathlib.Decide.{ℕ_discrete}
use native.Mathlib.Omega.{arith}
use lib.ListN.{length, get_or}
use Rattle.pulses.specs.Row.{share_of, sum_of, up_to}
use Rattle.pulses.specs.Tags.{total}

pub total_none : (f : ℕ → ℕ) → total f 0 ≡ 0
unfolding total
total_none f = refl

-- the first place by itself
pub total_first : (f : ℕ → ℕ) (n : ℕ) → total f (suc n) ≡ f 0 + total (λ i. f (suc i)) n
unfolding total
total_first f zero = omega arith
total_first f (suc n) = omega (arith, total_first f n)

pub total_same : (f g : ℕ → ℕ) (n : ℕ) → ((i : ℕ) → i < n → f i ≡ g i) → total f n ≡ total g n
unfolding total
total_same f g zero h = refl
total_same f g (suc n) h = rw (total_same f g n (λ i l. h i (omega arith)), h n (le_refl (suc n)))

-- a sum of which each place is a place of another, and a third one's m times over
pub total_both : (f g h : ℕ → ℕ) (m n : ℕ) → ((i : ℕ) → f i ≡ g i + m * h i) → total f n ≡ total g n + m * total h n
unfolding total
total_both f g h m zero e = omega arith
total_both f g h m (suc n) e = rw (total_both f g h m n e, e n, mul-add m (total h n) (h n)) (omega arith)

pub total-zero : (f : ℕ → ℕ) (n : ℕ) → ((i : ℕ) → f i ≡ 0) → total f n ≡ 0
unfolding total
total-zero f zero e = refl
total-zero f (suc n) e = omega (arith, total-zero f n e, e n)

pub total_nothing : (f : ℕ → ℕ) (n : ℕ) → ((i : ℕ) → i < n → f i ≡ 0) → total f n ≡ 0
total_nothing f n h = total_same f (λ i. 0) n h ∙ total-zero (λ i. 0) n (λ i. refl)

-- where every place but one adds nothing
pub total_one : (f : ℕ → ℕ) (r n : ℕ) → r < n → ((i : ℕ) → (i ≡ r → ⊥) → f i ≡ 0) → total f n ≡ f r
unfolding total
total_one f r zero h e = absurd (omega arith)
total_one f r (suc n) h e = elim (ℕ_discrete n r) [
  | yes q ↦ rw (total_nothing f n (λ i l. e i (λ z. omega arith)), ← q) (zero-add (f n))
  | no d ↦ rw (e n d, total_one f r n (omega arith) e) (add-zero (f r))
]

-- sums of sums, either way round
pub total_swap : (c : ℕ → ℕ) (f : ℕ → ℕ → ℕ) (m n : ℕ) → total (λ e. c e * total (λ i. f i e) n) m ≡ total (λ i. total (λ e. c e * f i e) m) n
unfolding total
total_swap c f m zero = total-zero (λ e. c e * 0) m (λ e. mul-zero (c e))
total_swap c f m (suc n) =
    total_both (λ e. c e * (total (λ i. f i e) n + f n e)) (λ e. c e * total (λ i. f i e) n) (λ e. c e * f n e) 1 m
    (λ e. rw (mul-add (c e) (total (λ i. f i e) n) (f n e)) (omega arith))
    ∙ rw (total_swap c f m n) (omega arith)

-- what a group's pulses add up to, over the places
pub sum-total : (t s : List ℕ) (g n : ℕ) → n ≡ min (length t) (length s) → sum_of t s g ≡ total (λ i. share_of (get_or t i 0) (get_or s i 0) g) n
unfolding sum_of
sum-total [] s g n m = let z : n ≡ 0 = omega arith in rw z (sym (total_none (λ i. share_of (get_or [] i 0) (get_or s i 0) g)))
sum-total (e ∷ t) [] g n m = let z : n ≡ 0 = omega arith in rw z (sym (total_none (λ i. share_of (get_or (e ∷ t) i 0) (get_or [] i 0) g)))
sum-total (e ∷ t) (b ∷ s) g zero m = absurd (omega arith)
sum-total (e ∷ t) (b ∷ s) g (suc n) m =
    ap (λ (x : ℕ). share_of e b g + x) (sum-total t s g n (omega arith))
    ∙ sym (total_first (λ i. share_of (get_or (e ∷ t) i 0) (get_or (b ∷ s) i 0) g) n)

-- two lists by their places
pub up_to_same : (f g : ℕ → ℕ) (n : ℕ) → ((i : ℕ) → i < n → f i ≡ g i) → up_to f n ≡ up_to g n
unfolding up_to
up_to_same f g zero h = refl
up_to_same f g (suc n) h = rw (up_to_same f g n (λ i l. h i (omega arith)), h n (le_refl (suc n)))
