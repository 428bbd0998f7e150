-- How many pulses from the start are as the table asks: every one before that place is allowed, and the one there is not.
use mathlib.Core.Path.{◌≡◌, refl, sym, ◌∙◌, subst}
use mathlib.Core.Bool.{Bool, true, false, cond}
use mathlib.Core.List.{List, [], ◌∷◌}
use Prim.Native.Nat.{ℕ, zero, suc, ◌+◌, ◌<◌, ◌≤◌, min}
use native.Mathlib.Nat.{not-suc-le-zero, le_refl, zero-add}
use native.Mathlib.Decide.{dec_le}
use native.Mathlib.Numerals.{add-one}
use native.Mathlib.Omega.{arith}
use lib.ListN.{length, get_or, drop, drop_of_length-le}
use lib.Seq.{drop-cons}
use Rattle.pulses.specs.Row.{pulse_allowed, good_pulses}

-- the byte at place i is as the table asks
abbrev pub allowed_at : List ℕ → List ℕ → ℕ → Bool
allowed_at t s i = pulse_allowed (get_or t i 0) (get_or s i 0)

none_left : (t : List ℕ) → good_pulses t [] ≡ 0
unfolding good_pulses
none_left [] = refl
none_left (e ∷ t) = refl

cond_small : (a : Bool) {n m : ℕ} → n ≤ m → cond a (suc n) 0 ≤ suc m
cond_small true h = omega arith
cond_small false h = omega arith

pub good_in_table : (t s : List ℕ) → good_pulses t s ≤ length t
unfolding good_pulses
good_in_table [] s = le_refl 0
good_in_table (e ∷ t) [] = omega arith
good_in_table (e ∷ t) (b ∷ s) = cond_small (pulse_allowed e b) (good_in_table t s)

pub good_in_row : (t s : List ℕ) → good_pulses t s ≤ length s
unfolding good_pulses
good_in_row [] s = omega arith
good_in_row (e ∷ t) [] = le_refl 0
good_in_row (e ∷ t) (b ∷ s) = cond_small (pulse_allowed e b) (good_in_row t s)

-- ---- from place i on

module _ (t s : List ℕ) (i : ℕ) where
  module _ (h : i < length t) (k : i < length s) where
    here : good_pulses (drop i t) (drop i s) ≡ cond (allowed_at t s i) (suc (good_pulses (drop (suc i) t) (drop (suc i) s))) 0
    unfolding good_pulses
    here = rw (drop-cons t i 0 h, drop-cons s i 0 k)

    -- a good pulse is counted
    pub good_more : allowed_at t s i ≡ true → good_pulses (drop i t) (drop i s) ≡ suc (good_pulses (drop (suc i) t) (drop (suc i) s))
    good_more e = here ∙ rw e

    -- a bad one ends the count
    pub good-stops : allowed_at t s i ≡ false → good_pulses (drop i t) (drop i s) ≡ 0
    good-stops e = here ∙ rw e

  -- and so does the end of the table or of the row
  pub good_ends : min (length t) (length s) ≤ i → good_pulses (drop i t) (drop i s) ≡ 0
  unfolding good_pulses
  good_ends h = elim (dec_le (length t) i) [
    | yes k ↦ rw (drop_of_length-le t k)
    | no k ↦ let l : length s ≤ i = omega arith in rw (drop_of_length-le s l) (none_left (drop i t))
  ]

-- the first i are counted, and the count goes on from there
abbrev pub Counted : List ℕ → List ℕ → ℕ → Type 0
Counted t s i = i + good_pulses (drop i t) (drop i s) ≡ good_pulses t s

module _ (t s : List ℕ) where
  pub counted_none : Counted t s 0
  counted_none = zero-add (good_pulses t s)

  module _ (i : ℕ) (c : Counted t s i) where
    pub counted-more : i < length t → i < length s → allowed_at t s i ≡ true → Counted t s (i + 1)
    counted-more h k e = rw add-one (omega (arith, good_more t s i h k e))

    pub counted-stops : i < length t → i < length s → allowed_at t s i ≡ false → i ≡ good_pulses t s
    counted-stops h k e = omega (arith, good-stops t s i h k e)

    pub counted-ends : min (length t) (length s) ≤ i → i ≡ good_pulses t s
    counted-ends h = omega (arith, good_ends t s i h)

  -- the count goes on where the first i are good
  pub good_from : (i : ℕ) → i ≤ length t → i ≤ length s → ((j : ℕ) → j < i → allowed_at t s j ≡ true) → Counted t s i
  good_from zero h k a = counted_none
  good_from (suc i) h k a =
      subst (λ (n : ℕ). Counted t s n) (add-one i)
      (counted-more i (good_from i (omega arith) (omega arith) (λ j l. a j (omega arith))) h k (a i (le_refl (suc i))))

-- ---- the count, and what stands before it and at it

counted : (a : Bool) (n i : ℕ) → i < cond a (suc n) 0 → (a ≡ true) × (i ≤ n)
counted true n i h = (refl, omega arith)
counted false n i h = absurd (not-suc-le-zero h)

-- every pulse before it is allowed
pub good_before : (t s : List ℕ) (i : ℕ) → i < good_pulses t s → allowed_at t s i ≡ true
unfolding good_pulses
good_before [] s i h = absurd (not-suc-le-zero h)
good_before (e ∷ t) [] i h = absurd (not-suc-le-zero h)
good_before (e ∷ t) (b ∷ s) zero h = (counted (pulse_allowed e b) (good_pulses t s) 0 h).0
good_before (e ∷ t) (b ∷ s) (suc i) h = good_before t s i (counted (pulse_allowed e b) (good_pulses t s) (suc i) h).1

-- all are good where each is allowed
pub all-good : (t s : List ℕ) → length t ≤ length s → ((i : ℕ) → i < length t → allowed_at t s i ≡ true) → good_pulses t s ≡ length t
all-good t s h a = sym (counted-ends t s (length t) (good_from t s (length t) (le_refl (length t)) h a) (omega arith))

-- and each is allowed where all are good
pub each_allowed : (t s : List ℕ) → good_pulses t s ≡ length t → (i : ℕ) → i < length t → allowed_at t s i ≡ true
each_allowed t s e i h = good_before t s i (omega arith)

-- the count is the first bad place
pub first_bad : (t s : List ℕ) (i : ℕ) → i < length t → i < length s → ((j : ℕ) → j < i → allowed_at t s j ≡ true)
    → allowed_at t s i ≡ false → good_pulses t s ≡ i
first_bad t s i h k a e = sym (counted-stops t s i (good_from t s i (omega arith) (omega arith) a) h k e)
