-- What an entry of a table tells: its group is one of 32, and a pulse that is laid at it is allowed there.
use mathlib.Core.Path.{◌≡◌, refl, sym, ap, ◌∙◌}
use mathlib.Core.Bool.{Bool, true, false, cond}
use Prim.Native.Nat.{ℕ, zero, suc, ◌+◌, ◌-◌, ◌*◌, ◌/◌, ◌%◌, ◌^◌, ◌<◌, ◌≤◌}
use native.Mathlib.Nat.{mod-eq_of_lt, pow-succ'}
use native.Mathlib.Omega.{arith}
use lib.Bits.{bit_and, and_high}
use lib.Dec.{ltb, eqb}
use lib.ListN.{get_or}
use lib.Pow.{pow_pos}
use borrow.Author.Tests.{lt-ltb, le-ltb, ltb-true, ltb-false, eqb-true, eq-eqb, ne_eqb}
use mathlib.Core.List.{List}
use Rattle.pulses.specs.Row.{groups, first_data, group_of, is_fixed, weight_of, pulse_allowed, digit_of, pulse_of, pulse_for}

pub group_small : (e : ℕ) → group_of e < groups
unfolding group_of
group_small e = omega arith

-- ---- fixed, or data

module _ (e : ℕ) where
  pub fixed : group_of e < first_data → is_fixed e ≡ true
  fixed h = lt-ltb (group_of e) first_data h

  pub loose : first_data ≤ group_of e → is_fixed e ≡ false
  loose h = le-ltb (group_of e) first_data h

  pub fixed_allowed : (b : ℕ) → group_of e < first_data → pulse_allowed e b ≡ eqb b (group_of e)
  unfolding pulse_allowed
  fixed_allowed b h = rw (fixed h)

  pub data_allowed : (b : ℕ) → first_data ≤ group_of e → pulse_allowed e b ≡ ltb b 2
  unfolding pulse_allowed
  data_allowed b h = rw (loose h)

  pub fixed_pulse : (n : ℕ) → group_of e < first_data → pulse_of e n ≡ group_of e
  unfolding pulse_of
  fixed_pulse n h = rw (fixed h)

  pub data_pulse : (n : ℕ) → first_data ≤ group_of e → pulse_of e n ≡ digit_of n (weight_of e)
  unfolding pulse_of
  data_pulse n h = rw (loose h)

-- ---- the digit that a power of two picks

pub digit_small : (n w : ℕ) → digit_of n w < 2
unfolding digit_of
digit_small n w = small (eqb (bit_and n w) 0)
  where
    small : (b : Bool) → cond b 0 1 < 2
    small true = omega arith
    small false = omega arith

pub digit_is : (n k : ℕ) → digit_of n (2 ^ k) ≡ n / 2 ^ k % 2
unfolding digit_of
digit_is n k = rw common (one-or-none (n / 2 ^ k % 2) (omega arith))
  where
    alone : 2 ^ (1 + k) - 2 ^ k ≡ 2 ^ k
    alone = let e : 1 + k ≡ suc k = omega arith in rw e (omega (arith, pow-succ' 2 k))

    common : bit_and n (2 ^ k) ≡ (n / 2 ^ k % 2) * 2 ^ k
    common = ap (bit_and n) (sym alone) ∙ and_high n 1 k

    one-or-none : (x : ℕ) → x < 2 → cond (eqb (x * 2 ^ k) 0) 0 1 ≡ x
    one-or-none zero h = rw (eq-eqb (0 * 2 ^ k) 0 (omega arith))
    one-or-none (suc zero) h = rw (ne_eqb (1 * 2 ^ k) 0 (λ e. omega (arith, pow_pos k)))
    one-or-none (suc (suc x)) h = absurd (omega arith)

-- ---- a pulse and a byte at one entry

laid_allowed : (f : Bool) (g d : ℕ) → d < 2 → (let y : ℕ = cond f g d in cond f (eqb y g) (ltb y 2)) ≡ true
laid_allowed true g d h = eq-eqb g g refl
laid_allowed false g d h = lt-ltb d 2 h

pub pulse_allowed_lem : (e n : ℕ) → pulse_allowed e (pulse_of e n) ≡ true
unfolding pulse_allowed pulse_of
pulse_allowed_lem e n = laid_allowed (is_fixed e) (group_of e) (digit_of n (weight_of e)) (digit_small n (weight_of e))

laid_same : (f : Bool) (g d b : ℕ) → cond f (eqb b g) (ltb b 2) ≡ true → (f ≡ false → d ≡ b % 2) → cond f g d ≡ b
laid_same true g d b h k = sym (eqb-true b g h)
laid_same false g d b h k = k refl ∙ mod-eq_of_lt (ltb-true b 2 h)

-- a byte that is allowed is the pulse of every value that has its digit
pub pulse_same : (e n b : ℕ) → pulse_allowed e b ≡ true → (first_data ≤ group_of e → digit_of n (weight_of e) ≡ b % 2) → pulse_of e n ≡ b
unfolding pulse_allowed pulse_of
pulse_same e n b h k = laid_same (is_fixed e) (group_of e) (digit_of n (weight_of e)) b h (λ f. k (ltb-false (group_of e) first_data f))

-- the pulse at an entry of data is the digit that its weight, a power of two, picks
pub pulse_data : (e : ℕ) (v : List ℕ) (k : ℕ) → first_data ≤ group_of e → weight_of e ≡ 2 ^ k → pulse_for e v ≡ get_or v (group_of e) 0 / 2 ^ k % 2
unfolding pulse_for
pulse_data e v k d w = data_pulse e (get_or v (group_of e) 0) d ∙ rw w (digit_is (get_or v (group_of e) 0) k)

by_value : (f : Bool) (g x y : ℕ) → (f ≡ false → x ≡ y) → cond f g x ≡ cond f g y
by_value true g x y k = refl
by_value false g x y k = k refl

-- the pulse goes by the value of its own group alone
pub pulse_for_same : (e : ℕ) (v w : List ℕ)
    → (first_data ≤ group_of e → get_or v (group_of e) 0 ≡ get_or w (group_of e) 0) → pulse_for e v ≡ pulse_for e w
unfolding pulse_for pulse_of
pulse_for_same e v w h =
    by_value (is_fixed e) (group_of e) (digit_of (get_or v (group_of e) 0) (weight_of e)) (digit_of (get_or w (group_of e) 0) (weight_of e))
    (λ f. ap (λ (n : ℕ). digit_of n (weight_of e)) (h (ltb-false (group_of e) first_data f)))
