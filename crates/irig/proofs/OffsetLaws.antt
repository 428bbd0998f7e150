-- The offset of a frame: a sign and half hours say one amount and no other, and it is the opposite of local minus UTC. An offset
-- that is no odd quarter comes back from them, and what they say is never an odd quarter.
use mathlib.Core.Path.{◌≡◌, refl, sym, ap, subst, ◌∙◌}
use mathlib.Core.Bool.{Bool, true, false, ◌&&◌}
use Prim.Native.Nat.{ℕ, zero, suc, ◌+◌, ◌*◌, ◌/◌, ◌%◌, ◌<◌, ◌≤◌}
use native.Mathlib.Omega.{arith}
use borrow.Author.Tests.{lt-ltb, eq-eqb, ne_eqb, eqb-true, not-false}
use lib.Dec.{T, eqb, ltb}
use lib.IntN.{ℤ, pos, negsuc, nat_abs}
use lib.Signed.{mag}
use Rattle.reading.specs.Offset.{westmost, eastmost, west, east, offset_good, opposite, local_of}
use Rattle.reading.proofs.OffsetLaws.{opposite_twice, local_back, offset_range}
use Rattle.irig.specs.Offset.{per_half, amount_of, is_minus, halves_of, odd_quarter}

-- the sign is a minus exactly where local time is ahead of UTC
pub minus_ahead : (z : ℤ) → is_minus (opposite z) ≡ ltb 0 (east z)
unfolding east
minus_ahead (pos zero) = refl
minus_ahead (pos (suc n)) = sym (lt-ltb 0 (suc n) (omega arith))
minus_ahead (negsuc n) = refl

-- ---- an amount of whole half hours gives its sign and half hours, and they give it back

abbrev Whole : ℕ → Type 0
Whole n = n % per_half ≡ 0

whole : (n : ℕ) → Whole n → per_half * (n / per_half) ≡ n
whole n e = omega arith

pub amount_back : (a : ℤ) → Whole (nat_abs a) → amount_of (is_minus a) (halves_of a) ≡ a
amount_back (pos n) e = ap pos (whole n e)
amount_back (negsuc n) e = ap (λ (k : ℕ). opposite (pos k)) (whole (suc n) e)

-- and never a minus zero
pub no_minus-zero : (a : ℤ) → Whole (nat_abs a) → (is_minus a && eqb (halves_of a) 0) ≡ false
no_minus-zero (pos n) e = refl
no_minus-zero (negsuc n) e = ne_eqb (suc n / per_half) 0 (λ z. omega arith)

-- ---- sign and half hours, but for a minus zero, give an amount, and it gives them back

minus_of : (k : ℕ) → 0 < k → is_minus (opposite (pos k)) ≡ true
minus_of zero h = absurd (omega arith)
minus_of (suc k) h = refl

pub sign_back : (m : Bool) (h : ℕ) → (m && eqb h 0) ≡ false → is_minus (amount_of m h) ≡ m
sign_back false h e = refl
sign_back true zero e = absurd (subst T e tt)
sign_back true (suc h) e = minus_of (per_half * suc h) (omega arith)

size_of : (k : ℕ) → nat_abs (opposite (pos k)) ≡ k
size_of zero = refl
size_of (suc k) = refl

size : (m : Bool) (h : ℕ) → nat_abs (amount_of m h) ≡ per_half * h
size false h = refl
size true h = size_of (per_half * h)

pub halves_back : (m : Bool) (h : ℕ) → halves_of (amount_of m h) ≡ h
halves_back m h = omega (arith, size m h)

-- ---- the other sense

small : (a : ℤ) → nat_abs a < 128 → mag (opposite a) < 128
small (pos zero) h = h
small (pos (suc n)) h = omega arith
small (negsuc n) h = h

-- local minus UTC, taken from what a frame says, is its opposite
pub local_of_amount : (m : Bool) (h : ℕ) → per_half * h < 128 → opposite (local_of (amount_of m h)) ≡ amount_of m h
local_of_amount m h k =
    let a = amount_of m h in
    ap opposite (ap local_of (sym (opposite_twice a)) ∙ local_back (opposite a) (small a (omega (arith, size m h)))) ∙ opposite_twice a

near : (z : ℤ) → (west z ≤ westmost) × (east z ≤ eastmost) → (mag z < 128) × (halves_of (opposite z) ≤ eastmost / per_half)
unfolding west east
near (pos zero) r = (omega arith, omega arith)
near (pos (suc n)) r = (omega arith, omega arith)
near (negsuc n) r = (omega arith, omega arith)

-- an offset that a reading may have comes back from its frame
pub offset_back : (z : ℤ) → offset_good z ≡ true → local_of (opposite z) ≡ z
offset_back z e = local_back z (near z (offset_range z e)).0

-- and has no more half hours than the pulses hold
pub halves_few : (z : ℤ) → offset_good z ≡ true → halves_of (opposite z) ≤ eastmost / per_half
halves_few z e = (near z (offset_range z e)).1

-- ---- odd quarters

-- an amount is as large as the offset that it is the opposite of
as_large : (z : ℤ) → nat_abs (opposite z) ≡ west z + east z
unfolding west east
as_large (pos zero) = refl
as_large (pos (suc n)) = omega arith
as_large (negsuc n) = omega arith

-- what is no odd quarter is whole half hours
pub even_whole : (z : ℤ) → odd_quarter z ≡ false → Whole (nat_abs (opposite z))
unfolding odd_quarter
even_whole z e = let k = eqb-true ((west z + east z) % per_half) 0 (not-false _ e) in omega (arith, as_large z)

-- what a frame says is twice its half hours, in quarters to one side of UTC, and so no odd quarter
pub twice_the_halves : (m : Bool) (h : ℕ) → per_half * h < 128
    → (west (local_of (amount_of m h)) + east (local_of (amount_of m h)) ≡ per_half * h) × (odd_quarter (local_of (amount_of m h)) ≡ false)
unfolding odd_quarter
twice_the_halves m h k =
    let z = local_of (amount_of m h) in
    let e : west z + east z ≡ per_half * h = sym (as_large z) ∙ ap nat_abs (local_of_amount m h k) ∙ size m h in
    let w : (west z + east z) % per_half ≡ 0 = omega arith in
    (e, rw (eq-eqb ((west z + east z) % per_half) 0 w))
