-- Each field of a Meinberg string, read and written: its bytes and its value name each other.
use mathlib.Core.Bool.{Bool, true, false, ◌&&◌}
use mathlib.Core.List.{List}
use mathlib.Core.Logic.{◌⊎◌, inl, inr}
use mathlib.Core.Path.{◌≡◌, refl}
use Prim.Native.Nat.{ℕ, ◌+◌, ◌%◌, ◌≤◌, ◌<◌}
use native.Mathlib.Omega.{arith}
use lib.Dec.{leb, eqb, eqb→eq}
use lib.ListN.{get_or}
use Rattle.laws.proofs.Bools.{where_not, otherwise}
use Rattle.laws.proofs.Tested.{at}
use Rattle.reading.proofs.CheckLaws.{clash}
use Rattle.reading.specs.Years.{year_of}
use Rattle.reading.proofs.YearLaws.{digits_of}
use Rattle.wire.specs.Digits.{digit, pair, tens, ones}
use Rattle.wire.proofs.DigitLaws.{digit_of_lem, digit_back, pair_small, tens_back, ones_back}
use Rattle.meinberg.specs.Layout.{space, bang, hash, star, letter_a}
use Rattle.meinberg.specs.Meaning.{quality_of}
use Rattle.meinberg.specs.Writing.{mark, announcement, year_digits}

-- ---- digits

-- a byte that is a decimal digit
abbrev pub Digit : ℕ → Type 0
Digit b = (48 ≤ b) × (b ≤ 57)

module _ (s : List ℕ) (i : ℕ) (a : Digit (get_or s i 0)) (b : Digit (get_or s (i + 1) 0)) where
  pub digits_small : pair s i < 100
  unfolding pair
  digits_small = pair_small (get_or s i 0) (get_or s (i + 1) 0) a.0 a.1 b.0 b.1

  pub tens_of_pair : tens (pair s i) ≡ get_or s i 0
  unfolding pair
  tens_of_pair = tens_back (get_or s i 0) (get_or s (i + 1) 0) a.0 a.1 b.0 b.1

  pub ones_of_pair : ones (pair s i) ≡ get_or s (i + 1) 0
  unfolding pair
  ones_of_pair = ones_back (get_or s i 0) (get_or s (i + 1) 0) a.0 a.1 b.0 b.1

  -- the digits of the year that they name
  pub year_of_pair : (base : ℕ) → year_digits (year_of base (pair s i)) ≡ pair s i
  year_of_pair base = let h = digits_small in omega (arith, digits_of base (pair s i))

pub one_back : (b : ℕ) → Digit b → ones (digit b) ≡ b
unfolding ones
one_back b p = let e = digit_of_lem b p.0 p.1 in omega arith

pub digit_of_ones : (v : ℕ) → v < 10 → digit (ones v) ≡ v
unfolding ones
digit_of_ones v h = let e : v % 10 ≡ v = omega arith in rw e (digit_back v h)

-- ---- marks

pub mark_is : (flag : Bool) (letter : ℕ) → (mark flag letter ≡ letter) ⊎ (mark flag letter ≡ space)
mark_is true letter = inl refl
mark_is false letter = inr refl

-- u: quality 0 and 15
pub quality_back : (q : ℕ) → q ≤ 15 → (leb 1 q && leb q 14) ≡ false → quality_of (mark (eqb q 15) hash) ≡ q
unfolding quality_of
quality_back q h e = eqb→eq _ q (otherwise (leb 1 q && leb q 14) _ (at carries 16 tt q (omega arith)) e)
  where
    carries : ℕ → Bool
    carries q = where_not (leb 1 q && leb q 14) (eqb (quality_of (mark (eqb q 15) hash)) q)

pub failure_back : (u : ℕ) → (u ≡ hash) ⊎ (u ≡ space) → mark (eqb (quality_of u) 15) hash ≡ u
unfolding quality_of
failure_back u (inl e) = rw e
failure_back u (inr e) = rw e

pub quality_two : (u : ℕ) → (u ≡ hash) ⊎ (u ≡ space) → (quality_of u ≤ 15) × ((leb 1 (quality_of u) && leb (quality_of u) 14) ≡ false)
unfolding quality_of
quality_two u (inl e) = rw e (omega arith, refl)
quality_two u (inr e) = rw e (omega arith, refl)

-- v: coasting
pub coasting_back : (coasting : Bool) → eqb (mark coasting star) star ≡ coasting
coasting_back true = refl
coasting_back false = refl

pub star_back : (v : ℕ) → (v ≡ star) ⊎ (v ≡ space) → mark (eqb v star) star ≡ v
star_back v (inl e) = rw e
star_back v (inr e) = rw e

-- y: what is announced
abbrev pub AnnouncementByte : ℕ → Type 0
AnnouncementByte y = (y ≡ bang) ⊎ ((y ≡ letter_a) ⊎ (y ≡ space))

pub announcement_is : (change leap : Bool) → AnnouncementByte (announcement change leap)
unfolding announcement
announcement_is true leap = inl refl
announcement_is false true = inr (inl refl)
announcement_is false false = inr (inr refl)

pub announced_back : (change leap : Bool) → (change && leap) ≡ false
    → (eqb (announcement change leap) bang ≡ change) × (eqb (announcement change leap) letter_a ≡ leap)
unfolding announcement
announced_back true true e = let z : ◌≡◌ {A = ℕ} 0 1 = cc in clash z
announced_back true false e = (refl, refl)
announced_back false true e = (refl, refl)
announced_back false false e = (refl, refl)

pub announcement_back : (y : ℕ) → AnnouncementByte y → announcement (eqb y bang) (eqb y letter_a) ≡ y
unfolding announcement
announcement_back y (inl e) = rw e
announcement_back y (inr (inl e)) = rw e
announcement_back y (inr (inr e)) = rw e

pub one_announced : (y : ℕ) → AnnouncementByte y → (eqb y bang && eqb y letter_a) ≡ false
one_announced y (inl e) = rw e
one_announced y (inr (inl e)) = rw e
one_announced y (inr (inr e)) = rw e
