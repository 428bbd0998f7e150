-- The offset of a string: a sign, hours and minutes say one offset, and an offset gives them back.
use mathlib.Core.Bool.{Bool, true, false, cond, not, ◌&&◌, ◌||◌}
use mathlib.Core.Path.{◌≡◌, refl, ◌∙◌}
use Prim.Native.Nat.{ℕ, zero, suc, ◌+◌, ◌*◌, ◌/◌, ◌%◌, ◌≤◌, ◌<◌}
use native.Mathlib.Omega.{arith}
use lib.Dec.{eqb, ltb}
use lib.IntN.{ℤ, pos, negsuc}
use borrow.Author.Tests.{not-false, ltb-true, ltb-false, lt-ltb, le-ltb, le-leb, eqb-true, eqb-false, eq-eqb, ne_eqb}
use Rattle.laws.proofs.Bools.{both, neither}
use Rattle.reading.specs.Offset.{unit, westmost, eastmost, west, east, offset_good}
use Rattle.reading.proofs.OffsetLaws.{offset_range}
use Rattle.erlangen.specs.Offset.{whole_units, units_of, too_far, offset_bad, signed, offset_of, is_behind, minutes_of}

-- ---- what a good offset of a string is

-- how far an offset goes to one side
abbrev pub farthest : Bool → ℕ
farthest behind = cond behind westmost eastmost

pub record Said (behind : Bool) (hours minutes : ℕ) : Type 0 where
  pub below : minutes < 60
  pub whole : minutes % unit ≡ 0
  pub not_minus_zero : behind ≡ true → 0 < units_of hours minutes
  pub near : units_of hours minutes ≤ farthest behind

minus-zero : (behind : Bool) (u : ℕ) → (behind && eqb u 0) ≡ false → behind ≡ true → 0 < u
minus-zero behind u e b = let d = eqb-false u 0 (rw b at e) in nonzero u d
  where
    nonzero : (u : ℕ) → (u ≡ 0 → ⊥) → 0 < u
    nonzero zero d = absurd (d refl)
    nonzero (suc u) d = omega arith

pub said : (behind : Bool) (hours minutes : ℕ) → offset_bad behind hours minutes ≡ false → Said behind hours minutes
unfolding offset_bad whole_units too_far
said behind hours minutes e =
    let u = units_of hours minutes in
    let a = neither (not (whole_units minutes)) (behind && eqb u 0 || too_far behind u) e in
    let b = neither (behind && eqb u 0) (too_far behind u) a.1 in
    let w = both (ltb minutes 60) (eqb (minutes % unit) 0) (not-false (whole_units minutes) a.0) in
    record {
      below = ltb-true minutes 60 w.0;
      whole = eqb-true (minutes % unit) 0 w.1;
      not_minus_zero = minus-zero behind u b.0;
      near = ltb-false (farthest behind) u b.1;
    }

pub not_far : (behind : Bool) (hours minutes : ℕ) → offset_bad behind hours minutes ≡ false → units_of hours minutes ≤ eastmost
not_far behind hours minutes e = farther behind (units_of hours minutes) (said behind hours minutes e).near
  where
    farther : (behind : Bool) (u : ℕ) → u ≤ farthest behind → u ≤ eastmost
    farther true u h = omega arith
    farther false u h = h

pub is_said : (behind : Bool) (hours minutes : ℕ) → Said behind hours minutes → offset_bad behind hours minutes ≡ false
unfolding offset_bad whole_units too_far
is_said behind hours minutes p = rw (lt-ltb minutes 60 p.below, eq-eqb (minutes % unit) 0 p.whole, le-ltb (farthest behind) (units_of hours minutes) p.near) (zero-ahead behind p.not_minus_zero)
  where
    zero-ahead : (b : Bool) → (b ≡ true → 0 < units_of hours minutes) → (b && eqb (units_of hours minutes) 0 || false) ≡ false
    zero-ahead true h = let l = h refl in rw (ne_eqb (units_of hours minutes) 0 (λ e. omega arith))
    zero-ahead false h = refl

pub offset_is : (behind : Bool) (hours minutes : ℕ) → offset_bad behind hours minutes ≡ false → offset_of behind hours minutes ≡ signed behind (units_of hours minutes)
unfolding offset_of
offset_is behind hours minutes e = rw e

-- ---- the two sides of an offset

pub sides : (behind : Bool) (n : ℕ) → (west (signed behind n) ≡ cond behind n 0) × (east (signed behind n) ≡ cond behind 0 n)
unfolding signed west east
sides true zero = (refl, refl)
sides true (suc n) = (refl, refl)
sides false n = (refl, refl)

-- an offset that goes no farther than it may to either side is good
pub near_good : (z : ℤ) → west z ≤ westmost → east z ≤ eastmost → offset_good z ≡ true
unfolding offset_good
near_good z h k = rw (le-leb (west z) westmost h, le-leb (east z) eastmost k)

pub signed_good : (behind : Bool) (n : ℕ) → n ≤ farthest behind → offset_good (signed behind n) ≡ true
signed_good true n h = let s = sides true n in near_good (signed true n) (omega arith) (omega arith)
signed_good false n h = let s = sides false n in near_good (signed false n) (omega arith) (omega arith)

pub said_good : (behind : Bool) (hours minutes : ℕ) → offset_bad behind hours minutes ≡ false → offset_good (offset_of behind hours minutes) ≡ true
said_good behind hours minutes e =
    rw (offset_is behind hours minutes e) (signed_good behind (units_of hours minutes) (said behind hours minutes e).near)

-- ---- what a string says of its offset is what the offset is written as

minutes_is : (z : ℤ) → minutes_of z ≡ unit * (west z + east z)
unfolding minutes_of
minutes_is z = refl

units_is : (hours minutes : ℕ) → units_of hours minutes ≡ (60 * hours + minutes) / unit
unfolding units_of
units_is hours minutes = refl

signed_minutes : (behind : Bool) (n : ℕ) → minutes_of (signed behind n) ≡ unit * n
signed_minutes true n = let s = sides true n in omega (arith, minutes_is (signed true n))
signed_minutes false n = let s = sides false n in omega (arith, minutes_is (signed false n))

signed_behind : (behind : Bool) (n : ℕ) → (behind ≡ true → 0 < n) → is_behind (signed behind n) ≡ behind
unfolding is_behind
signed_behind true n h = let l = h refl in let s = sides true n in lt-ltb 0 (west (signed true n)) (omega arith)
signed_behind false n h = let s = sides false n in le-ltb 0 (west (signed false n)) (omega arith)

-- the sign, hours and minutes that an offset is written as
pub record WrittenAs (z : ℤ) (behind : Bool) (hours minutes : ℕ) : Type 0 where
  pub sign : is_behind z ≡ behind
  pub hours_are : minutes_of z / 60 ≡ hours
  pub minutes_are : minutes_of z % 60 ≡ minutes

pub said_written : (behind : Bool) (hours minutes : ℕ) → offset_bad behind hours minutes ≡ false → WrittenAs (offset_of behind hours minutes) behind hours minutes
said_written behind hours minutes e =
    let p = said behind hours minutes e in
    let h = p.below in
    let k = p.whole in
    let u = units_is hours minutes in
    let m = signed_minutes behind (units_of hours minutes) in
    rw (offset_is behind hours minutes e) (record {
      sign = signed_behind behind (units_of hours minutes) p.not_minus_zero;
      hours_are = omega arith;
      minutes_are = omega arith;
    })

-- ---- what an offset is written as says that offset

written_near : (z : ℤ) → offset_good z ≡ true → west z + east z ≤ farthest (is_behind z)
unfolding is_behind west east
written_near (pos n) e = let h = offset_range (pos n) e in omega arith
written_near (negsuc n) e = let h = offset_range (negsuc n) e in rw (lt-ltb 0 (suc n) (omega arith)) (omega arith)

written_ahead : (z : ℤ) → is_behind z ≡ true → 0 < west z
unfolding is_behind
written_ahead z e = ltb-true 0 (west z) e

signed_back : (z : ℤ) → signed (is_behind z) (west z + east z) ≡ z
unfolding is_behind west east signed
signed_back (pos n) = let e : 0 + n ≡ n = omega arith in rw e
signed_back (negsuc n) = let e : suc n + 0 ≡ suc n = omega arith in rw (e, lt-ltb 0 (suc n) (omega arith))

module _ (z : ℤ) (good : offset_good z ≡ true) where
  units_back : units_of (minutes_of z / 60) (minutes_of z % 60) ≡ west z + east z
  units_back = omega (arith, units_is (minutes_of z / 60) (minutes_of z % 60), minutes_is z)

  pub written_said : offset_bad (is_behind z) (minutes_of z / 60) (minutes_of z % 60) ≡ false
  written_said = is_said (is_behind z) (minutes_of z / 60) (minutes_of z % 60) (record {
    below = omega arith;
    whole = omega (arith, minutes_is z);
    not_minus_zero = λ b. omega (arith, units_back, written_ahead z b);
    near = rw units_back (written_near z good);
  })

  pub written_back : offset_of (is_behind z) (minutes_of z / 60) (minutes_of z % 60) ≡ z
  written_back = offset_is (is_behind z) (minutes_of z / 60) (minutes_of z % 60) written_said ∙ rw units_back (signed_back z)

  pub hours_few : minutes_of z / 60 < 100
  hours_few = let h = offset_range z good in omega (arith, minutes_is z)
