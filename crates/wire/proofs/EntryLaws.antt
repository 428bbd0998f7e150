-- Which bytes an entry of a layout allows: the packed number unpacks, and each kind of entry means what its name says.
use mathlib.Core.Path.{◌≡◌, refl, sym, ◌∙◌}
use mathlib.Core.Bool.{Bool, true, false, ◌&&◌, ◌||◌}
use mathlib.Core.Logic.{◌⊎◌, inl, inr}
use Prim.Native.Nat.{ℕ, ◌+◌, ◌*◌, ◌/◌, ◌%◌, ◌^◌, ◌≤◌, ◌<◌}
use native.Mathlib.Omega.{arith}
use lib.Dec.{leb, eqb}
use borrow.Author.Tests.{le-leb, leb-true, eq-eqb, eqb-true}
use Rattle.laws.proofs.Bools.{both, either as one_of_two}
use Rattle.wire.specs.Layout.{packed, exactly, from, either, one_of, within, beside, allowed}

-- ---- truth values

twice : (a : Bool) → (a || a) ≡ a
twice true = refl
twice false = refl

absorbs : (a b : Bool) → (b ≡ true → a ≡ true) → (a || b) ≡ a
absorbs true b f = refl
absorbs false true f = sym (f refl)
absorbs false false f = refl

or_right : (a b : Bool) → b ≡ true → (a || b) ≡ true
or_right true b e = refl
or_right false b e = e

or_left : (a b : Bool) → a ≡ true → (a || b) ≡ true
or_left a b e = rw e

same_tests : (a b : Bool) → (a ≡ true → b ≡ true) → (b ≡ true → a ≡ true) → a ≡ b
same_tests true b f g = sym (f refl)
same_tests false true f g = g refl
same_tests false false f g = refl

both_hold : (a b : Bool) → a ≡ true → b ≡ true → (a && b) ≡ true
both_hold a b p q = rw (p, q)

-- ---- a packed number, unpacked

pub allowed_packed : (low high other third x : ℕ) → low < 256 → high < 256 → other < 256
    → allowed (packed low high other third) x ≡ ((leb low x && leb x high) || (eqb x other || eqb x third))
unfolding allowed within beside packed
allowed_packed low high other third x a b c =
    let p : (low + 256 * high + 65536 * other + 16777216 * third) % 256 ≡ low = omega arith in
    let q : (low + 256 * high + 65536 * other + 16777216 * third) / 256 ≡ high + 256 * other + 65536 * third = omega arith in
    let r : (low + 256 * high + 65536 * other + 16777216 * third) / 65536 ≡ other + 256 * third = omega arith in
    let s : (low + 256 * high + 65536 * other + 16777216 * third) / 16777216 ≡ third = omega arith in
    let t : (high + 256 * other + 65536 * third) % 256 ≡ high = omega arith in
    let u : (other + 256 * third) % 256 ≡ other = omega arith in
    rw (p, q, r, s, t, u)

-- and its four bytes packed again
pub packed_bytes : (e : ℕ) → e < 2 ^ 32 → packed (e % 256) (e / 256 % 256) (e / 65536 % 256) (e / 16777216 % 256) ≡ e
unfolding packed
packed_bytes e h = omega arith

one_byte : (a x : ℕ) → (leb a x && leb x a) ≡ eqb x a
one_byte a x = same_tests _ _ there back
  where
    there : (leb a x && leb x a) ≡ true → eqb x a ≡ true
    there e = let p = both (leb a x) (leb x a) e in eq-eqb x a (omega (arith, leb-true a x p.0, leb-true x a p.1))

    back : eqb x a ≡ true → (leb a x && leb x a) ≡ true
    back e = let p = eqb-true x a e in both_hold _ _ (le-leb a x (omega arith)) (le-leb x a (omega arith))

-- ---- each kind of entry, as the test that it makes

pub exactly_test : (b x : ℕ) → b < 256 → allowed (exactly b) x ≡ eqb x b
unfolding exactly
exactly_test b x h = allowed_packed b b b b x h h h ∙ rw (one_byte, twice (eqb x b), twice (eqb x b))

pub from_test : (low high x : ℕ) → low ≤ high → high < 256 → allowed (from low high) x ≡ (leb low x && leb x high)
unfolding from
from_test low high x h k =
    allowed_packed low high low low x (omega arith) k (omega arith) ∙ rw (twice (eqb x low)) (absorbs _ _ inside)
  where
    inside : eqb x low ≡ true → (leb low x && leb x high) ≡ true
    inside e = let p = eqb-true x low e in both_hold _ _ (le-leb low x (omega arith)) (le-leb x high (omega arith))

pub either_test : (a b x : ℕ) → a < 256 → b < 256 → allowed (either a b) x ≡ (eqb x a || eqb x b)
unfolding either
either_test a b x h k = allowed_packed a a b b x h h k ∙ rw (one_byte, twice (eqb x b))

pub one_of_test : (a b c x : ℕ) → a < 256 → b < 256 → allowed (one_of a b c) x ≡ (eqb x a || (eqb x b || eqb x c))
unfolding one_of
one_of_test a b c x h k = allowed_packed a a b c x h h k ∙ rw one_byte

-- ---- each kind of entry, as a fact of the byte, and back

pub exactly_is : (b x : ℕ) → b < 256 → allowed (exactly b) x ≡ true → x ≡ b
exactly_is b x h e = eqb-true x b (sym (exactly_test b x h) ∙ e)

pub exactly_allows : (b x : ℕ) → b < 256 → x ≡ b → allowed (exactly b) x ≡ true
exactly_allows b x h e = exactly_test b x h ∙ eq-eqb x b e

pub from_is : (low high x : ℕ) → low ≤ high → high < 256 → allowed (from low high) x ≡ true → (low ≤ x) × (x ≤ high)
from_is low high x h k e =
    let p = both (leb low x) (leb x high) (sym (from_test low high x h k) ∙ e) in
    (leb-true low x p.0, leb-true x high p.1)

pub from_allows : (low high x : ℕ) → high < 256 → low ≤ x → x ≤ high → allowed (from low high) x ≡ true
from_allows low high x k a b = from_test low high x (omega arith) k ∙ both_hold _ _ (le-leb low x a) (le-leb x high b)

two_tests : (a b x : ℕ) → (eqb x a || eqb x b) ≡ true → (x ≡ a) ⊎ (x ≡ b)
two_tests a b x e = elim (one_of_two (eqb x a) (eqb x b) e) [ inl p ↦ inl (eqb-true x a p) | inr q ↦ inr (eqb-true x b q) ]

two_pass : (a b x : ℕ) → (x ≡ a) ⊎ (x ≡ b) → (eqb x a || eqb x b) ≡ true
two_pass a b x (inl p) = or_left _ _ (eq-eqb x a p)
two_pass a b x (inr q) = or_right (eqb x a) _ (eq-eqb x b q)

pub either_is : (a b x : ℕ) → a < 256 → b < 256 → allowed (either a b) x ≡ true → (x ≡ a) ⊎ (x ≡ b)
either_is a b x h k e = two_tests a b x (sym (either_test a b x h k) ∙ e)

pub either_allows : (a b x : ℕ) → a < 256 → b < 256 → (x ≡ a) ⊎ (x ≡ b) → allowed (either a b) x ≡ true
either_allows a b x h k p = either_test a b x h k ∙ two_pass a b x p

pub one_of_is : (a b c x : ℕ) → a < 256 → b < 256 → allowed (one_of a b c) x ≡ true → (x ≡ a) ⊎ ((x ≡ b) ⊎ (x ≡ c))
one_of_is a b c x h k e = elim (one_of_two (eqb x a) (eqb x b || eqb x c) (sym (one_of_test a b c x h k) ∙ e)) [
  | inl p ↦ inl (eqb-true x a p)
  | inr q ↦ inr (two_tests b c x q)
]

pub one_of_allows : (a b c x : ℕ) → a < 256 → b < 256 → (x ≡ a) ⊎ ((x ≡ b) ⊎ (x ≡ c)) → allowed (one_of a b c) x ≡ true
one_of_allows a b c x h k (inl p) = one_of_test a b c x h k ∙ or_left _ _ (eq-eqb x a p)
one_of_allows a b c x h k (inr q) = one_of_test a b c x h k ∙ or_right (eqb x a) _ (two_pass b c x q)
