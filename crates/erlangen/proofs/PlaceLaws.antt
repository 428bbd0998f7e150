-- What stands at each place of a string whose bytes are all allowed, each by one test that antt computes at that place of the layout.
use mathlib.Core.Bool.{Bool, true, cond, not, ◌&&◌}
use mathlib.Core.List.{List, [], ◌∷◌, ◌++◌}
use mathlib.Core.Logic.{◌⊎◌, inl, inr}
use mathlib.Core.Path.{◌≡◌, sym, ◌∙◌}
use Prim.Native.Nat.{ℕ, zero, suc, ◌+◌, ◌≤◌, ◌<◌}
use native.Mathlib.Omega.{arith}
use lib.Dec.{T, eqb, eqb→eq, ltb, ltb→lt}
use lib.ListN.{length, get_or, drop}
use lib.Seq.{drop-cons}
use borrow.Author.Tests.{not-true, eq-eqb}
use Rattle.laws.proofs.Bools.{is_true}
use Rattle.laws.proofs.Tested.{and_left, and_right}
use Rattle.wire.specs.Layout.{exactly, from, either, allowed, good_places, printable}
use Rattle.wire.specs.Digits.{digit, pair, tens, ones}
use Rattle.wire.proofs.EntryLaws.{exactly_is, from_is, either_is}
use Rattle.wire.proofs.LayoutLaws.{all-allowed, is_printable}
use Rattle.wire.proofs.DigitLaws.{digit_of_lem, pair_small, tens_back, ones_back}
use Rattle.erlangen.specs.Layout.{size, decimal, layout}
use Rattle.erlangen.specs.Meaning.{shows}

-- ---- tests of one place of the layout

-- the entry at place i is e
abbrev pub holds : ℕ → ℕ → Bool
holds i e = ltb i size && eqb (get_or layout i 0) e

-- two digits start at place i
abbrev pub holds_two : ℕ → Bool
holds_two i = holds i decimal && holds (i + 1) decimal

-- one of two different bytes stands at place i
abbrev pub holds_one : ℕ → ℕ → ℕ → Bool
holds_one i a b = holds i (either a b) && (ltb a 256 && (ltb b 256 && not (eqb b a)))

-- one of two bytes, as the test of the first picks it
pub picked : (a b x : ℕ) → T (not (eqb b a)) → (x ≡ a) ⊎ (x ≡ b) → cond (eqb x a) a b ≡ x
picked a b x t (inl e) = rw (eq-eqb x a e) (sym e)
picked a b x t (inr e) = rw (e, not-true (eqb b a) (is_true (not (eqb b a)) t))

-- ---- the bytes of a string

module _ (s : List ℕ) (l : length s ≡ size) (good : good_places layout s ≡ length s) where
  entry : (i e : ℕ) → T (holds i e) → allowed e (get_or s i 0) ≡ true
  entry i e t =
      let h = ltb→lt i size (and_left (ltb i size) (eqb (get_or layout i 0) e) t) in
      let q = eqb→eq (get_or layout i 0) e (and_right (ltb i size) (eqb (get_or layout i 0) e) t) in
      rw q at (all-allowed layout s good i (omega arith))

  pub fixed : (i b : ℕ) → T (holds i (exactly b) && ltb b 256) → get_or s i 0 ≡ b
  fixed i b t = exactly_is b (get_or s i 0) (ltb→lt b 256 (and_right (holds i (exactly b)) (ltb b 256) t)) (entry i (exactly b) (and_left (holds i (exactly b)) (ltb b 256) t))

  decimal_at : (i : ℕ) → T (holds i decimal) → (48 ≤ get_or s i 0) × (get_or s i 0 ≤ 57)
  decimal_at i t = from_is 48 57 (get_or s i 0) (omega arith) (omega arith) (entry i decimal t)

  pub printable_at_lem : (i : ℕ) → T (holds i (from 32 126)) → printable (get_or s i 0) ≡ true
  printable_at_lem i t =
      let p = from_is 32 126 (get_or s i 0) (omega arith) (omega arith) (entry i (from 32 126) t) in
      is_printable (get_or s i 0) p.0 p.1

  pub one_back : (i : ℕ) → T (holds i decimal) → ones (digit (get_or s i 0)) ≡ get_or s i 0
  unfolding ones
  one_back i t = let d = decimal_at i t in omega (arith, digit_of_lem (get_or s i 0) d.0 d.1)

  pub two_back : (i : ℕ) → T (holds_two i) → (pair s i < 100) × (tens (pair s i) ≡ get_or s i 0) × (ones (pair s i) ≡ get_or s (i + 1) 0)
  unfolding pair
  two_back i t =
      let a = decimal_at i (and_left (holds i decimal) (holds (i + 1) decimal) t) in
      let b = decimal_at (i + 1) (and_right (holds i decimal) (holds (i + 1) decimal) t) in
      let x = get_or s i 0 in
      let y = get_or s (i + 1) 0 in
      (pair_small x y a.0 a.1 b.0 b.1, tens_back x y a.0 a.1 b.0 b.1, ones_back x y a.0 a.1 b.0 b.1)

  pub mark_back : (i a b : ℕ) → T (holds_one i a b) → cond (shows s i a) a b ≡ get_or s i 0
  unfolding shows
  mark_back i a b t =
      let u = and_right (holds i (either a b)) (ltb a 256 && (ltb b 256 && not (eqb b a))) t in
      let v = and_right (ltb a 256) (ltb b 256 && not (eqb b a)) u in
      let h = ltb→lt a 256 (and_left (ltb a 256) (ltb b 256 && not (eqb b a)) u) in
      let k = ltb→lt b 256 (and_left (ltb b 256) (not (eqb b a)) v) in
      picked a b (get_or s i 0) (and_right (ltb b 256) (not (eqb b a)) v)
      (either_is a b (get_or s i 0) h k (entry i (either a b) (and_left (holds i (either a b)) _ t)))

-- ---- a list, byte by byte

-- the n bytes from a place on
abbrev pub run : List ℕ → ℕ → ℕ → List ℕ
run s at zero = []
run s at (suc n) = get_or s at 0 ∷ run s (suc at) n

pub run_is : (s : List ℕ) (at n : ℕ) → at + n ≤ length s → drop at s ≡ run s at n ++ drop (at + n) s
run_is s at zero h = let e : at + 0 ≡ at = omega arith in rw e
run_is s at (suc n) h =
    let e : at + suc n ≡ suc at + n = omega arith in
    drop-cons s at 0 (omega arith) ∙ rw (e, ← run_is s (suc at) n (omega arith))
