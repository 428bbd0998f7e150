-- Storing a number's digits from the end, and that the digits stand for the number.
use mathlib.Core.Bool.{Bool, true, false, cond}
use mathlib.Core.List.{List, [], ◌∷◌}
use mathlib.Core.Path.{◌≡◌, refl, ap, ◌∙◌}
use Prim.Native.Nat.{ℕ, zero, suc, ◌+◌, ◌-◌, ◌*◌, ◌/◌, ◌%◌, ◌^◌, ◌≤◌, ◌<◌}
use native.Mathlib.Nat.{pow-suc, div-lt_iff_lt-mul, not-suc-le-zero}
use native.Mathlib.Omega.{arith}
use lib.Dec.{ltb}
use lib.ListN.{length, drop, set, length-set, length-drop}
use borrow.Rule.Slice.PartMut.{mid_of}
use Rattle.std.proofs.lemmas.List.{drop_all}
use lib.Seq.{take_all, drop-cons, get_or-set_same, drop-set-lt}
use borrow.Author.Tests.{lt-ltb, le-ltb, ltb-true, ltb-false}
use Rattle.wire.specs.Put.{fits}
use Rattle.text.specs.Decimal.{digits_before, decimal, stored_length}

-- ---- the loop

stored_before : (l : List ℕ) (k v : ℕ) → k < length l → drop k (set l k v) ≡ v ∷ drop (suc k) l
stored_before l k v h =
    let n : k < length (set l k v) = rw length-set h in
    drop-cons (set l k v) k 0 n ∙ rw (get_or-set_same l k v 0 h, drop-set-lt (suc k) l k v (omega arith))

pub one_more : (k n : ℕ) (rest : List ℕ) → 9 < n → digits_before (suc k) n rest ≡ digits_before k (n / 10) ((48 + n % 10) ∷ rest)
unfolding digits_before
one_more k n rest h = let g : 10 ≤ n = h in rw (le-ltb n 10 g)

pub the_last : (k n : ℕ) (rest : List ℕ) → n < 10 → digits_before (suc k) n rest ≡ (48 + n) ∷ rest
unfolding digits_before
the_last k n rest h = rw (lt-ltb n 10 h)

-- what the loop knows: the digits that are still to come, before those that are stored
pub record Stored (number : ℕ) (bytes : List ℕ) (from rest : ℕ) : Type 0 where
  pub digits : digits_before from rest (drop from bytes) ≡ decimal number
  pub long : length bytes ≡ 20
  pub room : 1 ≤ from
  pub top : from ≤ 20
  pub small : rest < 10 ^ from

-- a word of 64 bits has at most 20 digits
pub begun : (number : ℕ) (bytes : List ℕ) → number < 2 ^ 64 → length bytes ≡ 20 → Stored number bytes 20 number
unfolding decimal
begun number bytes h e = record {
  digits = ap (digits_before 20 number) (drop_all 20 bytes (omega arith));
  long = e;
  room = omega arith;
  top = omega arith;
  small = omega (arith, h);
}

room_for_two : (f n : ℕ) → 9 < n → n < 10 ^ f → 2 ≤ f
room_for_two zero n h k = omega (arith, h, k)
room_for_two (suc zero) n h k = omega (arith, h, k)
room_for_two (suc (suc f)) n h k = omega arith

smaller : (f n : ℕ) → n < 10 ^ suc f → n / 10 < 10 ^ f
smaller f n h = (div-lt_iff_lt-mul {k = 10} {x = n} {y = 10 ^ f} (omega arith)).1 (rw (← pow-suc 10 f) h)

module _ (number : ℕ) (bytes : List ℕ) (from rest : ℕ) (s : Stored number bytes from rest) where
  pub two_left : 9 < rest → 2 ≤ from
  two_left h = room_for_two from rest h s.small

  pub turn : 9 < rest → Stored number (set bytes (from - 1) (48 + rest % 10)) (from - 1) (rest / 10)
  turn h =
      let two = two_left h in
      let up : suc (from - 1) ≡ from = omega arith in
      let inside : from - 1 < length bytes = omega (arith, s.long, s.top) in
      record {
        digits = rw (stored_before bytes (from - 1) (48 + rest % 10) inside, ← one_more (from - 1) rest (drop (suc (from - 1)) bytes) h, up) s.digits;
        long = rw length-set s.long;
        room = omega arith;
        top = omega (arith, s.top);
        small = smaller (from - 1) rest (rw up s.small);
      }

  -- the part of the buffer that is lent in the end
  pub finished : rest ≤ 9 → mid_of (from - 1) (20 - (from - 1)) (set bytes (from - 1) (48 + rest)) ≡ decimal number
  finished h =
      let up : suc (from - 1) ≡ from = omega (arith, s.room) in
      let inside : from - 1 < length bytes = omega (arith, s.long, s.top, s.room) in
      take_all _ _ (simp (length-drop, length-set) (omega (arith, s.long)))
      ∙ rw (stored_before bytes (from - 1) (48 + rest) inside, ← the_last (from - 1) rest (drop (suc (from - 1)) bytes) (omega arith), up) s.digits

pub ruleset digit_loop = (begun, finished)

-- ---- the digits stand for the number

-- the number that a text of digits stands for, after the digits of a
unfoldable pub value_after : ℕ → List ℕ → ℕ
value_after a [] = a
value_after a (b ∷ text) = value_after (10 * a + (b - 48)) text

after : (a d : ℕ) (rest : List ℕ) → value_after a ((48 + d) ∷ rest) ≡ value_after (10 * a + d) rest
unfolding value_after
after a d rest = let e : 10 * a + (48 + d - 48) ≡ 10 * a + d = omega arith in ap (λ (x : ℕ). value_after x rest) e

value_before : (k n : ℕ) (rest : List ℕ) → 1 ≤ k → n < 10 ^ k → value_after 0 (digits_before k n rest) ≡ value_after n rest
value_before zero n rest one h = absurd (not-suc-le-zero one)
value_before (suc k) n rest one h = go (value_before k (n / 10) ((48 + n % 10) ∷ rest)) (ltb n 10) refl
  where
    next : (a d m : ℕ) → 10 * a + d ≡ m → value_after a ((48 + d) ∷ rest) ≡ value_after m rest
    next a d m e = after a d rest ∙ ap (λ (x : ℕ). value_after x rest) e

    go : (1 ≤ k → n / 10 < 10 ^ k → value_after 0 (digits_before k (n / 10) ((48 + n % 10) ∷ rest)) ≡ value_after (n / 10) ((48 + n % 10) ∷ rest)) → (b : Bool) → ltb n 10 ≡ b → value_after 0 (digits_before (suc k) n rest) ≡ value_after n rest
    go r true e = ap (value_after 0) (the_last k n rest (ltb-true n 10 e)) ∙ next 0 n n (omega arith)
    go r false e =
        let big : 9 < n = ltb-false n 10 e in
        let two = room_for_two (suc k) n big h in
        ap (value_after 0) (one_more k n rest big) ∙ r (omega arith) (smaller k n h) ∙ next (n / 10) (n % 10) n (omega arith)

pub decimal_value : (n : ℕ) → n < 10 ^ 20 → value_after 0 (decimal n) ≡ n
unfolding decimal value_after
decimal_value n h = value_before 20 n [] (omega arith) h

-- ---- how many are stored

pub stored-all : (at : ℕ) (t l : List ℕ) → fits at t l ≡ true → stored_length at t l ≡ length t
unfolding stored_length
stored-all at t l e = rw e

pub stored_none : (at : ℕ) (t l : List ℕ) → fits at t l ≡ false → stored_length at t l ≡ 0
unfolding stored_length
stored_none at t l e = rw e

-- ---- and how many there are

before_length : (k n : ℕ) (rest : List ℕ) → length (digits_before k n rest) ≤ k + length rest
unfolding digits_before
before_length zero n rest = omega arith
before_length (suc k) n rest = go (ltb n 10) (before_length k (n / 10) ((48 + n % 10) ∷ rest))
  where
    go : (b : Bool) → length (digits_before k (n / 10) ((48 + n % 10) ∷ rest)) ≤ k + suc (length rest)
        → length (cond b ((48 + n) ∷ rest) (digits_before k (n / 10) ((48 + n % 10) ∷ rest))) ≤ suc k + length rest
    go true h = omega arith
    go false h = omega arith

pub decimal-length : (n : ℕ) → length (decimal n) ≤ 20
unfolding decimal
decimal-length n = before_length 20 n []
