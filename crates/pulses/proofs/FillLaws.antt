-- Storing a list's numbers one after the other into bytes that are lent.
use mathlib.Core.Path.{◌≡◌, refl, sym, ap, ◌∙◌}
use mathlib.Core.List.{List, [], ◌∷◌, ◌++◌, append_assoc, append-nil}
use Prim.Native.Nat.{ℕ, zero, suc, ◌+◌, ◌-◌, ◌<◌, ◌≤◌}
use borrow.Rule.Slice.PartMut.{put_mid}
use native.Mathlib.Nat.{add-zero, add-suc}
use native.Mathlib.Numerals.{add-one}
use native.Mathlib.Omega.{arith}
use lib.ListN.{length, get_or, take, drop, set, length-append, length-drop, get_or-append}
use lib.Seq.{drop-cons, set_at, get_or-append-add, get_or-drop, drop-length, take_all}
use Rattle.std.proofs.lemmas.List.{take-append-le, take-append-drop}
use Rattle.std.proofs.lemmas.Slice.{take-put_mid, drop-put_mid, drop-append-drop}
use Rattle.pulses.specs.Row.{up_to}
use Rattle.pulses.proofs.SumLaws.{length_up_to, up_to_at}

-- the bytes after i of the numbers f are stored
abbrev pub filled_to : (ℕ → ℕ) → List ℕ → ℕ → List ℕ
filled_to f l i = up_to f i ++ drop i l

-- two parts, one after the other
up_to_on : (f g : ℕ → ℕ) (a n : ℕ) → ((i : ℕ) → i < n → g i ≡ f (a + i)) → up_to f a ++ up_to g n ≡ up_to f (a + n)
unfolding up_to
up_to_on f g a zero h = rw add-zero (append-nil (up_to f a))
up_to_on f g a (suc n) h =
    rw (add-suc, ← up_to_on f g a n (λ i k. h i (omega arith)), h n (omega arith)) (sym (append_assoc (up_to f a) (up_to g n) (f (a + n) ∷ [])))

module _ (f : ℕ → ℕ) (l : List ℕ) where
  pub filled_none : l ≡ filled_to f l 0
  unfolding up_to
  filled_none = refl

  pub filled_more : (i : ℕ) → i < length l → set (filled_to f l i) i (f i) ≡ filled_to f l (i + 1)
  unfolding up_to
  filled_more i h =
      rw (add-one, drop-cons l i 0 h, set_at (up_to f i) (get_or l i 0) (drop (suc i) l) (f i) i (length_up_to f i))
      (sym (append_assoc (up_to f i) (f i ∷ []) (drop (suc i) l)))

  -- the same of bytes that are known to be so filled
  pub filled_next : (now : List ℕ) (i : ℕ) → now ≡ filled_to f l i → i < length l → (x : ℕ) → x ≡ f i → set now i x ≡ filled_to f l (i + 1)
  filled_next now i e h x q = rw (e, q) (filled_more i h)

  pub filled-length : (i : ℕ) → i ≤ length l → length (filled_to f l i) ≡ length l
  filled-length i h = simp (length-append, length-drop) (omega (arith, length_up_to f i))

  pub filled_at : (i k : ℕ) → k < i → get_or (filled_to f l i) k 0 ≡ f k
  filled_at i k h = get_or-append (up_to f i) (drop i l) 0 k (omega (arith, length_up_to f i)) ∙ up_to_at f i k h

  -- a place that is not stored yet
  pub filled_past : (i k : ℕ) → i ≤ k → get_or (filled_to f l i) k 0 ≡ get_or l k 0
  filled_past i k h =
      let e : k ≡ i + (k - i) = omega arith in
      let m : k ≡ length (up_to f i) + (k - i) = omega (arith, length_up_to f i) in
      ap (λ (j : ℕ). get_or (filled_to f l i) j 0) m ∙ get_or-append-add (up_to f i) (drop i l) (k - i) 0 ∙ get_or-drop i l (k - i) 0
      ∙ ap (λ (j : ℕ). get_or l j 0) (sym e)

  -- a part of n more numbers, stored by itself
  pub filled_part : (now part : List ℕ) (a n k : ℕ) (g : ℕ → ℕ) → now ≡ filled_to f l a → part ≡ up_to g n → k ≡ n → a + n ≤ length l
      → ((i : ℕ) → i < n → g i ≡ f (a + i)) → put_mid a k now part ≡ filled_to f l (a + n)
  filled_part now part a n k g e p q h r =
      let m : length part ≡ n = rw p (length_up_to g n) in
      let z : length now ≡ length l = ap length e ∙ filled-length a (omega arith) in
      let all : a ≡ length (up_to f a) = sym (length_up_to f a) in
      let front : take a now ≡ up_to f a = rw e (take-append-le a (up_to f a) (drop a l) (omega arith) ∙ take_all a (up_to f a) (omega arith)) in
      let rest : drop (a + n) now ≡ drop (a + n) l = rw e (drop-append-drop a l (up_to f a) (a + n) (omega arith) (length_up_to f a)) in
      sym (take-append-drop (a + n) (put_mid a k now part))
      ∙ rw (
        take-put_mid a k now part (a + n) (omega arith) (omega arith),
        drop-put_mid a k now part (a + n) (omega arith) (omega arith) (omega arith),
        front,
        rest,
        p,
        up_to_on f g a n r,
      )

  -- stored to the end
  pub filled-all : (i : ℕ) → i ≡ length l → filled_to f l i ≡ up_to f i
  filled-all i e = rw (e, drop-length l) (append-nil (up_to f (length l)))

  -- the same, where the end is named
  pub filled_whole : (i n : ℕ) → length l ≡ n → i ≡ n → filled_to f l i ≡ up_to f n
  filled_whole i n e q = filled-all i (q ∙ sym e) ∙ ap (up_to f) q
