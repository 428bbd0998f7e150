-- A ring of pulses, at any size: what one pulse more does to its window, where the window's ends stand, and how it is unrolled into a buffer.
use mathlib.Core.Bool.{Bool, true, false, cond}
use mathlib.Core.List.{List, [], ◌∷◌, ◌++◌, append_assoc, append-nil}
use mathlib.Core.Path.{◌≡◌, refl, sym, ap, ◌∙◌}
use Prim.Native.Nat.{ℕ, suc, ◌+◌, ◌-◌, ◌≤◌, ◌<◌, min}
use native.Mathlib.Numerals.{add-one}
use native.Mathlib.Omega.{arith}
use lib.Dec.{ltb}
use lib.ListN.{length, take, drop, set, get_or, length-append, length-take, length-drop, length-set, drop_of_length-le}
use lib.Seq.{take_all, take-suc, take-suc-set, drop-cons, drop-set-lt, length-take-le, get_or_at}
use borrow.Author.Tests.{ltb-true, ltb-false, lt-ltb, le-ltb}
use Rattle.std.proofs.Math.Nat.{min-eq_left, min-eq_right}
use Rattle.wire.specs.Put.{stored}
use Rattle.wire.proofs.StoreLaws.{stored_first, stored_behind}
use Rattle.streams.specs.Stream.{push, place_of, unrolled}

-- ---- places

pub place_within : (n next : ℕ) → next < n → next ≡ place_of n next
unfolding place_of
place_within n next h = rw (lt-ltb next n h)

pub place_past : (n next : ℕ) → n ≤ next → 0 ≡ place_of n next
unfolding place_of
place_past n next h = rw (le-ltb next n h)

pub place_small : (n next : ℕ) → 1 ≤ n → place_of n next < n
unfolding place_of
place_small n next one = go (ltb next n) refl
  where
    go : (b : Bool) → ltb next n ≡ b → cond b next 0 < n
    go true e = ltb-true next n e
    go false e = one

-- ---- the window of a ring

pub unrolled-length : (w : List ℕ) (k : ℕ) → length (unrolled w k) ≡ length w
unfolding unrolled
unrolled-length w k = simp (length-append, length-take, length-drop) (omega arith)

pub unrolled_first : (w : List ℕ) → unrolled w 0 ≡ w
unfolding unrolled
unrolled_first w = append-nil w

unrolled_past : (w : List ℕ) (k : ℕ) → length w ≤ k → unrolled w k ≡ w
unfolding unrolled
unrolled_past w k h = rw (drop_of_length-le w {i = k} h, take_all k w h)

-- a ring that is full up to its end begins again at its first place
pub unrolled_place : (n : ℕ) (w : List ℕ) (k : ℕ) → length w ≡ n → k ≤ n → unrolled w (place_of n k) ≡ unrolled w k
unfolding place_of
unrolled_place n w k l h = go (ltb k n) refl
  where
    go : (b : Bool) → ltb k n ≡ b → unrolled w (cond b k 0) ≡ unrolled w k
    go true e = refl
    go false e = unrolled_first w ∙ sym (unrolled_past w k (omega (arith, ltb-false k n e)))

-- a number past the ring stands for its last place
pub unrolled_min : (n : ℕ) (w : List ℕ) (k : ℕ) → length w ≡ n → 0 < n → unrolled w (min k (n - 1) + 1) ≡ unrolled w (k + 1)
unrolled_min n w k l some = go (ltb k n) refl
  where
    go : (b : Bool) → ltb k n ≡ b → unrolled w (min k (n - 1) + 1) ≡ unrolled w (k + 1)
    go true e =
        let h : k ≤ n - 1 = omega (arith, ltb-true k n e) in
        ap (λ (m : ℕ). unrolled w (m + 1)) (min-eq_left h)
    go false e =
        let h : n ≤ k = ltb-false k n e in
        let m : min k (n - 1) ≡ n - 1 = min-eq_right (omega arith) in
        ap (λ (m : ℕ). unrolled w (m + 1)) m ∙ unrolled_past w (n - 1 + 1) (omega arith) ∙ sym (unrolled_past w (k + 1) (omega arith))

module _ (w : List ℕ) (k : ℕ) (h : k < length w) where
  -- the newest stands before the oldest
  pub unrolled_newest : unrolled w (k + 1) ≡ drop (k + 1) w ++ take k w ++ (get_or w k 0 ∷ [])
  unfolding unrolled
  unrolled_newest = rw (add-one, take-suc w k 0 h) (sym (append_assoc (drop (suc k) w) (take k w) (get_or w k 0 ∷ [])))

  pub newest : get_or (unrolled w (k + 1)) (length w - 1) 0 ≡ get_or w k 0
  newest = rw unrolled_newest (get_or_at (drop (k + 1) w ++ take k w) (get_or w k 0) [] 0 (length w - 1) (simp (length-append, length-take, length-drop) (omega arith)))

  pub oldest : get_or (unrolled w k) 0 0 ≡ get_or w k 0
  unfolding unrolled
  oldest = rw (drop-cons w k 0 h)

  -- a pulse stored in place of the oldest is the newest
  pub pushed : (p : ℕ) → unrolled (set w k p) (k + 1) ≡ push (unrolled w k) p
  unfolding unrolled push
  pushed p =
      rw (add-one, drop-set-lt (suc k) w k p (omega arith), take-suc-set w k p h, drop-cons w k 0 h)
      (sym (append_assoc (drop (suc k) w) (take k w) (p ∷ [])))

-- the ring goes on from the place after it
pub taken_pushes : (n : ℕ) (w : List ℕ) (k p : ℕ) → length w ≡ n → k < n → unrolled (set w k p) (place_of n (k + 1)) ≡ push (unrolled w k) p
taken_pushes n w k p l h = unrolled_place n (set w k p) (k + 1) (simp length-set l) (omega arith) ∙ pushed w k (omega arith) p

-- ---- unrolling

-- the part from the oldest on stored first, and the part before it behind
pub unrolls : (w out : List ℕ) (k : ℕ) → length out ≡ length w → k ≤ length w
    → stored (length w - k) (take k w) (stored 0 (take (length w - k) (drop k w)) out) ≡ unrolled w k
unfolding unrolled
unrolls w out k l h =
    let a : take (length w - k) (drop k w) ≡ drop k w = take_all (length w - k) (drop k w) (omega (arith, length-drop k w)) in
    let d : length w - k ≡ 0 + length (drop k w) = omega (arith, length-drop k w) in
    let t : length (take k w) ≡ k = length-take-le k w h in
    let b : length (drop k w ++ take k w) ≡ length out = rw (length-append, t) (omega arith) in
    rw (a, d)
    (stored_behind 0 (drop k w) (take k w) out (omega arith)
    ∙ stored_first (drop k w ++ take k w) out (omega arith)
    ∙ ap (λ (t : List ℕ). drop k w ++ take k w ++ t) (drop_of_length-le out {i = length (drop k w ++ take k w)} (omega arith))
    ∙ append-nil (drop k w ++ take k w))
