-- Marks and gaps, symbol by symbol.
use mathlib.Core.Bool.{Bool, true, false, ◌&&◌, and-true, and-false}
use mathlib.Core.List.{List, [], ◌∷◌, ◌++◌}
use mathlib.Core.Path.{◌≡◌, refl, sym, ap, ◌∙◌}
use Prim.Native.Nat.{ℕ, zero, suc, ◌+◌, ◌-◌, ◌<◌, ◌≤◌}
use native.Mathlib.Numerals.{add-one}
use native.Mathlib.Omega.{arith}
use lib.Dec.{eqb, ltb}
use lib.ListN.{length, get_or, take, drop, length-append, length-drop}
use lib.Seq.{drop-cons, take_all}
use borrow.Author.Tests.{eq-eqb, ne_eqb, lt-ltb, le-ltb, ltb-true}
use Rattle.std.specs.Prelude.{IsTrue, ◌↔◌}
use Rattle.laws.proofs.Bools.{both}
use Rattle.dcf77_stream.specs.Said.{marks_then_gap, between_gaps}
use Rattle.dcf77_stream.specs.Ending.{all_marks}

-- a part that goes to the end is what dropping leaves
pub tail_is : (w : List ℕ) (k : ℕ) → take (length w - k) (drop k w) ≡ drop k w
tail_is w k = take_all (length w - k) (drop k w) (omega (arith, length-drop k w))

-- ---- marks, and what closes them

and_assoc : (a b c : Bool) → (a && (b && c)) ≡ ((a && b) && c)
and_assoc true b c = refl
and_assoc false b c = refl

pub closed : (m : List ℕ) (last : ℕ) → marks_then_gap (m ++ (last ∷ [])) ≡ (all_marks m && eqb last 2)
unfolding marks_then_gap all_marks
closed [] last = refl
closed (x ∷ m) last =
    let some : length (m ++ (last ∷ [])) ≡ 0 → ⊥ = λ e. omega (arith, length-append m (last ∷ [])) in
    rw (ne_eqb (length (m ++ (last ∷ []))) 0 some, closed m last) (and_assoc (ltb x 2) (all_marks m) (eqb last 2))

pub marks_closed : (m : List ℕ) → marks_then_gap (m ++ (2 ∷ [])) ≡ all_marks m
marks_closed m = closed m 2 ∙ and-true (all_marks m)

pub all-marks : (m : List ℕ) → ((i : ℕ) → i < length m → get_or m i 0 < 2) → all_marks m ≡ true
unfolding all_marks
all-marks [] small = refl
all-marks (x ∷ m) small = rw (lt-ltb x 2 (small 0 (omega arith))) (all-marks m (λ i k. small (suc i) (omega arith)))

each_mark : (m : List ℕ) → all_marks m ≡ true → (i : ℕ) → i < length m → get_or m i 0 < 2
unfolding all_marks
each_mark [] e i h = absurd (omega arith)
each_mark (x ∷ m) e zero h = ltb-true x 2 (both (ltb x 2) (all_marks m) e).0
each_mark (x ∷ m) e (suc i) h = each_mark m (both (ltb x 2) (all_marks m) e).1 i (omega arith)

-- a test of each symbol is the test of all
pub tests_marks : (m : List ℕ) (b : Bool) → (IsTrue b ↔ ((i : ℕ) → i < length m → get_or m i 0 < 2)) → b ≡ all_marks m
tests_marks m true t = sym (all-marks m (t.0 refl))
tests_marks m false t = go (all_marks m) refl
  where
    go : (b : Bool) → all_marks m ≡ b → false ≡ b
    go true e = t.1 (each_mark m e)
    go false e = refl

-- symbols that end in something else than a gap have no outline
module _ (p : ℕ) (d : p ≡ 2 → ⊥) where
  no_gap_last : (v : List ℕ) → marks_then_gap (v ++ (p ∷ [])) ≡ false
  no_gap_last v = closed v p ∙ rw (ne_eqb p 2 d) (and-false (all_marks v))

  pub unclosed : (v : List ℕ) → between_gaps (v ++ (p ∷ [])) ≡ false
  unfolding between_gaps
  unclosed [] = rw (ne_eqb p 2 d)
  unclosed (x ∷ v) = rw (no_gap_last v) (and-false (eqb x 2))

  pub unclosed_after : (v : List ℕ) → between_gaps (drop 1 (v ++ (p ∷ []))) ≡ false
  unfolding between_gaps
  unclosed_after [] = refl
  unclosed_after (x ∷ v) = unclosed v

pub no_symbols : (m : List ℕ) → length m ≡ 0 → false ≡ marks_then_gap m
unfolding marks_then_gap
no_symbols [] h = refl
no_symbols (x ∷ m) h = absurd (omega arith)

-- from a place on: a gap there, and what follows
pub gap_first : (w : List ℕ) (k : ℕ) → k < length w → between_gaps (drop k w) ≡ (eqb (get_or w k 0) 2 && marks_then_gap (drop (suc k) w))
unfolding between_gaps
gap_first w k h = rw (drop-cons w k 0 h)

pub gap_there : (w : List ℕ) (k : ℕ) → k < length w → get_or w k 0 ≡ 2 → marks_then_gap (take (length w - (k + 1)) (drop (k + 1) w)) ≡ between_gaps (drop k w)
gap_there w k h e = ap marks_then_gap (tail_is w (k + 1) ∙ ap (λ (m : ℕ). drop m w) (add-one k)) ∙ sym (gap_first w k h ∙ ap (λ (b : Bool). b && marks_then_gap (drop (suc k) w)) (eq-eqb (get_or w k 0) 2 e))

pub no_gap_there : (w : List ℕ) (k : ℕ) → k < length w → (get_or w k 0 ≡ 2 → ⊥) → false ≡ between_gaps (drop k w)
no_gap_there w k h d = sym (gap_first w k h ∙ ap (λ (b : Bool). b && marks_then_gap (drop (suc k) w)) (ne_eqb (get_or w k 0) 2 d))

-- what is no mark in the second place leaves no outline that begins in the first
pub second_unmarked : (w : List ℕ) → 2 < length w → 2 ≤ get_or w 1 0 → between_gaps w ≡ false
unfolding between_gaps marks_then_gap
second_unmarked [] l h = refl
second_unmarked (x ∷ []) l h = absurd (omega arith)
second_unmarked (x ∷ y ∷ []) l h = absurd (omega arith)
second_unmarked (x ∷ y ∷ z ∷ w) l h = rw (ne_eqb (length (z ∷ w)) 0 (λ n. omega arith), le-ltb y 2 h) (and-false (eqb x 2))
