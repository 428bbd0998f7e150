-- The outline, place by place, and what a row in outline is.
use mathlib.Core.Bool.{Bool, true, false, cond, ◌&&◌}
use mathlib.Core.List.{List, [], ◌∷◌}
use mathlib.Core.Path.{◌≡◌, refl, ap}
use Prim.Native.Nat.{ℕ, zero, suc, ◌<◌}
use native.Mathlib.Nat.{not-suc-le-zero, le_of_suc-le-suc}
use native.Mathlib.Omega.{arith}
use lib.Dec.{eqb, ltb}
use lib.ListN.{length, get_or}
use borrow.Author.Tests.{eq-eqb, eqb-true, ne_eqb, lt-ltb, le-ltb}
use Rattle.std.specs.List.{list_all, zip}
use Rattle.laws.proofs.Bools.{both, never}
use Rattle.pulses.specs.Row.{marks, first_data, group_of, weight_of, digit_of, pulse_of, pulse_for, row}
use Rattle.pulses.specs.Outline.{in_outline, outline_of}
use Rattle.pulses.proofs.EntryLaws.{digit_small}

-- the outline at place i
abbrev pub outline_at : List ℕ → List ℕ → ℕ → Bool
outline_at t s i = in_outline (get_or t i 0) (get_or s i 0)

-- of two rows of one length it is the outline of each pair
pub outline_pairs : (t s : List ℕ) → length s ≡ length t → list_all (λ (p : ℕ × ℕ). in_outline p.0 p.1) (zip t s) ≡ outline_of t s
unfolding outline_of
outline_pairs [] [] l = refl
outline_pairs [] (b ∷ s) l = absurd (omega arith)
outline_pairs (e ∷ t) [] l = absurd (omega arith)
outline_pairs (e ∷ t) (b ∷ s) l = ap (λ (x : Bool). in_outline e b && x) (outline_pairs t s (omega arith))

-- a row in outline has the table's length
pub outline_length : (t s : List ℕ) → outline_of t s ≡ true → length s ≡ length t
unfolding outline_of
outline_length [] [] e = refl
outline_length [] (b ∷ s) e = never e
outline_length (x ∷ t) [] e = never e
outline_length (x ∷ t) (b ∷ s) e = ap suc (outline_length t s (both (in_outline x b) (outline_of t s) e).1)

pub no_outline : (t s : List ℕ) → (length s ≡ length t → ⊥) → outline_of t s ≡ false
no_outline t s d = go (outline_of t s) refl
  where
    go : (b : Bool) → outline_of t s ≡ b → b ≡ false
    go true e = absurd (d (outline_length t s e))
    go false e = refl

-- each place of a row in outline is in it
pub outline_each : (t s : List ℕ) → outline_of t s ≡ true → (i : ℕ) → i < length t → outline_at t s i ≡ true
unfolding outline_of
outline_each [] s e i h = absurd (not-suc-le-zero h)
outline_each (x ∷ t) [] e i h = never e
outline_each (x ∷ t) (b ∷ s) e zero h = (both (in_outline x b) (outline_of t s) e).0
outline_each (x ∷ t) (b ∷ s) e (suc i) h = outline_each t s (both (in_outline x b) (outline_of t s) e).1 i (le_of_suc-le-suc h)

-- where the table has a mark, a row in outline has a 2
pub outline_mark : (e b : ℕ) → group_of e ≡ marks → in_outline e b ≡ true → b ≡ 2
unfolding in_outline
outline_mark e b g h = eqb-true b 2 (rw (eq-eqb (group_of e) marks g) at h)

-- ---- what a table lays out

in_outline_lem : (g d : ℕ) → d < 2 → (let y : ℕ = cond (ltb g first_data) g d in cond (eqb g marks) (eqb y 2) (ltb y 2)) ≡ true
in_outline_lem zero d h = refl
in_outline_lem (suc zero) d h = refl
in_outline_lem (suc (suc zero)) d h = refl
in_outline_lem (suc (suc (suc g))) d h =
    let no-mark : suc (suc (suc g)) ≡ marks → ⊥ = λ e. omega arith in
    rw (ne_eqb (suc (suc (suc g))) marks no-mark, le-ltb (suc (suc (suc g))) first_data (omega arith)) (lt-ltb d 2 h)

-- the row that a table lays out of values has the table's outline, whatever the values are
pub row_outline : (t v : List ℕ) → outline_of t (row t v) ≡ true
unfolding outline_of row pulse_for pulse_of in_outline
row_outline [] v = refl
row_outline (e ∷ t) v =
    let d = digit_of (get_or v (group_of e) 0) (weight_of e) in
    rw (in_outline_lem (group_of e) d (digit_small (get_or v (group_of e) 0) (weight_of e))) (row_outline t v)
