-- The months of a year: how the days before them add up, and which month and day are in the calendar.
use mathlib.Core.Bool.{Bool, true, false, cond, ◌||◌}
use mathlib.Core.List.{[], ◌∷◌}
use mathlib.Core.Path.{◌≡◌, refl, ap, subst, ◌∙◌}
use Prim.Native.Nat.{ℕ, zero, suc, ◌+◌, ◌-◌, ◌*◌, ◌/◌, ◌%◌, ◌≤◌, ◌<◌}
use native.Mathlib.Nat.{not-suc-le-zero}
use native.Mathlib.Decide.{ℕ_discrete, dec_lt}
use native.Mathlib.Omega.{arith}
use lib.Dec.{T, eqb, eqb→eq, leb, leb→le, le→leb, ltb}
use borrow.Author.Tests.{ne_eqb, le-ltb}
use mir.Val.{bool_byte}
use lib.ListN.{get_or-eq_default}
use Rattle.laws.specs.Tests.{below}
use Rattle.laws.proofs.Tested.{at}
use Rattle.laws.proofs.Bools.{where_so, then, where_not, otherwise}
use Rattle.calendar.specs.Calendar.{days_in, days_before, year_length}

-- ---- the days before a month

pub before_next : (l : Bool) (m : ℕ) → days_before l (suc m) ≡ days_before l m + days_in l m
unfolding days_before
before_next l m = refl

pub before_first : (l : Bool) → days_before l 1 ≡ 0
unfolding days_before days_in
before_first l = refl

pub year_whole : (l : Bool) → days_before l 13 ≡ year_length l
unfolding days_before days_in year_length
year_whole true = refl
year_whole false = refl

pub month_later : (l : Bool) (m n : ℕ) → m < n → days_before l m + days_in l m ≤ days_before l n
month_later l m zero h = absurd (not-suc-le-zero h)
month_later l m (suc n) h = go (month_later l m n) (ℕ_discrete m n)
  where
    go : (m < n → days_before l m + days_in l m ≤ days_before l n) → Dec (m ≡ n) → days_before l m + days_in l m ≤ days_before l (suc n)
    go r (yes e) = omega (arith, before_next l n, ap (days_before l) e, ap (days_in l) e)
    go r (no d) = omega (arith, before_next l n, r (omega arith))

pub past_december : (l : Bool) (m : ℕ) → 13 ≤ m → days_in l m ≡ 0
unfolding days_in
past_december l m h = get_or-eq_default (0 ∷ 31 ∷ cond l 29 28 ∷ 31 ∷ 30 ∷ 31 ∷ 30 ∷ 31 ∷ 31 ∷ 30 ∷ 31 ∷ 30 ∷ 31 ∷ []) 0 h

pub before_past : (l : Bool) (m : ℕ) → 13 ≤ m → days_before l m ≡ year_length l
before_past l zero h = absurd (not-suc-le-zero h)
before_past l (suc m) h = go (before_past l m) (ℕ_discrete m 12)
  where
    go : (13 ≤ m → days_before l m ≡ year_length l) → Dec (m ≡ 12) → days_before l (suc m) ≡ year_length l
    go r (yes e) = ap (λ (k : ℕ). days_before l (suc k)) e ∙ year_whole l
    go r (no d) = let k : 13 ≤ m = omega arith in omega (arith, before_next l m, past_december l m k, r k)

-- a month with a day is one of the twelve
pub month_top : (l : Bool) (m : ℕ) → 1 ≤ days_in l m → m < 13
month_top l m h = go (dec_lt m 13)
  where
    go : Dec (m < 13) → m < 13
    go (yes p) = p
    go (no q) = absurd (not-suc-le-zero (subst (λ (n : ℕ). 1 ≤ n) (past_december l m (omega arith)) h))

pub month_low : (l : Bool) (m : ℕ) → 1 ≤ days_in l m → 1 ≤ m
unfolding days_in
month_low l zero h = h
month_low l (suc m) h = omega arith

pub month_ends_lem : (l : Bool) (m d : ℕ) → 1 ≤ d → d ≤ days_in l m → days_before l m + d ≤ year_length l
month_ends_lem l m d a b = omega (arith, month_later l m 13 (month_top l m (omega arith)), year_whole l)

pub year_least : (l : Bool) → (365 ≤ year_length l) × (year_length l ≤ 366)
unfolding year_length
year_least true = (omega arith, omega arith)
year_least false = (omega arith, omega arith)

pub month_has_days : (l : Bool) (m : ℕ) → 1 ≤ m → m < 13 → 28 ≤ days_in l m
unfolding days_in
month_has_days l m a b = leb→le 28 (days_in l m) (then (leb 1 m) (leb 28 (days_in l m)) (at (λ k. where_so (leb 1 k) (leb 28 (days_in l k))) 13 (all l) m b) (le→leb 1 m a))
  where
    all : (l : Bool) → T (below (λ k. where_so (leb 1 k) (leb 28 (days_in l k))) 13)
    all true = tt
    all false = tt

pub month_short : (l : Bool) (m : ℕ) → days_in l m ≤ 31
unfolding days_in
month_short l m = go (dec_lt m 13)
  where
    all : (l : Bool) → T (below (λ k. leb (days_in l k) 31) 13)
    all true = tt
    all false = tt

    go : Dec (m < 13) → days_in l m ≤ 31
    go (yes p) = leb→le (days_in l m) 31 (at (λ k. leb (days_in l k) 31) 13 (all l) m p)
    go (no q) = omega (arith, past_december l m (omega arith))

-- ---- the days of a month, by a formula

pub no_month : (l : Bool) (m : ℕ) → m < 1 → days_in l m ≡ 0
unfolding days_in
no_month l zero h = refl
no_month l (suc m) h = omega arith

pub leap_february : (l : Bool) (m : ℕ) → m ≡ 2 → l ≡ true → days_in l m ≡ 29
unfolding days_in
leap_february l m e f = rw (e, f)

pub common_february : (l : Bool) (m : ℕ) → m ≡ 2 → l ≡ false → days_in l m ≡ 28
unfolding days_in
common_february l m e f = rw (e, f)

-- it agrees in every month but February
formula_right : Bool → ℕ → Bool
formula_right l m = where_not (eqb m 2 || ltb m 1) (eqb (days_in l m) (30 + (m + m / 8) % 2))

all_formula : (l : Bool) → T (below (formula_right l) 13)
unfolding formula_right days_in
all_formula true = tt
all_formula false = tt

pub other_months : (l : Bool) (m : ℕ) → 1 ≤ m → m ≤ 12 → (m ≡ 2 → ⊥) → days_in l m ≡ 30 + (m + m / 8) % 2
unfolding formula_right
other_months l m one h d =
    let other : (eqb m 2 || ltb m 1) ≡ false = rw (ne_eqb m 2 d, le-ltb m 1 one) in
    eqb→eq _ _ (otherwise (eqb m 2 || ltb m 1) (eqb (days_in l m) (30 + (m + m / 8) % 2)) (at (formula_right l) 13 (all_formula l) m (omega arith)) other)

-- ---- the days before a month, by a formula

pub before_early : (l : Bool) (m : ℕ) → m < 2 → 0 ≡ days_before l m
unfolding days_before days_in
before_early l zero h = refl
before_early l (suc zero) h = refl
before_early l (suc (suc m)) h = omega arith

pub before_february : (l : Bool) (m : ℕ) → m ≡ 2 → 31 ≡ days_before l m
unfolding days_before days_in
before_february l m e = rw e

-- the days of the months from January to month m - 1 of a common year, from March on
abbrev pub common : ℕ → ℕ
common m = (153 * m - 162) / 5

right : Bool → ℕ → Bool
right l m = where_so (leb 3 m) (eqb (days_before l m) (common m + bool_byte l))

all_right : (l : Bool) → T (below (right l) 13)
unfolding right days_before days_in
all_right true = tt
all_right false = tt

pub before_later : (l : Bool) (m : ℕ) → 3 ≤ m → m ≤ 12 → days_before l m ≡ common m + bool_byte l
unfolding right
before_later l m a b = eqb→eq _ _ (then (leb 3 m) (eqb (days_before l m) (common m + bool_byte l)) (at (right l) 13 (all_right l) m (omega arith)) (le→leb 3 m a))

-- ---- what the two formulas' functions rest on

pub ruleset month_days = (no_month, leap_february, common_february, other_months, past_december)

pub ruleset before_month = (before_early, before_february, before_later, before_past, year_least)
