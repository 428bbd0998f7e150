-- How many places from the start pass a test, among n of them: what is known of such a number, once for every test.
use mathlib.Core.Path.{◌≡◌, refl, sym, subst, ◌∙◌}
use mathlib.Core.Bool.{Bool, true, false, cond, ◌&&◌}
use Prim.Native.Nat.{ℕ, zero, suc, ◌+◌, ◌≤◌, ◌<◌}
use native.Mathlib.Nat.{not-suc-le-zero, le_of_suc-le-suc}
use native.Mathlib.Decide.{dec_lt}
use native.Mathlib.Omega.{arith}
use lib.Dec.{T, leb}
use borrow.Author.Tests.{le-leb, lt-leb, leb-true}

-- g is the number of places from the start that pass the test `ok`, among n places
pub record Leads (ok : ℕ → Bool) (n g : ℕ) : Type 0 where
  pub within : g ≤ n
  pub below : (i : ℕ) → i < g → ok i ≡ true
  pub stops : g < n → ok g ≡ false

pub clash : {b : Bool} → b ≡ true → b ≡ false → ⊥
clash p q = subst T (sym p ∙ q) tt

-- ---- such a number is found by recursion

pub leads_none : (ok : ℕ → Bool) → Leads ok 0 0
leads_none ok = record { within = omega arith; below = λ i h. absurd (not-suc-le-zero h); stops = λ h. absurd (not-suc-le-zero h) }

pub leads_next : (ok : ℕ → Bool) (n g : ℕ) → Leads (λ i. ok (suc i)) n g → Leads ok (suc n) (cond (ok 0) (suc g) 0)
leads_next ok n g r = go (ok 0) refl
  where
    up : ok 0 ≡ true → (i : ℕ) → i < suc g → ok i ≡ true
    up e zero h = e
    up e (suc i) h = r.below i (le_of_suc-le-suc h)

    go : (b : Bool) → ok 0 ≡ b → Leads ok (suc n) (cond b (suc g) 0)
    go true e = record { within = omega (arith, r.within); below = up e; stops = λ h. r.stops (le_of_suc-le-suc h) }
    go false e = record { within = omega arith; below = λ i h. absurd (not-suc-le-zero h); stops = λ h. e }

-- ---- a loop that goes by one place a turn, and what its answer means

module _ {ok : ℕ → Bool} {n g : ℕ} (r : Leads ok n g) where
  pub one_more : (i : ℕ) → i < n → i ≤ g → ok i ≡ true → i + 1 ≤ g
  one_more i h k e = go (dec_lt i g)
    where
      go : Dec (i < g) → i + 1 ≤ g
      go (yes l) = omega arith
      go (no m) = let q : g ≡ i = omega arith in absurd (clash e (subst (λ (j : ℕ). ok j ≡ false) q (r.stops (omega arith))))

  pub stops_at : (i : ℕ) → i ≤ g → ok i ≡ false → i ≡ g
  stops_at i k e = go (dec_lt i g)
    where
      go : Dec (i < g) → i ≡ g
      go (yes l) = absurd (clash (r.below i l) e)
      go (no m) = omega arith

  pub ends_at : (i : ℕ) → n ≤ i → i ≤ g → i ≡ g
  ends_at i h k = omega (arith, r.within)

  pub reaches : (k : ℕ) → k ≤ n → ((i : ℕ) → i < k → ok i ≡ true) → k ≤ g
  reaches zero h f = omega arith
  reaches (suc k) h f = omega (arith, one_more k h (reaches k (omega arith) (λ i l. f i (omega arith))) (f k (omega arith)))

  pub found : (k : ℕ) → g ≡ k → k < n → (ok k ≡ false) × ((i : ℕ) → i < k → ok i ≡ true)
  found k e h = (subst (λ (j : ℕ). ok j ≡ false) e (r.stops (omega arith)), λ i l. r.below i (omega arith))

  pub all_pass : ((i : ℕ) → i < n → ok i ≡ true) → g ≡ n
  all_pass f = omega (arith, reaches n (omega arith) f, r.within)

  pub found_at : (k : ℕ) → k < n → ok k ≡ false → ((i : ℕ) → i < k → ok i ≡ true) → g ≡ k
  found_at k h e f = sym (stops_at k (reaches k (omega arith) f) e)

  -- ---- a loop that looks at every place: whether all below i pass, a turn later and at its end

  pub all_next : (i : ℕ) → i < n → (leb i g && ok i) ≡ leb (i + 1) g
  all_next i h = go (dec_lt g i) (ok i) refl
    where
      go : Dec (g < i) → (b : Bool) → ok i ≡ b → (leb i g && b) ≡ leb (i + 1) g
      go (yes l) b e = rw (lt-leb i g l, lt-leb (i + 1) g (omega arith))
      go (no m) true e = let l = one_more i h (omega arith) e in rw (le-leb i g (omega arith), le-leb (i + 1) g l)
      go (no m) false e = let q = stops_at i (omega arith) e in rw (le-leb i g (omega arith), lt-leb (i + 1) g (omega arith))

  pub all_is : (k : ℕ) → k ≡ n → leb k g ≡ true → k ≡ g
  all_is k q e = omega (arith, leb-true k g e, r.within)
