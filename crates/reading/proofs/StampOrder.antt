-- "A later UTC second always has the larger stamp", whichever base each of two readings was read with, and equal stamps are of one UTC
-- second.
use mathlib.Core.Logic.{◌⊎◌, inl, inr, ⊎_elim}
use mathlib.Core.Bool.{Bool, true, false, cond}
use mathlib.Core.Path.{◌≡◌, refl, sym, ap, subst, ◌∙◌}
use Prim.Native.Nat.{ℕ, suc, ◌-◌, ◌≤◌, ◌<◌}
use native.Mathlib.Decide.{ℕ_discrete, dec_lt}
use native.Mathlib.Omega.{arith}
use lib.Dec.{T, ltb, lt→ltb, ltb→lt, le→leb}
use lib.IntN.{ℤ, pos, negsuc, sub_ℕ}
use lib.Signed.{lt_z, lt_z_yes, le_z_yes, ◌<ℤ◌, ◌≤ℤ◌, <ℤ_irrefl}
use borrow.Author.Tests.{ltb-true, ltb-false}
use Rattle.calendar.proofs.WeekdayLaws.{start_number}
use Rattle.calendar.specs.Calendar.{day_number}
use Rattle.calendar.specs.Order.{Earlier}
use Rattle.calendar.proofs.DateLaws.{later, compared}
use Rattle.reading.specs.declared.Reading.{Reading}
use Rattle.reading.specs.Universal.{utc_of}
use Rattle.reading.specs.Stamps.{stamp_is, stamp_of}
use Rattle.reading.specs.Order.{UtcSecond, utc_second, EarlierTime, EarlierSecond}
use Rattle.reading.proofs.StampLaws.{Parts, counted, stamp_count, parts}

-- of two readings with stamps
module _ (r r' : Reading) (p : Parts r) (q : Parts r') where
  by_date : Earlier (utc_of r).date (utc_of r').date → counted r < counted r'
  by_date h =
      let n = later (utc_of r).date (utc_of r').date p.real q.real h in
      let a = p.from in
      let b = p.minute in
      let c = p.second in
      omega (arith, p.value, q.value)

  by_minute : (utc_of r).date ≡ (utc_of r').date → (utc_of r).minute < (utc_of r').minute → counted r < counted r'
  by_minute e h = ⊎_elim (λ k. omega (arith, ap day_number e, p.value, q.value)) (λ k. omega (arith, q.minute)) p.last

  by_second : (utc_of r).date ≡ (utc_of r').date → (utc_of r).minute ≡ (utc_of r').minute → r.second < r'.second → counted r < counted r'
  by_second e m h = omega (arith, ap day_number e, p.value, q.value)

  pub earlier_smaller : EarlierSecond (utc_second r) (utc_second r') → counted r < counted r'
  unfolding utc_second
  earlier_smaller (inl h) = by_date h
  earlier_smaller (inr h) = time h.1
    where
      time : EarlierTime (utc_second r) (utc_second r') → counted r < counted r'
      time (inl k) = by_minute h.0 (omega arith)
      time (inr (inl k)) = by_minute h.0 (omega arith)
      time (inr (inr k)) = by_second h.0 (omega arith) k.2

  pub same_value : utc_second r ≡ utc_second r' → counted r ≡ counted r'
  unfolding utc_second
  same_value e =
      omega (
        arith,
        p.value,
        q.value,
        ap (λ (s : UtcSecond). day_number s.date) e,
        ap (λ (s : UtcSecond). s.hour) e,
        ap (λ (s : UtcSecond). s.minute) e,
        ap (λ (s : UtcSecond). s.second) e,
      )

-- two UTC seconds are the same, or one of them is the earlier
compared_seconds : (s t : UtcSecond) → (s ≡ t) ⊎ (EarlierSecond s t ⊎ EarlierSecond t s)
compared_seconds s t = ⊎_elim (λ e. hours e (ℕ_discrete s.hour t.hour)) (λ h. inr (⊎_elim (λ k. inl (inl k)) (λ k. inr (inl k)) h)) (compared s.date t.date)
  where
    apart : {a b : ℕ} → (a ≡ b → ⊥) → (a < b) ⊎ (b < a)
    apart {a} {b} d = lt (dec_lt a b)
      where
        lt : Dec (a < b) → (a < b) ⊎ (b < a)
        lt (yes h) = inl h
        lt (no h) = inr (omega arith)

    either_way : s.date ≡ t.date → EarlierTime s t ⊎ EarlierTime t s → (s ≡ t) ⊎ (EarlierSecond s t ⊎ EarlierSecond t s)
    either_way e h = inr (⊎_elim (λ k. inl (inr (e, k))) (λ k. inr (inr (sym e, k))) h)

    seconds : s.date ≡ t.date → s.hour ≡ t.hour → s.minute ≡ t.minute → Dec (s.second ≡ t.second) → (s ≡ t) ⊎ (EarlierSecond s t ⊎ EarlierSecond t s)
    seconds e a b (yes c) = inl (λ i. record { date = e i; hour = a i; minute = b i; second = c i })
    seconds e a b (no d) = either_way e (⊎_elim (λ h. inl (inr (inr (a, b, h)))) (λ h. inr (inr (inr (sym a, sym b, h)))) (apart d))

    minutes : s.date ≡ t.date → s.hour ≡ t.hour → Dec (s.minute ≡ t.minute) → (s ≡ t) ⊎ (EarlierSecond s t ⊎ EarlierSecond t s)
    minutes e a (yes b) = seconds e a b (ℕ_discrete s.second t.second)
    minutes e a (no d) = either_way e (⊎_elim (λ h. inl (inr (inl (a, h)))) (λ h. inr (inr (inl (sym a, h)))) (apart d))

    hours : s.date ≡ t.date → Dec (s.hour ≡ t.hour) → (s ≡ t) ⊎ (EarlierSecond s t ⊎ EarlierSecond t s)
    hours e (yes a) = minutes e a (ℕ_discrete s.minute t.minute)
    hours e (no d) = either_way e (⊎_elim (λ h. inl (inl h)) (λ h. inr (inl h)) (apart d))

-- ---- stamps compare as their counts

smaller : (k a b : ℕ) → a < b → sub_ℕ a k <ℤ sub_ℕ b k
smaller k a b h = lt_z_yes (go (ltb a k) refl (ltb b k) refl)
  where
    go : (s : Bool) → ltb a k ≡ s → (t : Bool) → ltb b k ≡ t
        → T (lt_z (cond s (negsuc (k - suc a)) (pos (a - k))) (cond t (negsuc (k - suc b)) (pos (b - k))))
    go true e true f = let x = ltb-true a k e in let y = ltb-true b k f in lt→ltb (k - suc b) (k - suc a) (omega arith)
    go true e false f = tt
    go false e true f = let x = ltb-false a k e in let y = ltb-true b k f in absurd (omega arith)
    go false e false f = let x = ltb-false a k e in let y = ltb-false b k f in lt→ltb (a - k) (b - k) (omega arith)

-- no two numbers are smaller than each other, and none than itself
not-both : (v w : ℤ) → v <ℤ w → w <ℤ v → ⊥
not-both (pos a) (pos b) h k = let x = ltb→lt a b h.lt in let y = ltb→lt b a k.lt in omega arith
not-both (pos a) (negsuc b) h k = absurd h.lt
not-both (negsuc a) (pos b) h k = absurd k.lt
not-both (negsuc a) (negsuc b) h k = let x = ltb→lt b a h.lt in let y = ltb→lt a b k.lt in omega arith

not_itself : (v v' : ℤ) → v ≡ v' → v <ℤ v' → ⊥
not_itself v v' e h = <ℤ_irrefl (subst (λ (z : ℤ). z <ℤ v') e h)

-- ---- two readings, each with a stamp by a base of its own

-- a later UTC second has the larger stamp
pub later_larger : (base base' : ℕ) (r r' : Reading) (v v' : ℤ) → stamp_of base r ≡ stamp_is v → stamp_of base' r' ≡ stamp_is v'
    → EarlierSecond (utc_second r) (utc_second r') → v <ℤ v'
later_larger base base' r r' v v' e e' h =
    let k = earlier_smaller r r' (parts base r v e) (parts base' r' v' e') h in
    rw (stamp_count base r v e, stamp_count base' r' v' e') (smaller 63114720886 (counted r) (counted r') k)

module _ (base base' : ℕ) (r r' : Reading) (v v' : ℤ) (e : stamp_of base r ≡ stamp_is v) (e' : stamp_of base' r' ≡ stamp_is v') where
  -- equal stamps are of one UTC second
  pub same_second : v ≡ v' → utc_second r ≡ utc_second r'
  same_second k = ⊎_elim (λ (h : utc_second r ≡ utc_second r'). h) (λ h. absurd (⊎_elim one other h)) (compared_seconds (utc_second r) (utc_second r'))
    where
      one : EarlierSecond (utc_second r) (utc_second r') → ⊥
      one h = not_itself v v' k (later_larger base base' r r' v v' e e' h)

      other : EarlierSecond (utc_second r') (utc_second r) → ⊥
      other h = not_itself v' v (sym k) (later_larger base' base r' r v' v e' e h)

  -- one UTC second has one stamp
  pub same_stamp : utc_second r ≡ utc_second r' → v ≡ v'
  same_stamp h =
      let q = same_value r r' (parts base r v e) (parts base' r' v' e') h in
      stamp_count base r v e ∙ ap (λ (n : ℕ). sub_ℕ n 63114720886) q ∙ sym (stamp_count base' r' v' e')

  -- and the larger stamp is of the later UTC second
  pub larger_later : v <ℤ v' → EarlierSecond (utc_second r) (utc_second r')
  larger_later k = ⊎_elim (λ h. absurd (same h)) (λ h. ⊎_elim (λ (a : EarlierSecond (utc_second r) (utc_second r')). a) (λ a. absurd (other a)) h) (compared_seconds (utc_second r) (utc_second r'))
    where
      other : EarlierSecond (utc_second r') (utc_second r) → ⊥
      other h = not-both v v' k (later_larger base' base r' r v' v e' e h)

      same : utc_second r ≡ utc_second r' → ⊥
      same h = not_itself v v' (same_stamp h) k

-- ---- how far stamps go

from_to : (n : ℕ) → 62799184434 ≤ n → n ≤ 66270517410 → (negsuc 315536451 ≤ℤ sub_ℕ n 63114720886) × (sub_ℕ n 63114720886 ≤ℤ pos 3155796524)
from_to n a b = go (ltb n 63114720886) refl
  where
    go : (t : Bool) → ltb n 63114720886 ≡ t
        → (negsuc 315536451 ≤ℤ cond t (negsuc (63114720886 - suc n)) (pos (n - 63114720886)))
        × (cond t (negsuc (63114720886 - suc n)) (pos (n - 63114720886)) ≤ℤ pos 3155796524)
    go true e = let h = ltb-true n 63114720886 e in (le_z_yes (le→leb (63114720886 - suc n) 315536451 (omega arith)), le_z_yes tt)
    go false e = let h = ltb-false n 63114720886 e in (le_z_yes tt, le_z_yes (le→leb (n - 63114720886) 3155796524 (omega arith)))

-- "1990-01-01 00:00:00 UTC is -315536452", and 01's "Largest: 3,155,796,524."
pub stamp_range : (base : ℕ) (r : Reading) (v : ℤ) → stamp_of base r ≡ stamp_is v → (negsuc 315536451 ≤ℤ v) × (v ≤ℤ pos 3155796524)
stamp_range base r v e =
    let p = parts base r v e in
    let a = p.from in
    let b = p.to in
    let c = p.minute in
    let d = p.second in
    rw (stamp_count base r v e) (from_to (counted r) (omega (arith, p.value, start_number)) (omega (arith, p.value, start_number)))
