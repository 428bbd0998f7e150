-- Writing and reading are inverse, for every sound table: the row that says values is read as them, and the row that is read
-- is written again, pulse for pulse.
use mathlib.Core.Path.{◌≡◌, refl, sym, ◌∙◌, subst}
use mathlib.Core.List.{List}
use Prim.Native.Nat.{ℕ, ◌+◌, ◌-◌, ◌^◌, ◌<◌, ◌≤◌}
use native.Mathlib.Nat.{mod-eq_of_lt, zero-add}
use native.Mathlib.Omega.{arith}
use lib.Dec.{T}
use lib.ListN.{length, get_or}
use lib.Seq.{ext_get_or}
use Rattle.laws.proofs.Tested.{at}
use Rattle.pulses.specs.Row.{groups, first_data, most_places, group_of, pulse_for, good_pulses, sum_of, sums_of, row, pulses_in, doubling, sound}
use Rattle.pulses.proofs.EntryLaws.{group_small, pulse_same}
use Rattle.pulses.proofs.GoodLaws.{each_allowed}
use Rattle.pulses.proofs.RowLaws.{length-row, pulse_at_lem}
use Rattle.pulses.proofs.SumLaws.{sums_at}
use Rattle.pulses.proofs.DigitLaws.{sum_below, sum_of_row, digit_of_sum}

module _ (t : List ℕ) (ok : T (sound t)) where
  -- the pulses of each group of data double from 1 on
  pub sound_group : (g : ℕ) → first_data ≤ g → g < groups → T (doubling t g 0)
  unfolding sound
  sound_group g h k =
      let e : first_data + (g - first_data) ≡ g = omega arith in
      subst (λ (n : ℕ). T (doubling t n 0)) e (at (λ i. doubling t (first_data + i) 0) (groups - first_data) ok (g - first_data) (omega arith))

  -- what a group adds up to has no more digits than the group has pulses
  pub sum-small : (s : List ℕ) (g : ℕ) → first_data ≤ g → g < groups → sum_of t s g < 2 ^ pulses_in t g
  sum-small s g h k =
      subst (λ (n : ℕ). sum_of t s g < 2 ^ n) (zero-add (pulses_in t g)) (omega (arith, sum_below t s g 0 (sound_group g h k)))

  -- write, read: each group of the row says its value
  pub read_written : (v : List ℕ) (g : ℕ) → first_data ≤ g → g < groups → get_or v g 0 < 2 ^ pulses_in t g → sum_of t (row t v) g ≡ get_or v g 0
  read_written v g h k small = sum_of_row g h v t (sound_group g h k) ∙ mod-eq_of_lt small

  module _ (s v : List ℕ) (l : length s ≡ length t) (good : good_pulses t s ≡ length t)
      (says : (g : ℕ) → first_data ≤ g → g < groups → get_or v g 0 ≡ sum_of t s g) where
    same_pulse : (i : ℕ) → i < length t → pulse_for (get_or t i 0) v ≡ get_or s i 0
    unfolding pulse_for
    same_pulse i h =
        let e = get_or t i 0 in
        pulse_same e (get_or v (group_of e) 0) (get_or s i 0) (each_allowed t s good i h)
        (λ d. rw (says (group_of e) d (group_small e))
        (digit_of_sum (group_of e) t s i (sound_group (group_of e) d (group_small e)) h (omega arith) refl))

    -- read, write: values that say what the groups of a good row add up to give that row again
    pub written_read : row t v ≡ s
    written_read =
        ext_get_or 0 (row t v) s (length-row t v ∙ sym l)
        (λ i b. let h : i < length t = rw length-row at b in pulse_at_lem t v i h ∙ same_pulse i h)

  -- as the sums do
  pub written_sums : (s : List ℕ) → length t ≤ most_places → length s ≡ length t → good_pulses t s ≡ length t → row t (sums_of t s) ≡ s
  written_sums s m l good = written_read s (sums_of t s) l good (λ g h k. sums_at t s g m k)
