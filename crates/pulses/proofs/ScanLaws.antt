-- One pass over the pulses: what is counted and what is gathered, place by place, and what it comes to where all are good.
use mathlib.Core.Path.{◌≡◌, sym, ap, ◌∙◌}
use mathlib.Core.Bool.{true, false}
use mathlib.Core.List.{List}
use Prim.Native.Nat.{ℕ, ◌+◌, ◌*◌, ◌%◌, ◌<◌, ◌≤◌, min}
use native.Mathlib.Decide.{dec_le}
use native.Mathlib.Omega.{arith}
use lib.ListN.{length, get_or, take, set, replicate}
use lib.Seq.{take_all}
use Rattle.pulses.specs.declared.Scan.{Scan}
use Rattle.pulses.specs.Row.{weights, groups, most_places, group_of, weight_of, pulse_allowed, good_pulses, sums_of, good_of, scan_of}
use Rattle.pulses.proofs.GoodLaws.{Counted, counted_none, counted-more, counted-stops, counted-ends}
use Rattle.pulses.proofs.SumLaws.{Gathered, gathered_none, gathered_more, gathered_all}
use Rattle.pulses.proofs.ZipLaws.{Turn}

-- the first i places are good, and v holds what they add; t is what is read of a table
pub record Passed (t s v : List ℕ) (i : ℕ) : Type 0 where
  pub counted : Counted t s i
  pub gathered : Gathered t s v i

pub passed_none : (t s : List ℕ) → Passed t s (replicate groups 0) 0
passed_none t s = record { counted = counted_none t s; gathered = gathered_none t s }

-- one pulse more: it is good, and adds x to group g
pub passed_more : (t s v : List ℕ) (i n e b g x : ℕ) → Passed t s v i → Turn t s i n e b → pulse_allowed e b ≡ true
    → g ≡ group_of e → x ≡ weight_of e * (b % 2) → x < weights → Passed t s (set v g (get_or v g 0 + x)) n
passed_more t s v i n e b g x a z p q r m =
    rw z.more
    record {
      counted = counted-more t s i a.counted z.left z.right (rw (← z.first, ← z.second) p);
      gathered = gathered_more t s v i g x a.gathered z.left z.right (rw (← z.first) q) (rw (← z.first, ← z.second) r) m;
    }

-- as many places of a table as are read
pub read_is : (x t : List ℕ) (n : ℕ) → x ≡ take n t → n ≡ min (length t) most_places → x ≡ take most_places t
read_is x t n e m = elim (dec_le (length t) most_places) [
  | yes h ↦ e ∙ take_all n t (omega arith) ∙ sym (take_all most_places t h)
  | no h ↦ let k : n ≡ most_places = omega arith in rw k at e
]

module _ (t s v : List ℕ) (i j : ℕ) (a : Passed (take most_places t) s v i) (q : j ≡ i) where
  ends : i ≡ good_of t s → record { good = j; sums = v } ≡ scan_of t s
  unfolding scan_of sums_of
  ends e =
      let f : v ≡ sums_of t (take (good_of t s) s) = rw e at (gathered_all (take most_places t) s v i a.gathered) in
      λ k. record { good = (q ∙ e) k; sums = f k }

  -- at a pulse that is not good
  pub passed_stops : (n e b : ℕ) → Turn (take most_places t) s i n e b → pulse_allowed e b ≡ false
      → record { good = j; sums = v } ≡ scan_of t s
  unfolding good_of
  passed_stops n e b z p = ends (counted-stops (take most_places t) s i a.counted z.left z.right (rw (← z.first, ← z.second) p))

  -- where the table or the row ends
  pub passed-all : i ≡ min (length (take most_places t)) (length s) → record { good = j; sums = v } ≡ scan_of t s
  unfolding good_of
  passed-all h = ends (counted-ends (take most_places t) s i a.counted (omega arith))

-- ---- a table of no more places than are read

module _ (t s : List ℕ) (few : length t ≤ most_places) where
  pub good_of_all : good_of t s ≡ good_pulses t s
  unfolding good_of
  good_of_all = ap (λ (u : List ℕ). good_pulses u s) (take_all most_places t few)

  -- what a pass has found
  module _ (x : Scan) (e : x ≡ scan_of t s) where
    pub scan_good : x.good ≡ good_pulses t s
    unfolding scan_of
    scan_good = ap (λ (y : Scan). y.good) e ∙ good_of_all

    -- where all pulses are good, the sums are those of the row
    pub scan-sums : length s ≤ x.good → x.sums ≡ sums_of t s
    unfolding scan_of
    scan-sums h =
        ap (λ (y : Scan). y.sums) e ∙ ap (sums_of t) (take_all (good_of t s) s (omega (arith, scan_good, good_of_all)))
