-- The groups of a frame: how much each of them can say, and that a row of pulses says the values that it was laid for.
use mathlib.Core.Path.{◌≡◌, refl, sym, ◌∙◌, subst}
use mathlib.Core.Bool.{Bool, true, false, cond, ◌&&◌}
use mathlib.Core.List.{List, [], ◌∷◌}
use Prim.Native.Nat.{ℕ, ◌+◌, ◌-◌, ◌*◌, ◌%◌, ◌^◌, ◌<◌, ◌≤◌}
use native.Mathlib.Omega.{arith}
use native.Mathlib.Decide.{dec_lt}
use lib.Dec.{T, leb, leb→le, eqb, eqb→eq}
use lib.ListN.{length, get_or}
use lib.Pow.{pow_mono}
use lib.Seq.{ext_get_or}
use Rattle.laws.proofs.Bools.{where_so}
use Rattle.laws.specs.Tests.{below}
use Rattle.laws.proofs.Tested.{at, and_left, and_right}
use Rattle.pulses.specs.Row.{groups, first_data, group_of, weight_of, share_of, sum_of, sums_of, pulses_in, row}
use Rattle.pulses.proofs.SumLaws.{sums_at, length_sums}
use Rattle.pulses.proofs.TripLaws.{sum-small, read_written}
use Rattle.irig_table.specs.Table.{frame_pulses, parity}
use Rattle.irig_table.proofs.TableLaws.{frame_length_lem, frame_sound, widths, frame_widths}
use Rattle.irig.specs.Meaning.{said, Small}

-- what group g of a frame says is the sum of its pulses
pub said-sum : (s : List ℕ) (g : ℕ) → g < groups → said (sums_of frame_pulses s) g ≡ sum_of frame_pulses s g
said-sum s g h = sums_at frame_pulses s g (omega (arith, frame_length_lem)) h

-- ---- no more than its pulses hold

-- the groups of a field, but for the second of the day, have four pulses at most
narrow : ℕ → Bool
narrow k = leb (get_or widths (first_data + k) 0) 4

all-narrow : T (below narrow 20)
unfolding narrow widths
all-narrow = tt

four : (g : ℕ) → first_data ≤ g → g ≤ parity → pulses_in frame_pulses g ≤ 4
unfolding narrow
four g h k =
    let e : first_data + (g - first_data) ≡ g = omega arith in
    rw (frame_widths g (omega arith))
    (subst (λ (n : ℕ). get_or widths n 0 ≤ 4) e (leb→le _ 4 (at narrow 20 all-narrow (g - first_data) (omega arith))))

pub sums_small : (s : List ℕ) → Small (sums_of frame_pulses s)
sums_small s g h k =
    let m = sum-small frame_pulses frame_sound s g h (omega arith) in
    rw (said-sum s g (omega arith)) (omega (arith, m, pow_mono (four g h k)))

-- ---- the groups that are no data say nothing

weightless : List ℕ → ℕ → Bool
weightless [] g = true
weightless (e ∷ t) g = where_so (eqb (group_of e) g) (eqb (weight_of e) 0) && weightless t g

no_weight : (a : Bool) (w x : ℕ) → T (where_so a (eqb w 0)) → cond a (w * x) 0 ≡ 0
no_weight true w x t = rw (eqb→eq w 0 t) (omega arith)
no_weight false w x t = refl

nothing : (t s : List ℕ) (g : ℕ) → T (weightless t g) → sum_of t s g ≡ 0
unfolding sum_of share_of weightless
nothing [] s g h = refl
nothing (e ∷ t) [] g h = refl
nothing (e ∷ t) (b ∷ s) g h =
    let a = where_so (eqb (group_of e) g) (eqb (weight_of e) 0) in
    omega (
      arith,
      no_weight (eqb (group_of e) g) (weight_of e) (b % 2) (and_left a (weightless t g) h),
      nothing t s g (and_right a (weightless t g) h),
    )

all-weightless : T (below (weightless frame_pulses) 3)
unfolding weightless frame_pulses group_of weight_of
all-weightless = tt

-- ---- the values of a frame's groups are what the row laid for them says

pub record Values (v : List ℕ) : Type 0 where
  pub long : length v ≡ groups
  pub none : (g : ℕ) → g < first_data → get_or v g 0 ≡ 0
  pub fits : (g : ℕ) → first_data ≤ g → g < groups → get_or v g 0 < 2 ^ get_or widths g 0

-- what a frame's pulses add up to is so, whatever they are
pub sums_fit : (s : List ℕ) → Values (sums_of frame_pulses s)
sums_fit s = record {
  long = length_sums frame_pulses s;
  none = λ g h. said-sum s g (omega arith) ∙ nothing frame_pulses s g (at (weightless frame_pulses) 3 all-weightless g h);
  fits = λ g h k. rw (said-sum s g k) (rw (frame_widths g k) at (sum-small frame_pulses frame_sound s g h k));
}

pub sums_of_row : (v : List ℕ) → Values v → sums_of frame_pulses (row frame_pulses v) ≡ v
sums_of_row v p =
    ext_get_or 0 (sums_of frame_pulses s) v (length_sums frame_pulses s ∙ sym p.long)
    (λ g h. let k : g < groups = rw (length_sums frame_pulses s) at h in said-sum s g k ∙ same g k (dec_lt g first_data))
  where
    s : List ℕ
    s = row frame_pulses v

    same : (g : ℕ) → g < groups → Dec (g < first_data) → sum_of frame_pulses s g ≡ get_or v g 0
    same g k (yes h) = nothing frame_pulses s g (at (weightless frame_pulses) 3 all-weightless g h) ∙ sym (p.none g h)
    same g k (no h) =
        let l : first_data ≤ g = omega arith in
        read_written frame_pulses frame_sound v g l k (rw (frame_widths g k) (p.fits g l k))
