-- The table that drives reader and writer is the paper's: one test that antt computes over the hundred pulses.
use mathlib.Core.Bool.{Bool, ◌&&◌}
use mathlib.Core.Path.{◌≡◌}
use native.Mathlib.Decide.{dec_le}
use Rattle.irig_table.specs.declared.groups.TheConstants.{BY_GROUP, NO_FIELD}
use Prim.Native.Nat.{ℕ, ◌<◌, ◌≤◌}
use native.Mathlib.Omega.{arith}
use lib.Dec.{T, eqb, eqb→eq}
use lib.ListN.{get_or, get_or-eq_default}
use Rattle.laws.specs.Tests.{below}
use Rattle.laws.proofs.Tested.{at, and_left, and_right}
use Rattle.pulses.specs.Row.{group_of, weight_of}
use Rattle.irig_table.specs.declared.Pulse.{Pulse}
use Rattle.irig_table.specs.Table.{frame_pulses}
use Rattle.irig_table.specs.Paper.{none, fields, factors, rows, in_rows, field_of, factor_of, pulse_at}

same : Pulse → Pulse → Bool
same a b = eqb a.field b.field && eqb a.weight b.weight

right : ℕ → Bool
right i = same (pulse_at i) (in_rows rows i)

all_right : T (below right 100)
unfolding right same rows in_rows pulse_at field_of factor_of frame_pulses group_of weight_of
all_right = tt

pub table_is_paper : (i : ℕ) → i < 100 → pulse_at i ≡ in_rows rows i
unfolding right same
table_is_paper i h =
    let a = pulse_at i in
    let b = in_rows rows i in
    let t = at right 100 all_right i h in
    let p = eqb→eq _ _ (and_left (eqb a.field b.field) (eqb a.weight b.weight) t) in
    let q = eqb→eq _ _ (and_right (eqb a.field b.field) (eqb a.weight b.weight) t) in
    λ j. record { field = p j; weight = q j }

-- ---- what a group stands for

group_right : ℕ → Bool
group_right g = eqb (get_or BY_GROUP g NO_FIELD).field (field_of g) && eqb (get_or BY_GROUP g NO_FIELD).factor (factor_of g)

all-groups : T (below group_right 24)
unfolding group_right field_of factor_of
all-groups = tt

known : (g : ℕ) → g < 24 → get_or BY_GROUP g NO_FIELD ≡ record { field = field_of g; factor = factor_of g }
unfolding group_right
known g h =
    let a = get_or BY_GROUP g NO_FIELD in
    let t = at group_right 24 all-groups g h in
    let p = eqb→eq _ _ (and_left (eqb a.field (field_of g)) (eqb a.factor (factor_of g)) t) in
    let q = eqb→eq _ _ (and_right (eqb a.field (field_of g)) (eqb a.factor (factor_of g)) t) in
    λ j. record { field = p j; factor = q j }

unknown : (g : ℕ) → 24 ≤ g → get_or BY_GROUP g NO_FIELD ≡ record { field = field_of g; factor = factor_of g }
unfolding field_of factor_of
unknown g h =
    let few : 14 ≤ g = omega arith in
    rw (get_or-eq_default BY_GROUP NO_FIELD h, get_or-eq_default fields none h, get_or-eq_default factors 1 few)

pub group_is : (g : ℕ) → get_or BY_GROUP g NO_FIELD ≡ record { field = field_of g; factor = factor_of g }
group_is g = elim (dec_le 24 g) [
  | yes h ↦ unknown g h
  | no h ↦ known g (omega arith)
]
