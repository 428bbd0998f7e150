-- What the table of an IEEE 1344 frame is, each by one test that antt computes over its hundred pulses.
use mathlib.Core.Bool.{Bool, cond, not}
use mathlib.Core.List.{List, [], ◌∷◌}
use mathlib.Core.Path.{◌≡◌, refl, sym, ap, ◌∙◌}
use Prim.Native.Nat.{ℕ, ◌<◌}
use lib.Dec.{T, eqb, eqb→eq}
use lib.ListN.{length, get_or}
use Rattle.laws.proofs.Bools.{where_so, then, holds}
use Rattle.laws.specs.Tests.{below}
use Rattle.laws.proofs.Tested.{at}
use Rattle.pulses.specs.Row.{groups, group_of, weight_of, sound, doubling, pulses_in, up_to}
use Rattle.pulses.proofs.SumLaws.{up_to_at}
use Rattle.irig_table.specs.Table.{frame_pulses, parity, mark}
use Rattle.irig_table.specs.Paper.{mark_due}
use borrow.Author.Tests.{eq-eqb}

pub frame_length_lem : length frame_pulses ≡ 100
unfolding frame_pulses
frame_length_lem = refl

-- the pulses of each group of data weigh 1, 2, 4, ..
pub frame_sound : T (sound frame_pulses)
unfolding frame_pulses sound doubling group_of weight_of
frame_sound = tt

-- how many pulses each group has: what is always 0, none that is always 1, marks, and then the groups of data
unfoldable pub widths : List ℕ
widths =
    19 ∷ 0 ∷ 11
    ∷ 4 ∷ 3 ∷ 4 ∷ 3 ∷ 4 ∷ 2 ∷ 4 ∷ 4 ∷ 2 ∷ 4 ∷ 4 ∷ 1 ∷ 1 ∷ 1 ∷ 1 ∷ 1 ∷ 4 ∷ 1 ∷ 4 ∷ 1 ∷ 17
    ∷ 0 ∷ 0 ∷ 0 ∷ 0 ∷ 0 ∷ 0 ∷ 0 ∷ 0 ∷ []

all-widths : up_to (pulses_in frame_pulses) groups ≡ widths
unfolding frame_pulses up_to pulses_in group_of widths
all-widths = refl

pub frame_widths : (g : ℕ) → g < groups → pulses_in frame_pulses g ≡ get_or widths g 0
frame_widths g h = sym (up_to_at (pulses_in frame_pulses) groups g h) ∙ ap (λ (l : List ℕ). get_or l g 0) all-widths

-- marks stand where they are due, and nowhere else
pub frame_marks : T (below (λ i. let m = eqb (get_or frame_pulses i 0) mark in cond (mark_due i) m (not m)) 100)
unfolding frame_pulses
frame_marks = tt

-- the parity's group has the pulse 75 alone
parity_rule : ℕ → Bool
parity_rule i = where_so (eqb (group_of (get_or frame_pulses i 0)) parity) (eqb i 75)

parity_test : T (below parity_rule 100)
unfolding frame_pulses group_of parity_rule
parity_test = tt

pub parity_alone : (i : ℕ) → i < 100 → group_of (get_or frame_pulses i 0) ≡ parity → i ≡ 75
unfolding parity_rule
parity_alone i h e =
    let g = eqb (group_of (get_or frame_pulses i 0)) parity in
    eqb→eq i 75 (then g (eqb i 75) (at parity_rule 100 parity_test i h) (holds g (eq-eqb (group_of (get_or frame_pulses i 0)) parity e)))
