-- What the tables of a DCF77 minute are, each by one test that antt computes over their marks.
use mathlib.Core.Bool.{Bool, true, false, cond, ◌&&◌}
use mathlib.Core.List.{List, [], ◌∷◌}
use mathlib.Core.Path.{◌≡◌, refl}
use Prim.Native.Nat.{ℕ, ◌<◌, ◌≤◌}
use native.Mathlib.Omega.{arith}
use lib.Dec.{T, leb, ltb, eqb, eqb→eq, le→leb}
use lib.ListN.{length, get_or, get_or-append}
use Rattle.laws.proofs.Bools.{where_so, then}
use Rattle.laws.specs.Tests.{below}
use Rattle.laws.proofs.Tested.{at}
use Rattle.pulses.specs.Row.{groups, first_data, group_of, weight_of, sound, doubling, pulses_in}
use Rattle.dcf77_table.specs.Table.{shared_marks, last_marks, minute_marks}
use Rattle.dcf77_table.specs.Values.{widths}

pub shared_length : length shared_marks ≡ 59
unfolding shared_marks
shared_length = refl

pub marks-length : (long : Bool) → length (minute_marks long) ≡ cond long 61 60
unfolding shared_marks last_marks minute_marks
marks-length true = refl
marks-length false = refl

pub long_enough : (long : Bool) → 60 ≤ length (minute_marks long)
long_enough true = omega (arith, marks-length true)
long_enough false = omega (arith, marks-length false)

-- both forms begin with the marks that they share
pub marks_shared : (long : Bool) (i : ℕ) → i < length shared_marks → get_or (minute_marks long) i 0 ≡ get_or shared_marks i 0
unfolding minute_marks
marks_shared long i h = get_or-append shared_marks (last_marks long) 0 i h

-- the marks of each group of data weigh 1, 2, 4, ..
pub marks_sound : (long : Bool) → T (sound (minute_marks long))
unfolding shared_marks last_marks minute_marks sound doubling group_of weight_of
marks_sound true = tt
marks_sound false = tt

-- how many marks each group of data has
width_rule : Bool → ℕ → Bool
width_rule long g = where_so (leb first_data g) (eqb (pulses_in (minute_marks long) g) (get_or widths g 0))

width_test : (long : Bool) → T (below (width_rule long) groups)
unfolding shared_marks last_marks minute_marks widths width_rule pulses_in group_of
width_test true = tt
width_test false = tt

pub marks_widths : (long : Bool) (g : ℕ) → first_data ≤ g → g < groups → pulses_in (minute_marks long) g ≡ get_or widths g 0
unfolding width_rule
marks_widths long g h k =
    let n = pulses_in (minute_marks long) g in
    eqb→eq n (get_or widths g 0) (then (leb first_data g) (eqb n (get_or widths g 0)) (at (width_rule long) groups (width_test long) g k) (le→leb first_data g h))

-- a mark that is fixed weighs nothing
unfoldable pub light : List ℕ → Bool
light [] = true
light (e ∷ t) = where_so (ltb (group_of e) first_data) (eqb (weight_of e) 0) && light t

pub marks_light : (long : Bool) → T (light (minute_marks long))
unfolding shared_marks last_marks minute_marks light group_of weight_of
marks_light true = tt
marks_light false = tt
