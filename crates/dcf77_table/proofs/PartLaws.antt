-- The three parts of a minute that a parity mark closes: the marks before it hold data, and it makes the ones even in number.
use mathlib.Core.Bool.{Bool, true, false, not, ◌&&◌, ◌||◌}
use mathlib.Core.List.{List}
use mathlib.Core.Path.{◌≡◌, refl, sym, ap, ◌∙◌}
use Prim.Native.Nat.{ℕ, suc, ◌+◌, ◌-◌, ◌<◌, ◌≤◌}
use native.Mathlib.Omega.{arith}
use borrow.Author.Tests.{eq-eqb}
use lib.Dec.{T, leb, eqb, eqb→eq}
use lib.ListN.{length, get_or}
use Rattle.laws.proofs.Bools.{where_so, then, holds}
use Rattle.laws.specs.Tests.{below}
use Rattle.laws.proofs.Tested.{at}
use Rattle.pulses.specs.Row.{groups, first_data, group_of, weight_of, pulse_for, row, ones_from}
use Rattle.pulses.proofs.EntryLaws.{group_small, pulse_for_same, pulse_data}
use Rattle.pulses.proofs.RowLaws.{Alone, pulse_at_lem}
use Rattle.pulses.proofs.OnesLaws.{ones_same, ones_more}
use Rattle.dcf77_table.specs.Table.{minute_parity, hour_parity, date_parity, shared_marks, last_marks, minute_marks}
use Rattle.dcf77_table.proofs.TableLaws.{shared_length, long_enough, marks_shared}

-- a group of data that is no parity
unfoldable pub is_plain : ℕ → Bool
is_plain g = leb first_data g && not (eqb g minute_parity || (eqb g hour_parity || eqb g date_parity))

-- the group of the mark at place i
abbrev pub group_at : ℕ → ℕ
group_at i = group_of (get_or shared_marks i 0)

-- the marks from place a on hold data, up to the one at place b, which is the parity of group g
pub record Part (a b g : ℕ) : Type 0 where
  pub from : a ≤ b
  pub to : b < 59
  pub plain : (i : ℕ) → i < b - a → T (is_plain (group_at (a + i)))
  pub parity : group_at b ≡ g
  pub weight : weight_of (get_or shared_marks b 0) ≡ 1
  pub known : first_data ≤ g
  pub only : (long : Bool) (i : ℕ) → i < length (minute_marks long) → group_of (get_or (minute_marks long) i 0) ≡ g → i ≡ b

-- two lists of values say the same but for the parities
abbrev pub SamePlain : List ℕ → List ℕ → Type 0
SamePlain v w = (g : ℕ) → g < groups → T (is_plain g) → get_or v g 0 ≡ get_or w g 0

-- ---- the three

plain_test : (a n : ℕ) → T (below (λ i. is_plain (group_at (a + i))) n) → (i : ℕ) → i < n → T (is_plain (group_at (a + i)))
plain_test a n t i h = at (λ i. is_plain (group_at (a + i))) n t i h

-- the mark at place b is the only one of group g
only_test : ℕ → ℕ → Bool → Bool
only_test b g long = below (λ i. where_so (eqb (group_of (get_or (minute_marks long) i 0)) g) (eqb i b)) (length (minute_marks long))

only_at : (b g : ℕ) → T (only_test b g true) → T (only_test b g false) → (long : Bool) (i : ℕ) → i < length (minute_marks long)
    → group_of (get_or (minute_marks long) i 0) ≡ g → i ≡ b
unfolding only_test
only_at b g x y long i h e =
    let m = eqb (group_of (get_or (minute_marks long) i 0)) g in
    let t = at (λ i. where_so (eqb (group_of (get_or (minute_marks long) i 0)) g) (eqb i b)) (length (minute_marks long)) (either long) i h in
    eqb→eq i b (then m (eqb i b) t (holds m (eq-eqb (group_of (get_or (minute_marks long) i 0)) g e)))
  where
    either : (long : Bool) → T (only_test b g long)
    either true = x
    either false = y

pub minute_part : Part 21 28 minute_parity
unfolding shared_marks last_marks minute_marks group_of weight_of is_plain only_test
minute_part =
    record { from = omega arith; to = omega arith; plain = plain_test 21 7 tt; parity = refl; weight = refl; known = omega arith; only = only_at 28 minute_parity tt tt }

pub hour_part : Part 29 35 hour_parity
unfolding shared_marks last_marks minute_marks group_of weight_of is_plain only_test
hour_part =
    record { from = omega arith; to = omega arith; plain = plain_test 29 6 tt; parity = refl; weight = refl; known = omega arith; only = only_at 35 hour_parity tt tt }

pub date_part : Part 36 58 date_parity
unfolding shared_marks last_marks minute_marks group_of weight_of is_plain only_test
date_part =
    record { from = omega arith; to = omega arith; plain = plain_test 36 22 tt; parity = refl; weight = refl; known = omega arith; only = only_at 58 date_parity tt tt }

-- ---- what a row of marks has there

mark_at : (long : Bool) (v : List ℕ) (i : ℕ) → i < 59 → get_or (row (minute_marks long) v) i 0 ≡ pulse_for (get_or shared_marks i 0) v
mark_at long v i h =
    pulse_at_lem (minute_marks long) v i (omega (arith, long_enough long)) ∙ ap (λ (e : ℕ). pulse_for e v) (marks_shared long i (omega (arith, shared_length)))

module _ {a b g : ℕ} (p : Part a b g) (long : Bool) where
  -- the ones of the data go by the plain values alone, in both forms
  pub part_same : (v w : List ℕ) → SamePlain v w → ones_from a (b - a) (row (minute_marks long) v) ≡ ones_from a (b - a) (row (minute_marks false) w)
  part_same v w same =
      ones_same a (b - a) (row (minute_marks long) v) (row (minute_marks false) w)
      (λ i h.
      let k : a + i < 59 = omega (arith, p.to) in
      mark_at long v (a + i) k
      ∙ pulse_for_same (get_or shared_marks (a + i) 0) v w (λ d. same (group_at (a + i)) (group_small (get_or shared_marks (a + i) 0)) (p.plain i h))
      ∙ sym (mark_at false w (a + i) k))

  module _ (v : List ℕ) (small : get_or v g 0 < 2) where
    -- the parity mark is the value of its group
    parity-mark : get_or (row (minute_marks long) v) b 0 ≡ get_or v g 0
    parity-mark =
        let e = get_or shared_marks b 0 in
        let d : first_data ≤ group_of e = rw p.parity p.known in
        mark_at long v b p.to ∙ pulse_data e v 0 d p.weight ∙ rw p.parity (omega arith)

    -- the ones of the part are those of the data and the parity
    pub part-ones : ones_from a (b + 1 - a) (row (minute_marks long) v) ≡ ones_from a (b - a) (row (minute_marks false) v) + get_or v g 0
    part-ones =
        let s = row (minute_marks long) v in
        let h = p.from in
        let n : b + 1 - a ≡ suc (b - a) = omega arith in
        let m : a + (b - a) ≡ b = omega arith in
        ap (λ (k : ℕ). ones_from a k s) n
        ∙ ones_more a (b - a) s
        ∙ rw (m, parity-mark, part_same v v (λ g l t. refl)) (omega arith)

  -- the parity's group has that mark alone
  pub part_alone : Alone (minute_marks long) g b
  part_alone =
      let e = marks_shared long b (omega (arith, p.to, shared_length)) in
      record {
        placed = omega (arith, p.to, long_enough long);
        group = rw e p.parity;
        weight = rw e p.weight;
        known = p.known;
        only = p.only long;
      }
