-- `dcf77_stream::say` meets its contract: the second symbol tells which of the two outlines there can be.
use Rattle.std.specs.Prelude.{None, Some}
use mathlib.Core.Bool.{Bool, true, false, cond}
use mathlib.Core.List.{List}
use mathlib.Core.Path.{◌≡◌, refl, sym, ◌∙◌}
use Prim.Native.Nat.{ℕ, ◌<◌, ◌≤◌}
use native.Mathlib.Omega.{arith}
use borrow.Author.Rules.{rules}
use lib.ListN.{length, get_or, drop}
use Rattle.dcf77.specs.Reader.{read_dcf77}
use Rattle.dcf77_stream.specs.Said.{between_gaps, say_of}
use Rattle.dcf77_stream.proofs.SymbolLaws.{second_unmarked, no_gap_there}
use Rattle.dcf77_stream.proofs.say.Goals as goal

-- of a test of the outline that there can be
module _ (base : ℕ) (w : List ℕ) (l : 2 < length w) (test is : Bool) where
  -- where the second is no gap, that of 60 marks
  by_first : (get_or w 1 0 ≡ 2 → ⊥) → test ≡ between_gaps w → test ≡ is → say_of base w ≡ cond is (Some (read_dcf77 base (drop 1 w))) None
  unfolding say_of
  by_first d t e = rw (← no_gap_there w 1 (omega arith) d, ← t, e)

  -- where it is no mark, that of 59
  by_second : 2 ≤ get_or w 1 0 → test ≡ between_gaps (drop 1 w) → test ≡ is → say_of base w ≡ cond is (Some (read_dcf77 base (drop 2 w))) None
  unfolding say_of
  by_second h t e = rw (second_unmarked w l h, ← t, e)

pub returns-then-between_gaps : goal.returns-then-between_gaps
returns-then-between_gaps c =
    let w = c.args.window.now in
    let gap = c.if-window-eq2.true in
    c.read_from.ensures
    ∙ sym (by_second c.args.base w (search rules) c.between_gaps.result true (omega (arith, gap)) c.between_gaps.ensures c.if-between_gaps.true)

pub returns-then-window-eq2 : goal.returns-then-window-eq2
returns-then-window-eq2 c =
    let w = c.args.window.now in
    let gap = c.if-window-eq2.true in
    sym (by_second c.args.base w (search rules) c.between_gaps.result false (omega (arith, gap)) c.between_gaps.ensures c.if-between_gaps.false)

pub returns-then-window-ne2 : goal.returns-then-window-ne2
returns-then-window-ne2 c =
    let w = c.args.window.now in
    let k : 2 < length w = search rules in
    sym (by_first c.args.base w k false false c.if-window-eq2.false (no_gap_there w 0 (omega arith) c.if-window-ne2.true) refl)

pub returns-then-window-gt2 : goal.returns-then-window-gt2
returns-then-window-gt2 c =
    let w = c.args.window.now in
    let k : 2 < length w = search rules in
    let past = c.if-window-gt2.true in
    sym (by_first c.args.base w k false false c.if-window-eq2.false (sym (second_unmarked w k (omega (arith, past)))) refl)

pub returns : goal.returns
returns c =
    let w = c.args.window.now in
    sym (by_first c.args.base w (search rules) c.between_gaps-2.result false c.if-window-eq2.false c.between_gaps-2.ensures c.if-between_gaps-2.false)
