-- `pulses::laying::cells_of` meets its contract: after k turns the first k rows are filled. Assumes nothing.
use native.Mathlib.Omega.{arith}
use mathlib.Core.List.{List}
use mathlib.Core.Path.{◌≡◌, sym, ap, ◌∙◌}
use Prim.Native.Nat.{ℕ, ◌+◌, ◌*◌, ◌≤◌}
use lib.ListN.{length, replicate, length-replicate}
use Rattle.pulses.specs.Laying.{cell_digit}
use Rattle.pulses.proofs.FillLaws.{filled_to, filled_none, filled_part, filled-all}
use Rattle.pulses.proofs.LayingLaws.{row_digit, board_made}
use Rattle.pulses.proofs.laying.cells_of.Goals as goal

abbrev none : List ℕ
none = replicate 256 0

pub loop-k-init : goal.loop-k-init
loop-k-init c = filled_none (cell_digit c.low_bytes-low.result) none

pub loop-k-preserved : goal.loop-k-preserved
loop-k-preserved c =
    let low = c.low_bytes-low.result in
    let k = c.loop-k.k in
    let f = cell_digit low in
    let e : 32 * k + 32 ≡ 32 * (k + 1) = omega arith in
    let h : 32 * k + 32 ≤ length none = omega (arith, length-replicate {A = ℕ} 256 0) in
    filled_part f none c.loop-k.cells _ (32 * k) 32 _ _ c.loop-k.invariant c.store_digits.ensures (omega arith) h (row_digit low k) ∙ ap (filled_to f none) e

pub returns : goal.returns
returns c =
    let b = c.low_bytes-low in
    let f = cell_digit b.result in
    let e : 32 * c.loop-k.k ≡ 256 = omega arith in
    let d = c.loop-k.invariant ∙ ap (filled_to f none) e ∙ filled-all f none 256 (sym (length-replicate {A = ℕ} 256 0)) in
    board_made c.args.values b.result c.loop-k.cells b.ensures d
