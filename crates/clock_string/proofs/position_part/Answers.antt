-- `clock_string::position_part` meets its contract: 32 bytes have no part, and else a time of Uni Erlangen's has one and a refusal has
-- none. Assumes nothing.
use mathlib.Core.Path.{◌≡◌, sym, ◌∙◌}
use native.Mathlib.Omega.{arith}
use lib.ListN.{length}
use Rattle.erlangen.specs.Layout.{size}
use Rattle.erlangen.proofs.Promises.{accepted-length}
use Rattle.clock_string.proofs.PositionLaws.{no_part_of_32, no_part_of_refused, part_of_accepted}
use Rattle.clock_string.proofs.position_part.Goals as goal

pub returns-then-s-eq-LENGTH : goal.returns-then-s-eq-LENGTH
returns-then-s-eq-LENGTH c =
    let p = no_part_of_32 _ c.args.s.now c.if-s-eq-LENGTH.true in record {
      result_value = p.0;
      ref_ptr_value = rw p.1;
    }

pub slice_bounds-result-end-in-Ok : goal.slice_bounds-result-end-in-Ok
slice_bounds-result-end-in-Ok c =
    let s = c.args.s.now in
    let timed = c.in-Ok.field-0 in
    let l : length s ≡ size = accepted-length _ s timed.0 timed.1 (sym c.for_clock_string.ensures ∙ c.in-Ok.is) in
    omega arith

pub returns-in-Ok : goal.returns-in-Ok
returns-in-Ok c =
    let timed = c.in-Ok.field-0 in
    let p = part_of_accepted _ c.args.s.now timed.0 timed.1 (sym c.for_clock_string.ensures ∙ c.in-Ok.is) in record {
      result_value = p.0;
      ref_ptr_value = rw p.1;
    }

pub returns-in-Err : goal.returns-in-Err
returns-in-Err c =
    let p = no_part_of_refused _ c.args.s.now c.in-Err.field-0 (sym c.for_clock_string.ensures ∙ c.in-Err.is) in record {
      result_value = p.0;
      ref_ptr_value = rw p.1;
    }
