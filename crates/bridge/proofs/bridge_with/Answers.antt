-- `bridge::bridge_with` meets its contract: the writer of the frame, which could refuse a reading, refuses an odd quarter alone of
-- those that a string says. Assumes nothing.
use Rattle.strings.specs.Checks.{Answer}
use Rattle.std.specs.Prelude.{Err, Ok}
use mathlib.Core.Bool.{Bool, true, false}
use mathlib.Core.List.{List}
use mathlib.Core.Path.{◌≡◌, refl, sym, ap, ◌∙◌}
use Prim.Native.Nat.{ℕ, ◌≤◌, ◌<◌}
use native.Mathlib.Omega.{arith}
use lib.ListN.{length}
use Rattle.reading.specs.declared.Reading.{Reading}
use Rattle.reading.specs.declared.Refusal.{Refusal}
use Rattle.reading.specs.declared.Fault.TheVariants.{Length}
use Rattle.reading.specs.Faults.{number}
use Rattle.reading.specs.Writing.{written_of, filled, Written}
use Rattle.clock_string.specs.Reader.{read_string, whichever}
use Rattle.clock_string.proofs.ReadLaws.{Tells}
use Rattle.irig.specs.Offset.{odd_quarter}
use Rattle.irig.specs.Faults.{frame_length}
use Rattle.irig.specs.Writing.{frame_of, write_fault}
use Rattle.irig.proofs.WriteLaws.{writable, odd_fault, written_frame}
use Rattle.bridge.specs.declared.Coasting.{Coasting}
use Rattle.bridge.specs.Bridge.{carried_by, bridge_answer, bridge_filled}
use Rattle.bridge.proofs.CarriedLaws.{quarter-carried}
use Rattle.bridge.proofs.BridgeLaws.{carried_checked, frame_carries, too-short-first, string-refusal-unchanged, odd-not-carried, accepted-written}
use Rattle.bridge.proofs.bridge_with.Goals as goal

module _ (base : ℕ) (s : List ℕ) (way : Coasting) (out : List ℕ) where
  -- an answer and a buffer are those of the definitions
  abbrev Right : Written → List ℕ → Type 0
  Right w after = (w ≡ bridge_answer base s (length out)) × (after ≡ bridge_filled way base s out)

  too_short : (n : Refusal) (w : Written) (after : List ℕ) → length out < frame_length → n ≡ number Length → w ≡ Err n → after ≡ out → Right w after
  too_short n w after h q e f = let l = too-short-first base s way out h in (e ∙ ap Err q ∙ sym l.0, f ∙ sym l.1)

  module _ (enough : frame_length ≤ length out) (a : Answer) (is : a ≡ whichever (read_string base s)) where
    wrote : (r p : Reading) (coasting : Bool) (w : Written) (after : List ℕ) → a ≡ Ok (r, coasting) → p ≡ carried_by way coasting r
        → w ≡ written_of (write_fault base p (length out)) frame_length → after ≡ filled (write_fault base p (length out)) (frame_of p) out
        → Right w after
    wrote r p coasting w after e q answer bytes =
        go (odd_quarter r.offset.0) refl
      where
        c : Reading
        c = carried_by way coasting r

        read : Tells base s r coasting
        read = sym is ∙ e

        go : (odd : Bool) → odd_quarter r.offset.0 ≡ odd → Right w after
        go true odd =
            let l = odd-not-carried base s way out enough r coasting read odd in
            let f = odd_fault base c (length out) enough (carried_checked base s way r coasting read) (quarter-carried r way coasting ∙ odd) in
            (answer ∙ rw (q, f) (sym l.0), bytes ∙ rw (q, f) (sym l.1))
        go false even =
            let l = accepted-written base s way out enough r coasting read even in
            let good = writable base c (length out) enough (frame_carries base s way r coasting read even) in
            let f = written_frame base c out good in
            (answer ∙ rw q (f.0 ∙ sym l.0), bytes ∙ rw q (f.1 ∙ sym l.1))

pub returns-then-out-lt-LENGTH : goal.returns-then-out-lt-LENGTH
returns-then-out-lt-LENGTH c =
    let a = c.args in
    let no = c.refuse.ensures in
    let both = too_short _ a.s.now a.way a.out.now c.into.result _ _ (omega arith) c.into.ensures no.value no.out_unchanged in
    record { value = both.0; out_after = both.1 }

pub returns-in-Err : goal.returns-in-Err
returns-in-Err c =
    let a = c.args in
    let no = c.refuse-in-Err.ensures in
    let both = string-refusal-unchanged _ a.s.now a.way a.out.now c.if-out-lt-LENGTH.false c.in-Err.why (sym c.read.ensures ∙ c.in-Err.is) in
    record { value = no.value ∙ sym both.0; out_after = no.out_unchanged ∙ sym both.1 }

pub returns-in-Ok : goal.returns-in-Ok
returns-in-Ok c =
    let a = c.args in
    let timed = c.timed-coasting.result in
    let tells = ap whichever (sym c.read.ensures ∙ c.in-Ok.is) ∙ ap Ok (sym c.timed-coasting.ensures) in
    let both = wrote _ a.s.now a.way a.out.now c.if-out-lt-LENGTH.false (whichever (read_string a.base a.s.now)) refl
    timed.0 c.carried_by.result timed.1 c.write.result c.write.new.out tells c.carried_by.ensures
    c.write.ensures.value c.write.ensures.out_after in
    record { value = both.0; out_after = both.1 }
