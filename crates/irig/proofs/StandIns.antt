-- Three stand-ins that document 01 names break the contracts: a reader that refuses everything, a reader that gives one
-- fixed time, and a writer that leaves the buffer as found. Each speaks of any function that meets the contract's equation.
use Rattle.std.specs.Prelude.{Err, Ok}
use mathlib.Core.Path.{◌≡◌, refl, sym, ap, ◌∙◌}
use mathlib.Core.List.{List, ◌++◌}
use Prim.Native.Nat.{ℕ}
use native.Mathlib.Omega.{arith}
use lib.IntN.{pos}
use lib.ListN.{length, get_or, drop, replicate}
use Rattle.reading.specs.declared.Reading.{Reading}
use Rattle.reading.specs.declared.Refusal.{Refusal}
use Rattle.reading.specs.Writing.{filled}
use Rattle.reading.specs.Years.{usual_base as base}
use Rattle.reading.specs.Offset.{west, east, offset_good}
use Rattle.pulses.specs.Row.{group_of, pulse_of, pulse_for, row}
use Rattle.irig_table.specs.Table.{frame_pulses}
use Rattle.irig.specs.Offset.{halves_of, odd_quarter}
use Rattle.irig.specs.Faults.{frame_length, read_frame, Answer}
use Rattle.irig.specs.Writing.{frame_of, write_fault}
use Rattle.irig.proofs.CarriedLaws.{carried_is}
use Rattle.irig.proofs.WriteLaws.{writable, written_frame}
use Rattle.irig.proofs.FrameLaws.{frame_read}
use Rattle.irig.proofs.Worked.{at_offset, at_offset_carried}

different : ◌≡◌ {A = ℕ} 0 1 → ⊥
different z = omega arith

-- two readings that are written and read, at UTC and half an hour ahead of it
module _ (read : List ℕ → Answer) (contract : (s : List ℕ) → read s ≡ read_frame base s) where
  at_utc : read (frame_of (at_offset (pos 0))) ≡ Ok (at_offset (pos 0))
  unfolding offset_good west east odd_quarter
  at_utc = contract _ ∙ frame_read base (at_offset (pos 0)) (carried_is base (at_offset (pos 0)) (at_offset_carried (pos 0) refl refl))

  ahead : read (frame_of (at_offset (pos 2))) ≡ Ok (at_offset (pos 2))
  unfolding offset_good west east odd_quarter
  ahead = contract _ ∙ frame_read base (at_offset (pos 2)) (carried_is base (at_offset (pos 2)) (at_offset_carried (pos 2) refl refl))

  pub refuses-all : ((s : List ℕ) → (x : Refusal) × (read s ≡ Err x)) → ⊥
  refuses-all all =
      let e = (all (frame_of (at_offset (pos 0)))).1 in
      let a = at_utc in
      let z : ◌≡◌ {A = ℕ} 0 1 = cc in
      different z

  pub one_fixed_time : (r : Reading) → ((s : List ℕ) (x : Reading) → read s ≡ Ok x → x ≡ r) → ⊥
  one_fixed_time r all =
      different (ap (λ (x : Reading). halves_of x.offset.0) (all _ _ at_utc ∙ sym (all _ _ ahead)))

-- a frame starts with a mark, and a buffer of zeros does not
zeros : List ℕ
zeros = replicate frame_length 0

starts_with_mark : (r : Reading) (rest : List ℕ) → get_or (frame_of r ++ rest) 0 0 ≡ 2
unfolding frame_of row frame_pulses pulse_for pulse_of group_of
starts_with_mark r rest = refl

pub leaves_as_found : (write : Reading → List ℕ → List ℕ)
    → ((r : Reading) (buffer : List ℕ) → write r buffer ≡ filled (write_fault base r (length buffer)) (frame_of r) buffer)
    → ((r : Reading) (buffer : List ℕ) → write r buffer ≡ buffer) → ⊥
unfolding zeros offset_good west east odd_quarter
leaves_as_found write contract all =
    let r = at_offset (pos 0) in
    let w = written_frame base r zeros (writable base r frame_length (omega arith) (at_offset_carried (pos 0) refl refl)) in
    let e : zeros ≡ frame_of r ++ drop frame_length zeros = sym (all r zeros) ∙ contract r zeros ∙ w.1 in
    let z : ◌≡◌ {A = ℕ} 0 2 = ap (λ (s : List ℕ). get_or s 0 0) e ∙ starts_with_mark r (drop frame_length zeros) in
    omega arith
