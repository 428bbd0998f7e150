-- Every frame of a reading that a frame carries is told after its last pulse, whatever pulses came before it, and also where it
-- shares its opening mark with the frame before it; 01's case 11.
use Rattle.std.specs.Prelude.{Err, Ok, Some}
use mathlib.Core.Bool.{true, false}
use mathlib.Core.List.{List, [], ◌∷◌, ◌++◌, append_assoc}
use mathlib.Core.Path.{◌≡◌, refl, sym, ap, ◌∙◌}
use Prim.Native.Nat.{ℕ, ◌≤◌}
use native.Mathlib.Omega.{arith}
use lib.ListN.{length, get_or, take, drop, length-append, drop_of_length-le}
use lib.Seq.{split_at}
use borrow.Author.Tests.{le-leb}
use Rattle.irig.proofs.RefusalLaws.{other_base_lem}
use Rattle.reading.specs.Faults.{number, no_fault}
use Rattle.reading.specs.Years.{is_base}
use Rattle.reading.specs.declared.Fault.TheVariants.{OtherBase}
use Rattle.reading.specs.declared.Reading.{Reading}
use Rattle.reading.specs.declared.Refusal.{Refusal}
use Rattle.reading.specs.Writing.{written_of, filled}
use Rattle.pulses.specs.Row.{group_of, pulse_of, pulse_for, row}
use Rattle.pulses.specs.Outline.{outline_of}
use Rattle.pulses.proofs.OutlineLaws.{row_outline, outline_length}
use Rattle.pulses.proofs.RowLaws.{pulse_at_lem}
use Rattle.irig_table.specs.Table.{frame_pulses}
use Rattle.irig_table.proofs.TableLaws.{frame_length_lem}
use Rattle.irig.specs.Faults.{frame_length, read_frame}
use Rattle.irig.specs.Writing.{values_of, parity_of, frame_of, carried_of, write_fault}
use Rattle.irig.proofs.WriteLaws.{length_frame}
use Rattle.irig.proofs.RoundTrip.{exactly, written_reads}
use Rattle.streams.proofs.Window.{last_after}
use Rattle.irig_stream.specs.Said.{kept, say_of, owed}

-- ---- a frame has the outline, and a mark at both ends

frame_outline : (r : Reading) → outline_of frame_pulses (frame_of r) ≡ true
unfolding frame_of
frame_outline r = row_outline frame_pulses (values_of r (parity_of r))

opens_with_mark : (r : Reading) → frame_of r ≡ 2 ∷ drop 1 (frame_of r)
unfolding frame_of row frame_pulses pulse_for pulse_of group_of
opens_with_mark r = refl

last_is_mark : (r : Reading) → get_or (frame_of r) 99 0 ≡ 2
unfolding frame_of frame_pulses pulse_for pulse_of group_of
last_is_mark r = pulse_at_lem frame_pulses (values_of r (parity_of r)) 99 (omega (arith, frame_length_lem))

pub closes_with_mark : (r : Reading) → frame_of r ≡ take 99 (frame_of r) ++ (2 ∷ [])
closes_with_mark r =
    split_at (frame_of r) 99 0 (omega (arith, length_frame r))
    ∙ rw (last_is_mark r, drop_of_length-le (frame_of r) {i = 100} (omega (arith, length_frame r)))

-- ---- what is owed after a frame

-- a hundred pulses in outline: what whole-frame reading says of them, whatever came before them
outlined_told : (base : ℕ) (s : List ℕ) → outline_of frame_pulses s ≡ true → (before : List ℕ) → owed base (before ++ s) ≡ Some (read_frame base s)
unfolding owed say_of
outlined_told base s o before =
    let l : length s ≡ kept = outline_length frame_pulses s o ∙ frame_length_lem in
    let k : kept ≤ length (before ++ s) = simp length-append (omega arith) in
    rw (le-leb kept (length (before ++ s)) k, last_after kept before s l, o)

-- its refusal too, with the code and the place
pub refused_told : (base : ℕ) (s : List ℕ) (refusal : Refusal) → outline_of frame_pulses s ≡ true → read_frame base s ≡ Err refusal
    → (before : List ℕ) → owed base (before ++ s) ≡ Some (Err refusal)
refused_told base s refusal o e before = outlined_told base s o before ∙ ap Some e

-- a reader that was started with another base than the two says 19 of every frame in outline
pub other_base_told : (base : ℕ) (s : List ℕ) → is_base base ≡ false → outline_of frame_pulses s ≡ true
    → (before : List ℕ) → owed base (before ++ s) ≡ Some (Err (number OtherBase))
other_base_told base s g o before =
    refused_told base s (number OtherBase) o (other_base_lem base s (outline_length frame_pulses s o ∙ frame_length_lem) g) before

module _ (base : ℕ) (r : Reading) (good : carried_of base r ≡ no_fault) where
  -- whatever came before it
  pub frame_told : (before : List ℕ) → owed base (before ++ frame_of r) ≡ Some (Ok r)
  frame_told before = outlined_told base (frame_of r) (frame_outline r) before ∙ ap Some ((exactly base (frame_of r) r).1 (good, refl))

  -- the closing mark of any frame serves as its opening mark
  pub mark_shared : (before : List ℕ) (q : Reading) → owed base (before ++ (frame_of q ++ drop 1 (frame_of r))) ≡ Some (Ok r)
  mark_shared before q =
      let join : frame_of q ++ drop 1 (frame_of r) ≡ take 99 (frame_of q) ++ frame_of r =
      ap (λ (f : List ℕ). f ++ drop 1 (frame_of r)) (closes_with_mark q)
      ∙ append_assoc (take 99 (frame_of q)) (2 ∷ []) (drop 1 (frame_of r))
      ∙ ap (λ (f : List ℕ). take 99 (frame_of q) ++ f) (sym (opens_with_mark r)) in
      ap (λ (f : List ℕ). owed base (before ++ f)) join
      ∙ ap (owed base) (sym (append_assoc before (take 99 (frame_of q)) (frame_of r)))
      ∙ frame_told (before ++ take 99 (frame_of q))

-- ---- the same of the pulses themselves

-- what whole-frame reading accepts is told, whatever came before it
pub accepted_told : (base : ℕ) (s : List ℕ) (r : Reading) → read_frame base s ≡ Ok r → (before : List ℕ) → owed base (before ++ s) ≡ Some (Ok r)
accepted_told base s r e before =
    let p = (exactly base s r).0 e in
    rw p.1 (frame_told base r p.0 before)

-- and so is what the writer wrote, into any buffer
pub written_told : (base : ℕ) (r : Reading) (buffer : List ℕ) (n : ℕ) → written_of (write_fault base r (length buffer)) frame_length ≡ Ok n
    → (before : List ℕ) → owed base (before ++ take n (filled (write_fault base r (length buffer)) (frame_of r) buffer)) ≡ Some (Ok r)
written_told base r buffer n e before =
    accepted_told base (take n (filled (write_fault base r (length buffer)) (frame_of r) buffer)) r (written_reads base r buffer n e) before
