-- The writer: the length of a frame, when there is room for it, when it is written, and what a refusal leaves.
use Rattle.std.specs.Prelude.{Err, Ok}
use mathlib.Core.Bool.{true, false}
use mathlib.Core.Path.{◌≡◌, refl, ap, ◌∙◌}
use mathlib.Core.List.{List, ◌++◌}
use Prim.Native.Nat.{ℕ, ◌≤◌}
use borrow.Author.Tests.{le-ltb, ltb-false}
use lib.Dec.{ltb}
use lib.ListN.{length, drop, take}
use lib.Seq.{take_at}
use Rattle.reading.proofs.BaseLaws.{other_base_checked}
use Rattle.reading.specs.Years.{is_base}
use Rattle.reading.specs.declared.Reading.{Reading}
use Rattle.reading.specs.declared.Fault.{Fault}
use Rattle.reading.specs.declared.Fault.TheVariants.{NotCarried, OtherBase}
use Rattle.reading.specs.Faults.{number, no_fault}
use Rattle.reading.specs.Writing.{written_of, filled}
use Rattle.reading.specs.Checks.{checked_of}
use Rattle.reading.proofs.CheckLaws.{first_good}
use Rattle.pulses.proofs.RowLaws.{length-row}
use Rattle.irig_table.specs.Table.{frame_pulses}
use Rattle.irig_table.proofs.TableLaws.{frame_length_lem}
use Rattle.irig.specs.Offset.{odd_quarter}
use Rattle.irig.specs.Faults.{frame_length}
use Rattle.irig.specs.Writing.{values_of, parity_of, frame_of, carried_of, write_fault}

pub length_frame : (r : Reading) → length (frame_of r) ≡ frame_length
unfolding frame_of
length_frame r = length-row frame_pulses (values_of r (parity_of r)) ∙ frame_length_lem

-- what is written has room, and a frame carries it
pub room_enough : (base : ℕ) (r : Reading) (room : ℕ) → write_fault base r room ≡ no_fault → (frame_length ≤ room) × (carried_of base r ≡ no_fault)
unfolding write_fault
room_enough base r room e =
    let p = first_good (ltb room frame_length) _ _ e in
    (ltb-false room frame_length p.0, p.1)

pub writable : (base : ℕ) (r : Reading) (room : ℕ) → frame_length ≤ room → carried_of base r ≡ no_fault → write_fault base r room ≡ no_fault
unfolding write_fault
writable base r room h e = rw (le-ltb room frame_length h) e

-- "any other base .. is 19, straight after 1": where there is room, whatever the reading
pub other_base_refused : (base : ℕ) (r : Reading) (room : ℕ) → frame_length ≤ room → is_base base ≡ false → write_fault base r room ≡ Err OtherBase
unfolding write_fault carried_of
other_base_refused base r room h g = rw (le-ltb room frame_length h, other_base_checked base r g)

-- an odd quarter is not carried, where nothing else is wrong
pub odd_fault : (base : ℕ) (r : Reading) (room : ℕ) → frame_length ≤ room → checked_of base r ≡ no_fault → odd_quarter r.offset.0 ≡ true
    → write_fault base r room ≡ Err NotCarried
unfolding write_fault carried_of
odd_fault base r room h e f = rw (le-ltb room frame_length h, e, f)

-- "A refusal leaves all lent memory untouched."
pub refused_untouched : (base : ℕ) (r : Reading) (buffer : List ℕ) (x : Fault) → write_fault base r (length buffer) ≡ Err x
    → (written_of (write_fault base r (length buffer)) frame_length ≡ Err (number x))
    × (filled (write_fault base r (length buffer)) (frame_of r) buffer ≡ buffer)
refused_untouched base r buffer x e = rw e (refl, refl)

-- "Success writes the format's bytes from the start of the buffer and no others, and its answer is the length written."
pub written_frame : (base : ℕ) (r : Reading) (buffer : List ℕ) → write_fault base r (length buffer) ≡ no_fault
    → (written_of (write_fault base r (length buffer)) frame_length ≡ Ok frame_length)
    × (filled (write_fault base r (length buffer)) (frame_of r) buffer ≡ frame_of r ++ drop frame_length buffer)
written_frame base r buffer e = rw (e, length_frame r) (refl, refl)

pub front : (base : ℕ) (r : Reading) (buffer : List ℕ) → write_fault base r (length buffer) ≡ no_fault
    → take frame_length (filled (write_fault base r (length buffer)) (frame_of r) buffer) ≡ frame_of r
front base r buffer e =
    ap (take frame_length) (written_frame base r buffer e).1 ∙ take_at (frame_of r) (drop frame_length buffer) frame_length (length_frame r)
