-- What document 01 demands of the IEEE 1344 frame, for any base year: writing and reading are inverse, a frame is accepted
-- exactly where it is the frame of a reading that its writer carries, and such a reading is stamped or refused by 12.
use Rattle.std.specs.Prelude.{Err, Ok}
use mathlib.Core.Path.{◌≡◌, refl, sym, ap, ◌∙◌}
use mathlib.Core.Bool.{Bool, true, false}
use mathlib.Core.List.{List, ◌++◌}
use mathlib.Core.Logic.{◌⊎◌, inl, inr}
use Prim.Native.Nat.{ℕ, ◌/◌, ◌%◌, ◌≤◌}
use native.Mathlib.Omega.{arith}
use lib.Dec.{ltb}
use lib.IntN.{ℤ, pos}
use lib.ListN.{length, get_or, take, drop}
use Rattle.reading.specs.declared.Reading.{Reading}
use Rattle.reading.specs.declared.Fault.TheVariants.{OutsideYears}
use Rattle.reading.specs.Faults.{number, no_fault}
use Rattle.reading.specs.Writing.{written_of, filled}
use Rattle.reading.specs.Offset.{unit, east}
use Rattle.reading.specs.Universal.{utc_of}
use Rattle.reading.specs.Checks.{checked_of}
use Rattle.reading.specs.Stamps.{has_stamp, stamp_number, stamp_is, stamp_of}
use Rattle.reading.proofs.WrittenLaws.{length_is}
use Rattle.reading.proofs.StampLaws.{is_stamp, refused_by_12}
use Rattle.pulses.specs.Row.{group_of, weight_of, bit}
use Rattle.pulses.proofs.EntryLaws.{pulse_data}
use Rattle.pulses.proofs.RowLaws.{pulse_at_lem}
use Rattle.irig_table.specs.Table.{frame_pulses}
use Rattle.irig_table.proofs.TableLaws.{frame_length_lem}
use Rattle.irig.specs.Faults.{frame_length, sign_place, read_frame}
use Rattle.irig.specs.Writing.{groups_of, values_of, parity_of, frame_of, carried_of, write_fault}
use Rattle.irig.proofs.OffsetLaws.{minus_ahead}
use Rattle.irig.proofs.CarriedLaws.{carried_parts, carried_is, is_carried}
use Rattle.irig.proofs.WriteLaws.{room_enough, writable, written_frame, front}
use Rattle.irig.proofs.FrameLaws.{frame_read, accepted, reading_is_carried, frame_again}

-- WRITE, READ: what is written, into any buffer, is read as what was written
pub written_reads : (base : ℕ) (r : Reading) (buffer : List ℕ) (n : ℕ) → written_of (write_fault base r (length buffer)) frame_length ≡ Ok n
    → read_frame base (take n (filled (write_fault base r (length buffer)) (frame_of r) buffer)) ≡ Ok r
written_reads base r buffer n e =
    let w = length_is (write_fault base r (length buffer)) frame_length n e in
    let c = room_enough base r (length buffer) w.0 in
    rw (w.1, front base r buffer w.0) (frame_read base r (carried_is base r c.1))

module _ (base : ℕ) (s : List ℕ) (r : Reading) (e : read_frame base s ≡ Ok r) where
  -- a reading that is read is carried by the writer
  pub accepted_carried : carried_of base r ≡ no_fault
  accepted_carried = is_carried base r (reading_is_carried base s r (accepted base s r e))

  -- and so passes the checks that every writer and stamping share
  pub accepted_checked : checked_of base r ≡ no_fault
  accepted_checked = (carried_parts base r accepted_carried).0

  -- the frame is that of its reading
  pub accepted_frame : frame_of r ≡ s
  accepted_frame = frame_again base s r (accepted base s r e)

  -- READ, WRITE: what is read is written again, byte for byte, into any buffer that has room
  pub read_writes : (buffer : List ℕ) → length s ≤ length buffer
      → (written_of (write_fault base r (length buffer)) frame_length ≡ Ok (length s))
      × (filled (write_fault base r (length buffer)) (frame_of r) buffer ≡ s ++ drop (length s) buffer)
  read_writes buffer h =
      let long : length s ≡ frame_length = (accepted base s r e).long in
      let w = written_frame base r buffer (writable base r (length buffer) (omega arith) accepted_carried) in
      (w.0 ∙ ap Ok (sym long), w.1 ∙ rw (accepted_frame, long))

  -- stamping refuses it by 12 alone
  pub accepted_stamp : (stamp_of base r ≡ stamp_is (stamp_number (utc_of r) r.second)) ⊎ (stamp_of base r ≡ Err (number OutsideYears))
  accepted_stamp = go (has_stamp (utc_of r).date.year) refl
    where
      go : (b : Bool) → has_stamp (utc_of r).date.year ≡ b
          → (stamp_of base r ≡ stamp_is (stamp_number (utc_of r) r.second)) ⊎ (stamp_of base r ≡ Err (number OutsideYears))
      go true y = inl (is_stamp base r (stamp_number (utc_of r) r.second) (record { checked = accepted_checked; year = y; value = refl }))
      go false y = inr (refused_by_12 base r accepted_checked y)

-- EXACTLY: the reader accepts the frames of the readings that the writer carries, and no others
pub exactly : (base : ℕ) (s : List ℕ) (r : Reading)
    → (read_frame base s ≡ Ok r → (carried_of base r ≡ no_fault) × (s ≡ frame_of r))
    × ((carried_of base r ≡ no_fault) × (s ≡ frame_of r) → read_frame base s ≡ Ok r)
exactly base s r = (
  λ e. (accepted_carried base s r e, sym (accepted_frame base s r e)),
  λ p. rw p.1 (frame_read base r (carried_is base r p.0)),
)

-- no two frames say one reading
pub one_frame : (base : ℕ) (s t : List ℕ) (r : Reading) → read_frame base s ≡ Ok r → read_frame base t ≡ Ok r → s ≡ t
one_frame base s t r e f = sym (accepted_frame base s r e) ∙ accepted_frame base t r f

-- ---- the sign

-- THE SIGN: pulse 64 is 1, a minus, exactly where local time is ahead of UTC
pub sign_at_64 : (r : Reading) → get_or (frame_of r) sign_place 0 ≡ bit (ltb 0 (east r.offset.0))
unfolding frame_of frame_pulses group_of weight_of values_of groups_of
sign_at_64 r =
    pulse_at_lem frame_pulses (values_of r (parity_of r)) sign_place (omega (arith, frame_length_lem))
    ∙ pulse_data (get_or frame_pulses sign_place 0) (values_of r (parity_of r)) 0 (omega arith) refl
    ∙ ap (λ (b : Bool). bit b / 1 % 2) (minus_ahead r.offset.0) ∙ digit (ltb 0 (east r.offset.0))
  where
    digit : (b : Bool) → bit b / 1 % 2 ≡ bit b
    digit true = refl
    digit false = refl

-- Central European time, an hour ahead of UTC
abbrev pub hour_ahead : ℤ
hour_ahead = pos (60 / unit)

pub central_european_minus : (r : Reading) → r.offset.0 ≡ hour_ahead → get_or (frame_of r) sign_place 0 ≡ 1
unfolding east
central_european_minus r e = sign_at_64 r ∙ ap (λ (z : ℤ). bit (ltb 0 (east z))) e
