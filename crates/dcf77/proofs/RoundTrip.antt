-- Reading and writing a minute of DCF77 are inverse, for any base year: the promises, over the definitions that the contracts of
-- `Dcf77::read` and `Dcf77::write` cite.
use Rattle.std.specs.Prelude.{Err, Ok}
use mathlib.Core.Bool.{Bool, true, false}
use mathlib.Core.List.{List, ◌++◌}
use mathlib.Core.Logic.{◌⊎◌, inl, inr}
use mathlib.Core.Path.{◌≡◌, refl, sym, ap, ◌∙◌, subst}
use Prim.Native.Nat.{ℕ, ◌≤◌}
use native.Mathlib.Omega.{arith}
use lib.ListN.{length, take, drop}
use lib.Seq.{take_at}
use Rattle.reading.specs.declared.Reading.{Reading}
use Rattle.reading.specs.declared.Refusal.{Refusal}
use Rattle.reading.specs.declared.Fault.TheVariants.{OutsideYears}
use Rattle.reading.specs.Faults.{number, Verdict, no_fault}
use Rattle.reading.specs.Universal.{utc_of}
use Rattle.reading.specs.Checks.{checked_of}
use Rattle.reading.specs.Stamps.{has_stamp, stamp_number, stamp_is, stamp_of}
use Rattle.reading.specs.Writing.{written_of, filled}
use Rattle.reading.proofs.WrittenLaws.{length_is, untouched}
use Rattle.reading.proofs.StampLaws.{is_stamp, refused_by_12}
use Rattle.pulses.specs.Row.{row}
use Rattle.dcf77_table.specs.Table.{minute_marks}
use Rattle.dcf77_table.proofs.ValueLaws.{said_proper, row_said}
use Rattle.dcf77.specs.Forms.{length_of, due_long}
use Rattle.dcf77.specs.Reader.{is_long, table_for, says, reading_of, read_dcf77}
use Rattle.dcf77.specs.Writer.{values_of, bytes_of, carry_fault, write_fault}
use Rattle.dcf77.proofs.WriteLaws.{Carried, carried, is_carried, accepted, is_accepted, length_of_marks, length-bytes, bytes_are}
use Rattle.dcf77.proofs.SoundLaws.{Sound}
use Rattle.dcf77.proofs.ReadLaws.{Read, read_is}
use Rattle.dcf77.proofs.WrittenBack.{carried_reads}
use Rattle.dcf77.proofs.ReadBack.{said_carried, values_there}

-- ---- the marks of what is carried are read, and no others

pub bytes_read : (base : ℕ) (r : Reading) (h : ℕ) → carry_fault base r h ≡ no_fault → read_dcf77 base (bytes_of r h) ≡ Ok (r, h)
bytes_read base r h e = carried_reads base r h (carried base r h e)

module _ (base : ℕ) (s : List ℕ) (r : Reading) (h : ℕ) (p : Read base s r h) where
  marks_again : row (minute_marks (is_long (length s))) (says s) ≡ s
  unfolding says table_for
  marks_again =
      let l = length_of_marks (is_long (length s)) in
      row_said (is_long (length s)) s (p.long ∙ sym l) (p.good ∙ p.long ∙ sym l)

  said_sound : Sound (row (minute_marks (is_long (length s))) (says s)) (says s) (reading_of base (says s))
  said_sound = rw (marks_again, p.reading) p.sound_marks

  read_carried : Carried base r h
  unfolding says table_for
  read_carried =
      rw (p.reading, p.head_is) at (said_carried base p.base_good (is_long (length s)) (says s) (said_proper (is_long (length s)) s) said_sound)

  read_values : values_of r h ≡ says s
  unfolding says table_for
  read_values =
      rw (p.reading, p.head_is) at (values_there base p.base_good (is_long (length s)) (says s) (said_proper (is_long (length s)) s) said_sound)

  read_again : bytes_of r h ≡ s
  read_again = bytes_are r h ∙ rw (← p.sound_marks.fields.form, read_values) marks_again

pub read_bytes : (base : ℕ) (s : List ℕ) (r : Reading) (h : ℕ) → read_dcf77 base s ≡ Ok (r, h) → (carry_fault base r h ≡ no_fault) × (bytes_of r h ≡ s)
read_bytes base s r h e =
    let p = read_is base s r h e in
    (is_carried base r h (read_carried base s r h p), read_again base s r h p)

-- the marks that are read are exactly those of the readings and heads that are carried
pub exactly : (base : ℕ) (s : List ℕ) (r : Reading) (h : ℕ)
    → (read_dcf77 base s ≡ Ok (r, h) → (carry_fault base r h ≡ no_fault) × (bytes_of r h ≡ s))
    × ((carry_fault base r h ≡ no_fault) × (bytes_of r h ≡ s) → read_dcf77 base s ≡ Ok (r, h))
exactly base s r h =
    (read_bytes base s r h, λ p. subst (λ (b : List ℕ). read_dcf77 base b ≡ Ok (r, h)) p.1 (bytes_read base r h p.0))

-- ---- over the contracts of the writer

module _ (base : ℕ) (r : Reading) (h : ℕ) (out : List ℕ) where
  abbrev verdict : Verdict
  verdict = write_fault base r h (length out)

  -- what is written, into whatever buffer, is read as the same reading and head
  pub written_reads : (n : ℕ) → written_of verdict (length_of (due_long r)) ≡ Ok n
      → read_dcf77 base (take n (filled verdict (bytes_of r h) out)) ≡ Ok (r, h)
  written_reads n e =
      let w = length_is verdict (length_of (due_long r)) n e in
      let front : take n (bytes_of r h ++ drop (length (bytes_of r h)) out) ≡ bytes_of r h =
      take_at (bytes_of r h) (drop (length (bytes_of r h)) out) n (length-bytes r h ∙ sym w.1) in
      rw (w.0, front) (bytes_read base r h (accepted base r h (length out) w.0).0)

  -- what is read is written again, byte for byte, into whatever buffer has the room, and the rest of it stays
  pub read_writes : (s : List ℕ) → read_dcf77 base s ≡ Ok (r, h) → length s ≤ length out
      → (written_of verdict (length_of (due_long r)) ≡ Ok (length s)) × (filled verdict (bytes_of r h) out ≡ s ++ drop (length s) out)
  read_writes s e k =
      let p = read_bytes base s r h e in
      let l : length_of (due_long r) ≡ length s = sym (length-bytes r h) ∙ ap length p.1 in
      let g = is_accepted base r h (length out) p.0 (omega arith) in
      (rw (g, l), rw (g, p.1))

  -- a refusal leaves the buffer as it was
  pub refused_untouched : (n : Refusal) → written_of verdict (length_of (due_long r)) ≡ Err n → filled verdict (bytes_of r h) out ≡ out
  refused_untouched n e = untouched verdict (length_of (due_long r)) (bytes_of r h) out n e

-- ---- what is read is a time, and so has a stamp where there are stamps

pub accepted_checked : (base : ℕ) (s : List ℕ) (r : Reading) (h : ℕ) → read_dcf77 base s ≡ Ok (r, h) → checked_of base r ≡ no_fault
accepted_checked base s r h e = (carried base r h (read_bytes base s r h e).0).checked

-- stamping it is refused by 12 alone
pub accepted_stamped : (base : ℕ) (s : List ℕ) (r : Reading) (h : ℕ) → read_dcf77 base s ≡ Ok (r, h)
    → (stamp_of base r ≡ stamp_is (stamp_number (utc_of r) r.second)) ⊎ (stamp_of base r ≡ Err (number OutsideYears))
accepted_stamped base s r h e = go (has_stamp (utc_of r).date.year) refl
  where
    c : checked_of base r ≡ no_fault
    c = accepted_checked base s r h e

    go : (b : Bool) → has_stamp (utc_of r).date.year ≡ b
        → (stamp_of base r ≡ stamp_is (stamp_number (utc_of r) r.second)) ⊎ (stamp_of base r ≡ Err (number OutsideYears))
    go true k = inl (is_stamp base r (stamp_number (utc_of r) r.second) (record { checked = c; year = k; value = refl }))
    go false k = inr (refused_by_12 base r c k)
