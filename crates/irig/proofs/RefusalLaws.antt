-- The first refusals of the reader: a wrong length, and the lowest place whose byte is not allowed there.
use Rattle.std.specs.Prelude.{Err}
use mathlib.Core.Path.{◌≡◌, ◌∙◌}
use mathlib.Core.Bool.{true, false}
use mathlib.Core.List.{List}
use Prim.Native.Nat.{ℕ, ◌<◌, ◌≤◌}
use native.Mathlib.Omega.{arith}
use borrow.Author.Tests.{eq-eqb, ne_eqb, lt-ltb, le-ltb}
use lib.ListN.{length, get_or}
use Rattle.reading.specs.declared.Fault.TheVariants.{Length, Byte, OtherBase}
use Rattle.reading.specs.Faults.{number}
use Rattle.reading.specs.Years.{is_base}
use Rattle.pulses.specs.declared.Scan.{Scan}
use Rattle.pulses.specs.Row.{group_of, good_pulses, sums_of, scan_of}
use Rattle.pulses.proofs.GoodLaws.{allowed_at, first_bad}
use Rattle.pulses.proofs.EntryLaws.{fixed_allowed}
use Rattle.pulses.proofs.ScanLaws.{scan_good, scan-sums}
use Rattle.irig_table.specs.Table.{frame_pulses}
use Rattle.irig_table.proofs.TableLaws.{frame_length_lem}
use Rattle.irig.specs.Meaning.{reading_of}
use Rattle.irig.specs.Faults.{frame_length, is_odd, values_fault, fault_in, answer_of, read_frame}

-- ---- what a pass over the pulses has found

module _ (s : List ℕ) (x : Scan) (e : x ≡ scan_of frame_pulses s) where
  pub found_good : x.good ≡ good_pulses frame_pulses s
  found_good = scan_good frame_pulses s (omega (arith, frame_length_lem)) x e

  pub found_sums : length s ≡ frame_length → frame_length ≤ x.good → x.sums ≡ sums_of frame_pulses s
  found_sums l h = scan-sums frame_pulses s (omega (arith, frame_length_lem)) x e (omega arith)

-- ---- the reader, answer by answer

pub wrong_length : (base : ℕ) (s : List ℕ) → (length s ≡ frame_length → ⊥) → read_frame base s ≡ Err (number Length)
unfolding read_frame fault_in
wrong_length base s d = rw (ne_eqb (length s) frame_length d)

pub other_base_lem : (base : ℕ) (s : List ℕ) → length s ≡ frame_length → is_base base ≡ false → read_frame base s ≡ Err (number OtherBase)
unfolding read_frame fault_in
other_base_lem base s long b = rw (eq-eqb (length s) frame_length long, b)

module _ (base : ℕ) (s : List ℕ) (long : length s ≡ frame_length) (based : is_base base ≡ true) where
  pub bad_pulse : good_pulses frame_pulses s < frame_length → read_frame base s ≡ Err (number (Byte (good_pulses frame_pulses s)))
  unfolding read_frame fault_in
  bad_pulse h = rw (eq-eqb (length s) frame_length long, based, lt-ltb (good_pulses frame_pulses s) frame_length h)

  -- what is read where every pulse is allowed
  pub good_pulses_lem : frame_length ≤ good_pulses frame_pulses s
      → read_frame base s ≡ answer_of (values_fault base (sums_of frame_pulses s) (is_odd s)) (reading_of base (sums_of frame_pulses s))
  unfolding read_frame fault_in
  good_pulses_lem h = rw (eq-eqb (length s) frame_length long, based, le-ltb (good_pulses frame_pulses s) frame_length h)

  -- "for code 2 it is the lowest bad place"
  pub lowest_bad_place : (i : ℕ) → i < frame_length → ((j : ℕ) → j < i → allowed_at frame_pulses s j ≡ true) → allowed_at frame_pulses s i ≡ false
      → read_frame base s ≡ Err (number (Byte i))
  lowest_bad_place i h before here =
      let e = first_bad frame_pulses s i (omega (arith, frame_length_lem)) (omega arith) before here in
      rw e at (bad_pulse (omega arith))

  -- the first of all: a frame begins with a mark
  pub no_mark : (get_or s 0 0 ≡ 2 → ⊥) → read_frame base s ≡ Err (number (Byte 0))
  unfolding frame_pulses group_of
  no_mark d =
      lowest_bad_place 0 (omega arith) (λ j h. absurd (omega arith))
      (fixed_allowed (get_or frame_pulses 0 0) (get_or s 0 0) (omega arith) ∙ ne_eqb (get_or s 0 0) 2 d)
