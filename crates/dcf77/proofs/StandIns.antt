-- Three stand-ins that the contracts rule out, for any base year: a reader that refuses everything, a reader with one time for
-- all, and a writer that leaves the buffer as found.
use Rattle.std.specs.Prelude.{Err, Ok}
use mathlib.Core.Bool.{true, false}
use mathlib.Core.List.{List}
use mathlib.Core.Path.{◌≡◌, refl}
use Prim.Native.Nat.{ℕ, ◌≤◌}
use native.Mathlib.Omega.{arith}
use lib.ListN.{length, take, replicate}
use Rattle.calendar.specs.Calendar.{days_in, is_month, last_day, is_day, is_date}
use Rattle.reading.specs.declared.Reading.{Reading}
use Rattle.reading.specs.declared.Fault.TheVariants.{Byte}
use Rattle.reading.specs.Faults.{number, no_fault}
use Rattle.reading.specs.Years.{year_of, is_base}
use Rattle.reading.specs.Universal.{date_of}
use Rattle.reading.specs.Writing.{written_of, filled}
use Rattle.reading.proofs.CheckLaws.{is_checked, clash}
use Rattle.reading.proofs.YearLaws.{year_in_lem}
use Rattle.pulses.specs.Row.{good_pulses, pulse_allowed, group_of}
use Rattle.dcf77_table.specs.Table.{shared_marks, last_marks, minute_marks}
use Rattle.dcf77.specs.Zones.{offset_in}
use Rattle.dcf77.specs.Forms.{length_of, due_long}
use Rattle.dcf77.specs.Reader.{is_long, table_for, length_bad, read_fault, read_dcf77}
use Rattle.dcf77.specs.Writer.{bytes_of, carry_fault, write_fault}
use Rattle.dcf77.proofs.WriteLaws.{is_carried, is_accepted}
use Rattle.dcf77.proofs.ReadBack.{offset_fine, zero_fine}
use Rattle.dcf77.proofs.RoundTrip.{bytes_read, written_reads}

-- so many minutes after the hundred's first midnight
pub minute_of : ℕ → ℕ → Reading
minute_of base n =
    record {
      year = year_of base 0;
      month = 1;
      day = 1;
      hour = 0;
      minute = n;
      second = 0;
      offset = record { 0 = offset_in false };
      summer = false;
      leap = false;
      change = false;
      quality = 0;
    }

module _ (base : ℕ) (based : is_base base ≡ true) where
  new_year_lem : (n : ℕ) → is_date (date_of (minute_of base n)) ≡ true
  unfolding is_date is_month is_day last_day days_in minute_of
  new_year_lem n = refl

  pub good : (n : ℕ) → n ≤ 59 → carry_fault base (minute_of base n) 0 ≡ no_fault
  unfolding minute_of
  good n h =
      is_carried base (minute_of base n) 0
      (record {
        checked =
            is_checked base (minute_of base n)
            (record {
              base_good = based;
              hour = omega arith;
              minute = h;
              second = omega arith;
              year = year_in_lem base 0;
              date = new_year_lem n;
              quality = omega arith;
              offset = offset_fine false;
              leap = zero_fine (minute_of base n);
            });
        head = omega arith;
        second = refl;
        quality = refl;
        offset = refl;
      })

  timed : (n : ℕ) → n ≤ 59 → read_dcf77 base (bytes_of (minute_of base n) 0) ≡ Ok ((minute_of base n), 0)
  timed n h = bytes_read base (minute_of base n) 0 (good n h)

  -- a reader that refuses everything
  pub not-all-refused : ((s : List ℕ) (r : Reading) (h : ℕ) → read_dcf77 base s ≡ Ok (r, h) → ⊥) → ⊥
  not-all-refused f = f (bytes_of (minute_of base 0) 0) (minute_of base 0) 0 (timed 0 (omega arith))

  pub minute_is : (n : ℕ) → (minute_of base n).minute ≡ n
  unfolding minute_of
  minute_is n = refl

  -- one fixed time for all
  pub not-one_time : (r : Reading) → ((s : List ℕ) (q : Reading) (h : ℕ) → read_dcf77 base s ≡ Ok (q, h) → q ≡ r) → ⊥
  not-one_time r f =
      let a = f (bytes_of (minute_of base 0) 0) (minute_of base 0) 0 (timed 0 (omega arith)) in
      let b = f (bytes_of (minute_of base 1) 0) (minute_of base 1) 0 (timed 1 (omega arith)) in
      let e : (minute_of base 0).minute ≡ (minute_of base 1).minute = cc in
      omega (arith, minute_is 0, minute_is 1)

  -- marks that are none
  pub no_marks : read_dcf77 base (replicate 60 3) ≡ Err (number (Byte 0))
  unfolding read_dcf77 read_fault length_bad is_long table_for good_pulses pulse_allowed group_of minute_marks shared_marks last_marks
  no_marks = rw based

  pub short : (n : ℕ) → length_of (due_long (minute_of base n)) ≡ 60
  unfolding length_of due_long minute_of
  short n = refl

  -- a writer that leaves the buffer as found
  pub not_as_found : ((r : Reading) (h : ℕ) (out : List ℕ) → filled (write_fault base r h (length out)) (bytes_of r h) out ≡ out) → ⊥
  not_as_found f =
      let r = minute_of base 0 in
      let out : List ℕ = replicate 60 3 in
      let g = is_accepted base r 0 60 (good 0 (omega arith)) (omega (arith, short 0)) in
      let w : written_of (write_fault base r 0 (length out)) (length_of (due_long r)) ≡ Ok 60 = rw (g, short 0) in
      let a : read_dcf77 base (take 60 out) ≡ Ok (r, 0) = rw (f r 0 out) at (written_reads base r 0 out 60 w) in
      let z : ◌≡◌ {A = ℕ} 0 1 = cc (no_marks) in clash z
