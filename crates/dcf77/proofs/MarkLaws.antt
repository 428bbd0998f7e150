-- Code 2: the place that is answered is the lowest that is bad.
use Rattle.std.specs.Prelude.{Err}
use mathlib.Core.Bool.{true, false}
use mathlib.Core.List.{List}
use mathlib.Core.Path.{◌≡◌, sym, ◌∙◌}
use Prim.Native.Nat.{ℕ, ◌<◌}
use native.Mathlib.Omega.{arith}
use lib.ListN.{length}
use Rattle.reading.specs.declared.Fault.TheVariants.{Length, Byte}
use Rattle.reading.specs.Faults.{number}
use Rattle.pulses.proofs.GoodLaws.{allowed_at, first_bad}
use Rattle.dcf77.specs.Reader.{is_long, table_for, length_bad, read_dcf77}
use Rattle.dcf77.proofs.WriteLaws.{length_of_marks}
use Rattle.dcf77.proofs.ReadLaws.{form_length, wrong_length, wrong-mark}
use mathlib.Core.Path.{refl}
use Rattle.reading.specs.Years.{is_base}

pub other_length : (base : ℕ) (s : List ℕ) → length_bad (length s) ≡ true → read_dcf77 base s ≡ Err (number Length)
other_length base s e = sym (wrong_length base s (number Length) e refl)

pub lowest_bad_mark : (base : ℕ) (s : List ℕ) (i : ℕ) → length_bad (length s) ≡ false → is_base base ≡ true → i < length s
    → ((j : ℕ) → j < i → allowed_at (table_for s) s j ≡ true) → allowed_at (table_for s) s i ≡ false → read_dcf77 base s ≡ Err (number (Byte i))
unfolding table_for
lowest_bad_mark base s i e g h before bad =
    let l : length (table_for s) ≡ length s = length_of_marks (is_long (length s)) ∙ sym (form_length (length s) e) in
    sym (wrong-mark base s e g i (number (Byte i)) (sym (first_bad (table_for s) s i (omega arith) h before bad)) h refl)
