-- Stand-ins that the contracts rule out: a reader that refuses everything, one that tells one fixed time, and a writer that
-- leaves the buffer as found.
use Rattle.strings.specs.Checks.{Answer}
use Rattle.std.specs.Prelude.{Err, Ok}
use mathlib.Core.Bool.{Bool, false}
use mathlib.Core.List.{List}
use mathlib.Core.Path.{◌≡◌, sym, ap, ◌∙◌}
use Prim.Native.Nat.{ℕ}
use native.Mathlib.Omega.{arith}
use lib.ListN.{length, get_or}
use Rattle.reading.specs.declared.Reading.{Reading}
use Rattle.reading.specs.declared.Refusal.{Refusal}
use Rattle.reading.specs.Writing.{filled}
use Rattle.reading.specs.Years.{usual_base as base}
use Rattle.meinberg.specs.Layout.{text_length}
use Rattle.meinberg.specs.Meaning.{read_meinberg}
use Rattle.meinberg.specs.Writing.{bytes_of, write_fault}
use Rattle.meinberg.proofs.RoundTrip.{written_reads, read_writes, read_writable}
use Rattle.meinberg.proofs.Worked.{leap_second, leap_day, no_such_day, at_leap_second, worked}

pub leap_second_read : read_meinberg base leap_second ≡ Ok (at_leap_second, false)
leap_second_read = cc worked

no_such_day_refused : read_meinberg base no_such_day ≡ Err (record { code = 16; place = 3 })
no_such_day_refused = cc worked

-- ---- two strings never say the same time with the same flags

pub told_apart : (base : ℕ) (s t : List ℕ) (r : Reading) (coasting : Bool) → read_meinberg base s ≡ Ok (r, coasting) → read_meinberg base t ≡ Ok (r, coasting) → s ≡ t
told_apart base s t r coasting p q = sym (read_writes base s r coasting p) ∙ read_writes base t r coasting q

-- ---- readers

module _ (answer : List ℕ → Answer) (meets : (s : List ℕ) → answer s ≡ read_meinberg base s) where
  -- "a reader that refuses everything"
  pub not_refuse_all : (refusal : List ℕ → Refusal) → ((s : List ℕ) → answer s ≡ Err (refusal s)) → ⊥
  not_refuse_all refusal all =
      let z : ◌≡◌ {A = ℕ} 0 1 = cc (leap_second_read, meets leap_second, all leap_second) in omega arith

  -- "one fixed time for all", even for the strings that say one
  pub not-one_time : (r : Reading) (coasting : Bool) → answer leap_second ≡ Ok (r, coasting) → answer leap_day ≡ Ok (r, coasting) → ⊥
  not-one_time r coasting p q =
      let same = told_apart base leap_second leap_day r coasting (sym (meets leap_second) ∙ p) (sym (meets leap_day) ∙ q) in
      let fourth : ◌≡◌ {A = ℕ} 49 57 = ap (λ (s : List ℕ). get_or s 4 0) same in
      omega arith

-- ---- writers

-- "a writer that leaves the buffer as found": with the string of no day in it, a good reading must change it
pub not_as_found :
    (after : List ℕ → List ℕ)
    → ((buffer : List ℕ) → after buffer ≡ filled (write_fault base at_leap_second (length buffer)) (bytes_of at_leap_second false) buffer)
    → after no_such_day ≡ no_such_day → ⊥
not_as_found after meets found =
    let good = read_writable base leap_second at_leap_second false leap_second_read text_length (omega arith) in
    let back = written_reads base at_leap_second false no_such_day good in
    let z : ◌≡◌ {A = ℕ} 0 1 = cc (back, meets no_such_day, found, no_such_day_refused) in
    omega arith
