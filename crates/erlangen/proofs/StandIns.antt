-- Stand-ins for what reads and what writes that "have to break" the contract: no function that meets it is one of them.
use Rattle.strings.specs.Checks.{Answer}
use Rattle.std.specs.Prelude.{Err, Ok}
use mathlib.Core.Bool.{Bool, false}
use mathlib.Core.List.{List}
use mathlib.Core.Path.{◌≡◌, refl, sym, ap, ◌∙◌}
use Prim.Native.Nat.{ℕ}
use native.Mathlib.Omega.{arith}
use lib.IntN.{pos}
use lib.ListN.{length, replicate}
use Rattle.wire.specs.Layout.{packed, exactly, from, either, within, beside, allowed, good_places}
use Rattle.reading.specs.declared.Reading.{Reading}
use Rattle.reading.specs.declared.Refusal.{Refusal}
use Rattle.reading.specs.declared.Fault.TheVariants.{Byte}
use Rattle.reading.specs.Faults.{number}
use Rattle.reading.specs.Years.{usual_base as base, is_base}
use Rattle.reading.specs.Writing.{filled}
use Rattle.reading.proofs.CheckLaws.{clash}
use Rattle.erlangen.specs.Layout.{size, layout}
use Rattle.erlangen.specs.Meaning.{fault_in, read_erlangen}
use Rattle.erlangen.specs.Writing.{bytes_of, write_fault}
use Rattle.erlangen.proofs.Promises.{written_reads, bytes_read}
use Rattle.erlangen.proofs.Worked.{usual, ahead, none, spaces, string, hour_ahead, reading, worked_carried, worked_read}

different : reading hour_ahead ≡ reading (pos 0) → ⊥
unfolding reading
different e = let z : hour_ahead ≡ pos 0 = ap (λ (r : Reading). r.offset.0) e in let n : ◌≡◌ {A = ℕ} 4 0 = cc in omega arith

zeros_refused : read_erlangen base (replicate size 0) ≡ Err (number (Byte 0))
unfolding read_erlangen fault_in layout good_places allowed within beside exactly from either packed is_base
zeros_refused = refl

-- "a reader that refuses everything (demand 2 accepts all written frames)"
pub refuses_everything : (f : List ℕ → Answer) → ((s : List ℕ) → f s ≡ read_erlangen base s) → ((s : List ℕ) → (x : Refusal) × (f s ≡ Err x)) → ⊥
refuses_everything f meets refuses =
    let s = bytes_of (reading hour_ahead) false spaces in
    let x = refuses s in
    let a = meets s in
    let b = (bytes_read base (reading hour_ahead) false spaces size worked_carried).0 in
    let z : ◌≡◌ {A = ℕ} 0 1 = cc in
    clash z

-- "one fixed time for all (read and rewritten bytes would differ)"
pub tells_one_time : (f : List ℕ → Answer) (r : Reading) → ((s : List ℕ) → f s ≡ read_erlangen base s)
    → ((s : List ℕ) (t : Reading) (coasting : Bool) → f s ≡ Ok (t, coasting) → t ≡ r) → ⊥
tells_one_time f r meets one =
    let a = one (string usual (ahead 0 1 0 0) none) (reading hour_ahead) false (meets _ ∙ worked_read.0) in
    let b = one (string usual (ahead 0 0 0 0) none) (reading (pos 0)) false (meets _ ∙ worked_read.1) in
    different (a ∙ sym b)

-- "a writer that leaves the buffer as found (demand 2's reading back, from any start)": a buffer of zeros would have to read as a time
pub leaves_as_found : (f : List ℕ → List ℕ) → ((l : List ℕ) → f l ≡ filled (write_fault base (reading hour_ahead) spaces (length l)) (bytes_of (reading hour_ahead) false spaces) l)
    → ((l : List ℕ) → f l ≡ l) → ⊥
leaves_as_found f meets leaves =
    let zeros : List ℕ = replicate size 0 in
    let e : zeros ≡ filled (write_fault base (reading hour_ahead) spaces size) (bytes_of (reading hour_ahead) false spaces) zeros = sym (leaves zeros) ∙ meets zeros in
    let g = written_reads base (reading hour_ahead) false spaces zeros size (rw worked_carried) in
    let a = rw (← e) at g.1 in
    let b = zeros_refused in
    let z : ◌≡◌ {A = ℕ} 0 1 = cc in
    clash z
