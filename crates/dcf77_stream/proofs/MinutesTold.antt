-- Every minute that the format carries is told after its closing gap, whatever symbols came before its opening gap; and the
-- closing gap of one minute is the opening gap of the next.
use Rattle.std.specs.Prelude.{Err, Ok, Some}
use mathlib.Core.Bool.{Bool, true, false, ◌||◌}
use mathlib.Core.List.{List, [], ◌∷◌, ◌++◌, append_assoc}
use mathlib.Core.Path.{◌≡◌, refl, sym, ap, ◌∙◌}
use Prim.Native.Nat.{ℕ, ◌+◌}
use native.Mathlib.Omega.{arith}
use lib.Dec.{ltb, eqb}
use lib.ListN.{length, take, length-append}
use lib.Seq.{length-take-le, get_or-take}
use borrow.Author.Tests.{ltb-true, ne_eqb, eqb-true}
use mathlib.Core.Logic.{⊎_elim}
use Rattle.dcf77.proofs.ReadLaws.{other_base_lem}
use Rattle.reading.specs.Faults.{number, no_fault}
use Rattle.reading.specs.Years.{is_base}
use Rattle.reading.specs.declared.Fault.TheVariants.{OtherBase}
use Rattle.laws.proofs.Bools.{both, either}
use Rattle.reading.specs.declared.Reading.{Reading}
use Rattle.reading.specs.declared.Refusal.{Refusal}
use Rattle.reading.specs.Writing.{written_of, filled}
use Rattle.dcf77.specs.Forms.{length_of, last_of as last_place, due_long}
use Rattle.dcf77.specs.Reader.{read_dcf77, length_bad}
use Rattle.dcf77.specs.Writer.{bytes_of, carry_fault, write_fault}
use Rattle.dcf77.proofs.WriteLaws.{length-bytes}
use Rattle.dcf77.proofs.RoundTrip.{bytes_read, read_bytes, written_reads}
use Rattle.dcf77.proofs.ShapeLaws.{last_place_lem, marks_small, gap_at_end}
use Rattle.dcf77_stream.specs.Said.{owed}
use Rattle.dcf77_stream.specs.Ending.{gapless, all_marks, a_minute}
use Rattle.dcf77_stream.proofs.SymbolLaws.{all-marks}
use Rattle.dcf77_stream.proofs.SinceGap.{marks_since_gap}

-- ---- a minute is marks of 0 or 1, as many as its form has, and then a gap

pub marks_gapless : (m : List ℕ) → all_marks m ≡ true → gapless m ≡ true
unfolding all_marks gapless
marks_gapless [] e = refl
marks_gapless (x ∷ m) e =
    let p = both (ltb x 2) (all_marks m) e in
    let l = ltb-true x 2 p.0 in
    rw (ne_eqb x 2 (λ k. omega arith)) (marks_gapless m p.1)

form_length : (long : Bool) (n : ℕ) → n ≡ last_place long → (eqb n 59 || eqb n 60) ≡ true
unfolding last_place
form_length true n e = rw e
form_length false n e = rw e

module _ (r : Reading) (head : ℕ) where
  abbrev pub marks_of : List ℕ
  marks_of = take (last_place (due_long r)) (bytes_of r head)

  pub marks-length : length marks_of ≡ last_place (due_long r)
  marks-length = length-take-le (last_place (due_long r)) (bytes_of r head) (omega (arith, length-bytes r head, last_place_lem (due_long r)))

  pub marks_are : all_marks marks_of ≡ true
  marks_are =
      let l = marks-length in
      all-marks marks_of (λ i h. rw (get_or-take (last_place (due_long r)) (bytes_of r head) i 0 (omega arith)) (marks_small r head i (omega arith)))

  marks_a_minute : a_minute marks_of ≡ true
  unfolding a_minute
  marks_a_minute = rw marks_are (form_length (due_long r) (length marks_of) marks-length)

-- ---- what is owed after a minute

module _ (base : ℕ) (r : Reading) (head : ℕ) (good : carry_fault base r head ≡ no_fault) where
  -- whatever came before its opening gap
  pub minute_told : (before : List ℕ) → owed base (before ++ (2 ∷ bytes_of r head)) ≡ Some (Ok (r, head))
  minute_told before =
      let m = marks_of r head in
      ap (λ (s : List ℕ). owed base (before ++ (2 ∷ s))) (gap_at_end r head)
      ∙ marks_since_gap base before m (marks_gapless m (marks_are r head))
      ∙ rw (marks_a_minute r head, ← gap_at_end r head, bytes_read base r head good)

  -- the closing gap of any minute serves as its opening gap
  pub gap_shared : (before : List ℕ) (q : Reading) (other : ℕ) → owed base (before ++ (bytes_of q other ++ bytes_of r head)) ≡ Some (Ok (r, head))
  gap_shared before q other =
      let marks = marks_of q other in
      let join : bytes_of q other ++ bytes_of r head ≡ marks ++ (2 ∷ bytes_of r head) =
      ap (λ (s : List ℕ). s ++ bytes_of r head) (gap_at_end q other) ∙ append_assoc marks (2 ∷ []) (bytes_of r head) in
      ap (λ (s : List ℕ). owed base (before ++ s)) join
      ∙ ap (owed base) (sym (append_assoc before marks (2 ∷ bytes_of r head)))
      ∙ minute_told (before ++ marks)

-- ---- the same of the marks themselves

-- what whole-minute reading accepts is told after a gap, whatever came before that gap
pub accepted_told : (base : ℕ) (s : List ℕ) (r : Reading) (head : ℕ) → read_dcf77 base s ≡ Ok (r, head) → (before : List ℕ) → owed base (before ++ (2 ∷ s)) ≡ Some (Ok (r, head))
accepted_told base s r head e before =
    let p = read_bytes base s r head e in
    ap (λ (b : List ℕ). owed base (before ++ (2 ∷ b))) (sym p.1) ∙ minute_told base r head p.0 before

-- what it refuses is refused, with the code and the place, where it has the outline
pub refused_told : (base : ℕ) (m : List ℕ) (refusal : Refusal) → a_minute m ≡ true → read_dcf77 base (m ++ (2 ∷ [])) ≡ Err refusal
    → (before : List ℕ) → owed base (before ++ (2 ∷ (m ++ (2 ∷ [])))) ≡ Some (Err refusal)
unfolding a_minute
refused_told base m refusal k e before =
    marks_since_gap base before m (marks_gapless m (both (all_marks m) (eqb (length m) 59 || eqb (length m) 60) k).0) ∙ rw (k, e)

-- 59 or 60 marks and the closing gap have the length of a minute
length-right : (m : List ℕ) → a_minute m ≡ true → length_bad (length (m ++ (2 ∷ []))) ≡ false
unfolding a_minute length_bad
length-right m k =
    let e : length (m ++ (2 ∷ [])) ≡ length m + 1 = length-append m (2 ∷ []) in
    ⊎_elim (λ h. rw (e, eqb-true (length m) 59 h)) (λ h. rw (e, eqb-true (length m) 60 h))
    (either (eqb (length m) 59) (eqb (length m) 60) (both (all_marks m) (eqb (length m) 59 || eqb (length m) 60) k).1)

-- a reader that was started with another base than the two says 19 of every minute between two gaps
pub other_base_told : (base : ℕ) (m : List ℕ) → is_base base ≡ false → a_minute m ≡ true
    → (before : List ℕ) → owed base (before ++ (2 ∷ (m ++ (2 ∷ [])))) ≡ Some (Err (number OtherBase))
other_base_told base m g k before = refused_told base m (number OtherBase) k (sym (other_base_lem base (m ++ (2 ∷ [])) (number OtherBase) (length-right m k) g refl)) before

-- and what the writer wrote is told, from any buffer
pub written_told : (base : ℕ) (r : Reading) (head : ℕ) (out : List ℕ) (n : ℕ) → written_of (write_fault base r head (length out)) (length_of (due_long r)) ≡ Ok n
    → (before : List ℕ) → owed base (before ++ (2 ∷ take n (filled (write_fault base r head (length out)) (bytes_of r head) out))) ≡ Some (Ok (r, head))
written_told base r head out n e before =
    accepted_told base (take n (filled (write_fault base r head (length out)) (bytes_of r head) out)) r head (written_reads base r head out n e) before
