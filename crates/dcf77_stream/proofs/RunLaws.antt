-- A minute that comes after a gap is told once, at its last symbol, and nothing is said before: the step from which a run of minutes is
-- told, each by the closing gap of the one before.
use Rattle.reading.specs.Faults.{no_fault}
use Rattle.std.specs.Prelude.{None, Ok, Some}
use mathlib.Core.Bool.{true, not}
use mathlib.Core.List.{List, [], ◌∷◌, ◌++◌, append_assoc}
use mathlib.Core.Path.{◌≡◌, refl, sym, ap, ap₂, ◌∙◌}
use Prim.Native.Nat.{ℕ}
use lib.Dec.{eqb}
use lib.ListN.{length, replicate}
use borrow.Author.Tests.{eqb-false, not-true}
use Rattle.laws.proofs.Bools.{both}
use Rattle.reading.specs.declared.Reading.{Reading}
use Rattle.dcf77.specs.Forms.{last_of as last_place, due_long}
use Rattle.dcf77.specs.Writer.{bytes_of, carry_fault}
use Rattle.dcf77.proofs.ShapeLaws.{gap_at_end}
use Rattle.streams.specs.Stream.{owed_to}
use Rattle.streams.proofs.Runs.{owed-append}
use Rattle.dcf77_stream.specs.Said.{owed, Said}
use Rattle.dcf77_stream.specs.Ending.{gapless}
use Rattle.dcf77_stream.proofs.SinceGap.{nothing_unless_gap}
use Rattle.dcf77_stream.proofs.MinutesTold.{marks_of, marks-length, marks_are, marks_gapless, minute_told}

-- nothing is said while no gap comes
silent : (base : ℕ) (before m : List ℕ) → gapless m ≡ true → owed_to (owed base) before m ≡ replicate (length m) None
unfolding owed_to gapless
silent base before [] g = refl
silent base before (x ∷ m) g =
    let p = both (not (eqb x 2)) (gapless m) g in
    ap₂ ◌∷◌ (nothing_unless_gap base before x (eqb-false x 2 (not-true (eqb x 2) p.0))) (silent base (before ++ (x ∷ [])) m p.1)

module _ (base : ℕ) (r : Reading) (head : ℕ) (good : carry_fault base r head ≡ no_fault) (before : List ℕ) where
  abbrev since : List ℕ
  since = before ++ (2 ∷ [])

  -- a gap and the marks after it, in one piece
  joined : (since ++ marks_of r head) ++ (2 ∷ []) ≡ before ++ (2 ∷ bytes_of r head)
  joined =
      append_assoc since (marks_of r head) (2 ∷ [])
      ∙ ap (λ (s : List ℕ). since ++ s) (sym (gap_at_end r head))
      ∙ append_assoc before (2 ∷ []) (bytes_of r head)

  closing : owed_to (owed base) (since ++ marks_of r head) (2 ∷ []) ≡ (Some (Ok (r, head)) ∷ [])
  unfolding owed_to
  closing = ap (λ (said : Said). said ∷ []) (ap (owed base) joined ∙ minute_told base r head good before)

  -- each symbol of it is answered by nothing, but the last
  pub minute_answers : owed_to (owed base) since (bytes_of r head) ≡ replicate (last_place (due_long r)) None ++ (Some (Ok (r, head)) ∷ [])
  minute_answers =
      ap (owed_to (owed base) since) (gap_at_end r head)
      ∙ owed-append (owed base) since (marks_of r head) (2 ∷ [])
      ∙ ap₂ ◌++◌
      (silent base since (marks_of r head) (marks_gapless (marks_of r head) (marks_are r head))
      ∙ ap (λ (n : ℕ). replicate n None) (marks-length r head))
      closing

  -- and its last symbol is a gap again
  pub gap_again : since ++ bytes_of r head ≡ (since ++ marks_of r head) ++ (2 ∷ [])
  gap_again = ap (λ (s : List ℕ). since ++ s) (gap_at_end r head) ∙ sym (append_assoc since (marks_of r head) (2 ∷ []))
