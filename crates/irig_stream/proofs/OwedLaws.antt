-- A refusal that the pulse reader says is the one that is due to the hundred pulses that just came: code and place.
use Rattle.std.specs.Prelude.{Err, None, Ok, Some}
use mathlib.Core.Bool.{Bool, true, false, cond}
use mathlib.Core.List.{List, [], ◌∷◌}
use mathlib.Core.Path.{◌≡◌, refl, subst, ◌∙◌}
use Prim.Native.Nat.{ℕ}
use lib.Dec.{leb}
use lib.ListN.{length}
use borrow.Author.Tests.{eq-eqb}
use Rattle.laws.specs.Tests.{among}
use Rattle.reading.specs.declared.Refusal.{Refusal}
use Rattle.reading.specs.Refusals.{due, Owed}
use Rattle.reading.proofs.CheckLaws.{clash}
use Rattle.reading.proofs.RefusalLaws.{coded_later}
use Rattle.pulses.specs.Outline.{outline_of}
use Rattle.pulses.proofs.OutlineLaws.{outline_length}
use Rattle.irig_table.specs.Table.{frame_pulses}
use Rattle.irig_table.proofs.TableLaws.{frame_length_lem}
use Rattle.irig.specs.Faults.{read_frame, Answer}
use Rattle.irig.specs.Objections.{said_objections, read_objections, read_codes, AnswerOwed}
use Rattle.irig.proofs.OwedLaws.{read_owed}
use Rattle.streams.specs.Stream.{last_of}
use Rattle.irig_stream.specs.Said.{kept, say_of, owed}

-- the codes that it can say: with the outline there is no other length
abbrev pub said_codes : List ℕ
said_codes = 19 ∷ 2 ∷ 3 ∷ 4 ∷ 15 ∷ 16 ∷ 7 ∷ 8 ∷ 9 ∷ 10 ∷ []

said_due : (base : ℕ) (w : List ℕ) (x : Refusal) (a : Answer) → AnswerOwed (read_objections base w) read_codes a → Some a ≡ Some (Err x) → due (read_objections base w) x ≡ true
said_due base w x (Ok r) p e = let z : ◌≡◌ {A = ℕ} 0 1 = cc in clash z
said_due base w x (Err y) p e = let same : y ≡ x = cc in subst (λ (z : Refusal). due (read_objections base w) z ≡ true) same p.0

outlined_codes : (base : ℕ) (w : List ℕ) (x : Refusal) → length w ≡ 100 → due (read_objections base w) x ≡ true → among x.code said_codes ≡ true
unfolding read_objections said_objections
outlined_codes base w x l d = coded_later said_codes _ _ x (rw (eq-eqb (length w) 100 l)) refl d

pub told_owed : (base : ℕ) (h : List ℕ) (x : Refusal) → owed base h ≡ Some (Err x) → Owed (read_objections base (last_of kept h)) said_codes x
unfolding owed say_of
told_owed base h x e = go (leb kept (length h)) (outline_of frame_pulses (last_of kept h)) refl e
  where
    go : (a b : Bool) → outline_of frame_pulses (last_of kept h) ≡ b → cond a (cond b (Some (read_frame base (last_of kept h))) None) None ≡ Some (Err x)
        → Owed (read_objections base (last_of kept h)) said_codes x
    go true true o e =
        let w = last_of kept h in
        let d = said_due base w x (read_frame base w) (read_owed base w) e in
        (d, outlined_codes base w x (outline_length frame_pulses w o ∙ frame_length_lem) d)
    go true false o e = let z : ◌≡◌ {A = ℕ} 0 1 = cc in clash z
    go false b o e = let z : ◌≡◌ {A = ℕ} 0 1 = cc in clash z
