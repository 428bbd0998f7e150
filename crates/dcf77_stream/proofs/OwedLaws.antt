-- A refusal that the pulse reader says is the one that is due to the minute that just closed: code and place.
use Rattle.std.specs.Prelude.{Err, None, Ok, Some}
use mathlib.Core.Bool.{Bool, true, false, cond}
use mathlib.Core.List.{List, [], ◌∷◌}
use mathlib.Core.Logic.{◌⊎◌, inl, inr}
use mathlib.Core.Path.{◌≡◌, refl, subst}
use Prim.Native.Nat.{ℕ, ◌-◌}
use native.Mathlib.Omega.{arith}
use lib.Dec.{leb}
use lib.ListN.{length, drop, length-drop}
use borrow.Author.Tests.{leb-true}
use Rattle.laws.specs.Tests.{among}
use Rattle.laws.proofs.Bools.{both}
use Rattle.reading.specs.declared.Refusal.{Refusal}
use Rattle.reading.specs.Refusals.{due, Owed}
use Rattle.reading.proofs.CheckLaws.{clash}
use Rattle.reading.proofs.RefusalLaws.{coded_later}
use Rattle.dcf77.specs.Reader.{length_bad, read_dcf77, Answer}
use Rattle.dcf77.specs.Objections.{said_objections, read_objections, read_codes, AnswerOwed}
use Rattle.dcf77.proofs.OwedLaws.{read_owed}
use Rattle.streams.specs.Stream.{last_of}
use Rattle.dcf77_stream.specs.Said.{between_gaps, outlined, owed}

-- the codes that it can say: with the outline there is no other length
abbrev pub said_codes : List ℕ
said_codes = 19 ∷ 2 ∷ 3 ∷ 4 ∷ 15 ∷ 16 ∷ 6 ∷ 8 ∷ 9 ∷ []

said_due : (base : ℕ) (s : List ℕ) (x : Refusal) (a : Answer) → AnswerOwed (read_objections base s) read_codes a → Some a ≡ Some (Err x) → due (read_objections base s) x ≡ true
said_due base s x (Ok (r, head)) p e = let z : ◌≡◌ {A = ℕ} 0 1 = cc in clash z
said_due base s x (Err y) p e = let same : y ≡ x = cc in subst (λ (z : Refusal). due (read_objections base s) z ≡ true) same p.0

outlined_codes : (base : ℕ) (s : List ℕ) (x : Refusal) → length_bad (length s) ≡ false → due (read_objections base s) x ≡ true → among x.code said_codes ≡ true
unfolding read_objections said_objections
outlined_codes base s x l d = coded_later said_codes _ _ x l refl d

module _ (base : ℕ) (h : List ℕ) where
  -- of n symbols in outline, those behind the opening gap
  abbrev pub since : ℕ → List ℕ
  since n = drop 1 (last_of n h)

  since-length : (n : ℕ) → outlined n h ≡ true → length (since n) ≡ n - 1
  unfolding outlined last_of
  since-length n o =
      let k = leb-true n (length h) (both (leb n (length h)) (between_gaps (last_of n h)) o).0 in
      omega (arith, length-drop 1 (last_of n h), length-drop (length h - n) h)

  good_length : (n : ℕ) → length_bad (n - 1) ≡ false → outlined n h ≡ true → length_bad (length (since n)) ≡ false
  good_length n e o = rw (since-length n o) e

  -- the marks since the gap before it, 61 or 60 with the closing gap
  pub told_owed : (x : Refusal) → owed base h ≡ Some (Err x)
      → ((outlined 62 h ≡ true) × Owed (read_objections base (since 62)) said_codes x) ⊎ ((outlined 61 h ≡ true) × Owed (read_objections base (since 61)) said_codes x)
  unfolding owed length_bad
  told_owed x e = go (outlined 62 h) refl (outlined 61 h) refl e
    where
      of : (n : ℕ) → length_bad (n - 1) ≡ false → outlined n h ≡ true → Some (read_dcf77 base (since n)) ≡ Some (Err x)
          → (outlined n h ≡ true) × Owed (read_objections base (since n)) said_codes x
      of n l o e =
          let d = said_due base (since n) x (read_dcf77 base (since n)) (read_owed base (since n)) e in
          (o, (d, outlined_codes base (since n) x (good_length n l o) d))

      go : (a : Bool) → outlined 62 h ≡ a → (b : Bool) → outlined 61 h ≡ b
          → cond a (Some (read_dcf77 base (since 62))) (cond b (Some (read_dcf77 base (since 61))) None) ≡ Some (Err x)
          → ((outlined 62 h ≡ true) × Owed (read_objections base (since 62)) said_codes x) ⊎ ((outlined 61 h ≡ true) × Owed (read_objections base (since 61)) said_codes x)
      go true o b q e = inl (of 62 refl o e)
      go false o true q e = inr (of 61 refl q e)
      go false o false q e = let z : ◌≡◌ {A = ℕ} 0 1 = cc in clash z
