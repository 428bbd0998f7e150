-- What is owed after any stream is the letter's: of the marks since the gap before, closing gap included, and nothing elsewhere.
use Rattle.std.specs.Prelude.{None, Some}
use mathlib.Core.Bool.{Bool, true, false, cond, not, ◌&&◌, ◌||◌, and-true, and-false}
use mathlib.Core.List.{List, [], ◌∷◌, ◌++◌}
use mathlib.Core.Path.{◌≡◌, refl, sym, ap, subst, ◌∙◌}
use Prim.Native.Nat.{ℕ, zero, suc, ◌+◌, ◌-◌, ◌≤◌, ◌<◌}
use native.Mathlib.Omega.{arith}
use lib.Dec.{leb, ltb, eqb}
use lib.ListN.{length, get_or, drop, length-append}
use lib.Seq.{drop-cons, drop-append-le, drop-append-add}
use borrow.Author.Tests.{le-leb, leb-true, ltb-true, ltb-false, eqb-true, eqb-false, ne_eqb, not-true}
use Rattle.laws.proofs.Bools.{both}
use Rattle.dcf77.specs.Reader.{read_dcf77}
use Rattle.streams.specs.Stream.{last_of}
use Rattle.streams.proofs.Window.{last_after}
use Rattle.dcf77_stream.specs.Said.{marks_then_gap, between_gaps, outlined, owed, Said}
use Rattle.dcf77_stream.specs.Ending.{gapless, all_marks, a_minute, Ending, unbegun, no_gap, first_gap, since_gap, owed_at}
use Rattle.dcf77_stream.proofs.SymbolLaws.{unclosed, marks_closed}

-- ---- every stream ends in one of the four ways

one_before : (x : ℕ) {h : List ℕ} → (b : Bool) → eqb x 2 ≡ b → Ending h → Ending (x ∷ h)
unfolding gapless
one_before x true e unbegun = subst (λ (y : ℕ). Ending (y ∷ [])) (sym (eqb-true x 2 e)) (first_gap [] refl)
one_before x false e unbegun = no_gap [] x (eqb-false x 2 e)
one_before x b e (no_gap before y d) = no_gap (x ∷ before) y d
one_before x true e (first_gap m g) = subst (λ (y : ℕ). Ending (y ∷ (m ++ (2 ∷ [])))) (sym (eqb-true x 2 e)) (since_gap [] m g)
one_before x false e (first_gap m g) = first_gap (x ∷ m) (rw (e, g))
one_before x b e (since_gap before m g) = since_gap (x ∷ before) m g

pub every_stream : (h : List ℕ) → Ending h
every_stream [] = unbegun
every_stream (x ∷ h) = one_before x (eqb x 2) refl (every_stream h)

-- ---- symbols with and without the outline

-- n symbols in outline are looked for only where n have come
not-outlined : (n : ℕ) (h : List ℕ) → (n ≤ length h → between_gaps (last_of n h) ≡ false) → outlined n h ≡ false
unfolding outlined
not-outlined n h f = go (leb n (length h)) refl
  where
    go : (b : Bool) → leb n (length h) ≡ b → (b && between_gaps (last_of n h)) ≡ false
    go false e = refl
    go true e = f (leb-true n (length h) e)

-- they begin among symbols that are no gaps
opens_gapless : (m s : List ℕ) (k : ℕ) → gapless m ≡ true → k < length m → between_gaps (drop k (m ++ s)) ≡ false
unfolding gapless between_gaps
opens_gapless [] s k g h = absurd (omega arith)
opens_gapless (x ∷ m) s zero g h = rw (not-true (eqb x 2) (both (not (eqb x 2)) (gapless m) g).0)
opens_gapless (x ∷ m) s (suc k) g h = opens_gapless m s k (both (not (eqb x 2)) (gapless m) g).1 (omega arith)

-- a gap is among them that does not close them
gap_inside : (v s : List ℕ) → 0 < length s → marks_then_gap (v ++ (2 ∷ s)) ≡ false
unfolding marks_then_gap
gap_inside [] s h = let some : length s ≡ 0 → ⊥ = λ e. omega arith in rw (ne_eqb (length s) 0 some)
gap_inside (x ∷ v) s h =
    let some : length (v ++ (2 ∷ s)) ≡ 0 → ⊥ = λ e. omega (arith, length-append v (2 ∷ s)) in
    rw (ne_eqb (length (v ++ (2 ∷ s))) 0 some, gap_inside v s h) (and-false (ltb x 2))

-- ---- the last symbols of a stream, by how it ends

-- it ends in no gap
open_ended : (n : ℕ) (before : List ℕ) (x : ℕ) → 1 ≤ n → (x ≡ 2 → ⊥) → outlined n (before ++ (x ∷ [])) ≡ false
unfolding last_of
open_ended n before x some d =
    not-outlined n (before ++ (x ∷ [])) (λ h.
    let k = length (before ++ (x ∷ [])) - n in
    let b : k ≤ length before = omega (arith, length-append before (x ∷ [])) in
    ap between_gaps (drop-append-le k before (x ∷ []) b) ∙ unclosed x d (drop k before))

-- it ends in the first gap of all
never_opened : (n : ℕ) (m : List ℕ) → 2 ≤ n → gapless m ≡ true → outlined n (m ++ (2 ∷ [])) ≡ false
unfolding last_of
never_opened n m two g =
    not-outlined n (m ++ (2 ∷ [])) (λ h. opens_gapless m (2 ∷ []) (length (m ++ (2 ∷ [])) - n) g (omega (arith, length-append m (2 ∷ []))))

-- it ends in a gap, m and a gap: the outline of k marks is there exactly where m is k marks
module _ (before m : List ℕ) (g : gapless m ≡ true) where
  abbrev closing : List ℕ
  closing = 2 ∷ (m ++ (2 ∷ []))

  stream_length : length (before ++ closing) ≡ length before + (length m + 2)
  stream_length = omega (arith, length-append before closing, length-append m (2 ∷ []))

  exact : (k : ℕ) → length m ≡ k → last_of (k + 2) (before ++ closing) ≡ closing
  exact k e = last_after (k + 2) before closing (omega (arith, length-append m (2 ∷ [])))

  as_many : (k : ℕ) → length m ≡ k → outlined (k + 2) (before ++ closing) ≡ all_marks m
  unfolding outlined between_gaps
  as_many k e = rw (le-leb (k + 2) (length (before ++ closing)) (omega (arith, stream_length)), exact k e) (marks_closed m)

  fewer : (k : ℕ) → k < length m → outlined (k + 2) (before ++ closing) ≡ false
  unfolding last_of
  fewer k h =
      not-outlined (k + 2) (before ++ closing) (λ c.
      let i = length m - (k + 1) in
      let j : length (before ++ closing) - (k + 2) ≡ length before + suc i = omega (arith, stream_length) in
      ap (λ (j : ℕ). between_gaps (drop j (before ++ closing))) j
      ∙ ap between_gaps (drop-append-add before closing (suc i))
      ∙ opens_gapless m (2 ∷ []) i g (omega arith))

  more : (k : ℕ) → length m < k → outlined (k + 2) (before ++ closing) ≡ false
  unfolding last_of between_gaps
  more k h =
      not-outlined (k + 2) (before ++ closing) (λ c.
      let j = length (before ++ closing) - (k + 2) in
      let b : j < length before = omega (arith, stream_length) in
      let some : 0 < length (m ++ (2 ∷ [])) = omega (arith, length-append m (2 ∷ [])) in
      rw (drop-append-le j before closing (omega arith), drop-cons before j 0 b, gap_inside (drop (suc j) before) (m ++ (2 ∷ [])) some)
      (and-false (eqb (get_or before j 0) 2)))

  outlined_since : (k : ℕ) → outlined (k + 2) (before ++ closing) ≡ (all_marks m && eqb (length m) k)
  outlined_since k = by (eqb (length m) k) refl (ltb k (length m)) refl
    where
      by : (b : Bool) → eqb (length m) k ≡ b → (c : Bool) → ltb k (length m) ≡ c → outlined (k + 2) (before ++ closing) ≡ (all_marks m && b)
      by true e c d = as_many k (eqb-true (length m) k e) ∙ sym (and-true (all_marks m))
      by false e true d = fewer k (ltb-true k (length m) d) ∙ sym (and-false (all_marks m))
      by false e false d =
          let few = ltb-false k (length m) d in
          let other = eqb-false (length m) k e in
          more k (omega arith) ∙ sym (and-false (all_marks m))

-- ---- what is owed

picks : (marks short long : Bool) (x y z : Said) → (long ≡ true → x ≡ z) → (short ≡ true → y ≡ z)
    → cond (marks && long) x (cond (marks && short) y None) ≡ cond (marks && (short || long)) z None
picks false short long x y z f g = refl
picks true true true x y z f g = f refl
picks true true false x y z f g = g refl
picks true false true x y z f g = f refl
picks true false false x y z f g = refl

module _ (base : ℕ) where
  -- "when the pulse is a gap": nothing is said after any other symbol
  pub nothing_unless_gap : (before : List ℕ) (x : ℕ) → (x ≡ 2 → ⊥) → owed base (before ++ (x ∷ [])) ≡ None
  unfolding owed
  nothing_unless_gap before x d = rw (open_ended 62 before x (omega arith) d, open_ended 61 before x (omega arith) d)

  -- nor after the first gap that comes
  pub nothing_at_first_gap : (m : List ℕ) → gapless m ≡ true → owed base (m ++ (2 ∷ [])) ≡ None
  unfolding owed
  nothing_at_first_gap m g = rw (never_opened 62 m (omega arith) g, never_opened 61 m (omega arith) g)

  -- "of the marks since the gap before it, closing gap included"
  pub marks_since_gap : (before m : List ℕ) → gapless m ≡ true
      → owed base (before ++ (2 ∷ (m ++ (2 ∷ [])))) ≡ cond (a_minute m) (Some (read_dcf77 base (m ++ (2 ∷ [])))) None
  unfolding owed a_minute
  marks_since_gap before m g =
      let read : List ℕ → Said = λ s. Some (read_dcf77 base (drop 1 s)) in
      rw (outlined_since before m g 60, outlined_since before m g 59)
      (picks (all_marks m) (eqb (length m) 59) (eqb (length m) 60) _ _ _
      (λ e. ap read (exact before m g 60 (eqb-true (length m) 60 e)))
      (λ e. ap read (exact before m g 59 (eqb-true (length m) 59 e))))

  -- after any stream at all, however it ends
  pub owed_is_due : {h : List ℕ} (e : Ending h) → owed base h ≡ owed_at base e
  unfolding owed_at owed outlined
  owed_is_due unbegun = refl
  owed_is_due (no_gap before x d) = nothing_unless_gap before x d
  owed_is_due (first_gap m g) = nothing_at_first_gap m g
  owed_is_due (since_gap before m g) = marks_since_gap before m g
