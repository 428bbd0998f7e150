-- Demand 3, once for every reader that keeps n pulses, however its state keeps them: a fresh reader says after every pulse what is
-- owed to the pulses that came; and two readers whose last n pulses agree say the same now and after every pulse that both are fed.
use mathlib.Core.List.{List, [], ◌∷◌, ◌++◌, append-nil, append_assoc}
use mathlib.Core.Path.{◌≡◌, refl, sym, ap, ap₂, ◌∙◌}
use Prim.Native.Nat.{ℕ, suc, ◌-◌, ◌≤◌}
use native.Mathlib.Omega.{arith}
use lib.ListN.{length, drop, replicate}
use Rattle.streams.specs.Stream.{push, last_of, slid, window_of, fed, said_by, answers_of, newest_of, owed_to}
use Rattle.streams.proofs.Window.{push-length, push_slid, slid_full, window_length, window_push}

-- ---- what is owed to all the pulses that came is what is owed after the last of them

newest_owed : {A : Type 0} (owed : List ℕ → A) (h ps : List ℕ) → newest_of (owed h) (owed_to owed h ps) ≡ owed (h ++ ps)
unfolding newest_of owed_to
newest_owed owed h [] = ap owed (sym (append-nil h))
newest_owed owed h (p ∷ ps) = newest_owed owed (h ++ (p ∷ [])) ps ∙ ap owed (append_assoc h (p ∷ []) ps)

-- what is owed to some pulses and then to others
pub owed-append : {A : Type 0} (owed : List ℕ → A) (h ps qs : List ℕ) → owed_to owed h (ps ++ qs) ≡ owed_to owed h ps ++ owed_to owed (h ++ ps) qs
unfolding owed_to
owed-append owed h [] qs = ap (λ (g : List ℕ). owed_to owed g qs) (sym (append-nil h))
owed-append owed h (p ∷ ps) qs =
    ap (λ (l : List _). owed (h ++ (p ∷ [])) ∷ l)
    (owed-append owed (h ++ (p ∷ [])) ps qs
    ∙ ap (λ (g : List ℕ). owed_to owed (h ++ (p ∷ [])) ps ++ owed_to owed g qs) (append_assoc h (p ∷ []) ps))

-- ---- any step function that gives what it has to give, run pulse by pulse

module _ {S R A : Type 0} (reader : R → S) (said : R → A) (step gives : S → ℕ → R) (meets : (s : S) (p : ℕ) → step s p ≡ gives s p) where
  same_answers : (s : S) (ps : List ℕ) → answers_of reader said step s ps ≡ answers_of reader said gives s ps
  unfolding said_by
  same_answers s [] = refl
  same_answers s (p ∷ ps) =
      ap₂ ◌∷◌ (ap said (meets s p)) (same_answers (reader (step s p)) ps ∙ ap (λ (r : R). answers_of reader said gives (reader r) ps) (meets s p))

  -- where the answers that it has to give are those owed, it says after the last pulse what is owed to all that came
  pub says_owed : (owed : List ℕ → A) (s : S) → ((ps : List ℕ) → answers_of reader said gives s ps ≡ owed_to owed [] ps) → (ps : List ℕ) → newest_of (owed []) (answers_of reader said step s ps) ≡ owed ps
  says_owed owed s due ps = ap (newest_of (owed [])) (same_answers s ps ∙ due ps) ∙ newest_owed owed [] ps

-- ---- two ways to answer say the same of a stream, where they agree while something holds of the state that each pulse taken keeps

pub said_alike : {S A : Type 0} (takes : S → ℕ → S) (says tells : S → ℕ → A) (Holds : S → Type 0) → ((s : S) (p : ℕ) → Holds s → Holds (takes s p))
    → ((s : S) (p : ℕ) → Holds s → says s p ≡ tells s p) → (s : S) → Holds s → (ps : List ℕ) → said_by takes says s ps ≡ said_by takes tells s ps
unfolding said_by
said_alike takes says tells Holds keeps same s h [] = refl
said_alike takes says tells Holds keeps same s h (p ∷ ps) = ap₂ ◌∷◌ (same s p h) (said_alike takes says tells Holds keeps same (takes s p) (keeps s p h) ps)

-- ---- a state keeps n pulses, and its next state keeps them pushed

module _ {S : Type 0} (n : ℕ) (one : 1 ≤ n) (keeps : S → List ℕ) (takes : S → ℕ → S) (turns : (s : S) (p : ℕ) → length (keeps s) ≡ n → keeps (takes s p) ≡ push (keeps s) p) where
  stays : (s : S) (p : ℕ) → length (keeps s) ≡ n → length (keeps (takes s p)) ≡ n
  stays s p l = ap length (turns s p l) ∙ push-length (keeps s) p (omega arith) ∙ l

  fed_stays : (s : S) (g : List ℕ) → length (keeps s) ≡ n → length (keeps (fed takes s g)) ≡ n
  unfolding fed
  fed_stays s [] l = l
  fed_stays s (p ∷ g) l = fed_stays (takes s p) g (stays s p l)

  fed_slides : (s : S) (g : List ℕ) → length (keeps s) ≡ n → keeps (fed takes s g) ≡ slid (keeps s) g
  unfolding fed
  fed_slides s [] l = sym (append-nil (keeps s))
  fed_slides s (p ∷ g) l =
      fed_slides (takes s p) g (stays s p l)
      ∙ ap (λ (w : List ℕ). slid w g) (turns s p l)
      ∙ push_slid (keeps s) p g (omega arith)

  -- once n pulses have come a reader keeps the last n of them, whatever it kept before
  pub keeps_last : (s : S) (g : List ℕ) → length (keeps s) ≡ n → n ≤ length g → keeps (fed takes s g) ≡ last_of n g
  keeps_last s g l k = fed_slides s g l ∙ slid_full n (keeps s) g l k

  -- ---- what it says goes by the pulses that it keeps

  module _ {A : Type 0} (say : List ℕ → A) where
    abbrev says : S → ℕ → A
    says s p = say (push (keeps s) p)

    -- readers that keep the same pulses say the same
    alike : (a b : S) → length (keeps a) ≡ n → keeps a ≡ keeps b → (ps : List ℕ) → said_by takes says a ps ≡ said_by takes says b ps
    unfolding said_by
    alike a b l e [] = refl
    alike a b l e (p ∷ ps) =
        let t = turns a p l ∙ ap (λ (w : List ℕ). push w p) e ∙ sym (turns b p (ap length (sym e) ∙ l)) in
        ap₂ ◌∷◌ (ap (λ (w : List ℕ). say (push w p)) e) (alike (takes a p) (takes b p) (stays a p l) t ps)

    -- from the answer to the last pulse of g on: what is said of the pulses kept then, and all that the state says further
    from_last : (s : S) (g ps : List ℕ) → length (keeps s) ≡ n → 1 ≤ length g
        → drop (length g - 1) (said_by takes says s (g ++ ps)) ≡ say (keeps (fed takes s g)) ∷ said_by takes says (fed takes s g) ps
    unfolding said_by fed
    from_last s [] ps l some = absurd (omega arith)
    from_last s (p ∷ []) ps l some = ap (λ (w : List ℕ). say w ∷ said_by takes says (takes s p) ps) (sym (turns s p l))
    from_last s (p ∷ q ∷ g) ps l some =
        let m : length (p ∷ q ∷ g) - 1 ≡ suc (length (q ∷ g) - 1) = omega arith in
        ap (λ (m : ℕ). drop m (said_by takes says s (p ∷ q ∷ (g ++ ps)))) m ∙ from_last (takes s p) (q ∷ g) ps (stays s p l) (omega arith)

    -- "two readers whose last n pulses agree say the same from then on while they are fed alike", whatever state each was in before
    pub two_readers : (a b : S) → length (keeps a) ≡ n → length (keeps b) ≡ n
        → (g h : List ℕ) → n ≤ length g → n ≤ length h → last_of n g ≡ last_of n h → (ps : List ℕ)
        → drop (length g - 1) (said_by takes says a (g ++ ps)) ≡ drop (length h - 1) (said_by takes says b (h ++ ps))
    two_readers a b k l g h kg kh e ps =
        let w : keeps (fed takes a g) ≡ keeps (fed takes b h) = keeps_last a g k kg ∙ e ∙ sym (keeps_last b h l kh) in
        from_last a g ps k (omega arith)
        ∙ ap₂ ◌∷◌ (ap say w) (alike (fed takes a g) (fed takes b h) (fed_stays a g k) w ps)
        ∙ sym (from_last b h ps l (omega arith))

    -- ---- a reader that was full of a filler, and says of its window what is owed

    module _ (filler : ℕ) (owed : List ℕ → A) (due : (h : List ℕ) → say (window_of n filler h) ≡ owed h) where
      run_from : (s : S) (h : List ℕ) → keeps s ≡ window_of n filler h → (ps : List ℕ) → said_by takes says s ps ≡ owed_to owed h ps
      unfolding said_by owed_to
      run_from s h e [] = refl
      run_from s h e (p ∷ ps) =
          let l = ap length e ∙ window_length n filler h in
          let w = ap (λ (v : List ℕ). push v p) e ∙ window_push n filler h p one in
          ap₂ ◌∷◌ (ap say w ∙ due (h ++ (p ∷ []))) (run_from (takes s p) (h ++ (p ∷ [])) (turns s p l ∙ w) ps)

      -- after every pulse of every stream
      pub run : (s : S) → keeps s ≡ replicate n filler → (ps : List ℕ) → said_by takes says s ps ≡ owed_to owed [] ps
      unfolding window_of
      run s e ps = run_from s [] (e ∙ sym (append-nil (replicate n filler))) ps
