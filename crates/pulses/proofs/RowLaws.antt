-- The row that a table lays out of values: its length, its pulses, that every one of them is good, and the bytes it is laid in.
use mathlib.Core.Path.{◌≡◌, refl, sym, ap, ◌∙◌}
use mathlib.Core.Bool.{true, false}
use mathlib.Core.List.{List, [], ◌∷◌, ◌++◌, append_assoc}
use Prim.Native.Nat.{ℕ, zero, suc, ◌+◌, ◌<◌, ◌≤◌}
use native.Mathlib.Nat.{not-suc-le-zero}
use native.Mathlib.Numerals.{add-one}
use native.Mathlib.Decide.{dec_lt, ℕ_discrete}
use native.Mathlib.Omega.{arith}
use borrow.Author.Tests.{le-leb, lt-leb}
use lib.ListN.{length, get_or, take, drop, set, length-append, length-drop, length-set}
use lib.Seq.{drop-cons, take-suc, set_at, length-take-le, ext_get_or, take-length, get_or-set_same, get_or-set_other, set-append_left}
use Rattle.pulses.specs.Row.{group_of, weight_of, first_data, pulse_for, good_pulses, row, fits_in, laid}
use Rattle.pulses.proofs.EntryLaws.{pulse_allowed_lem, pulse_data, pulse_for_same}

pub length-row : (t v : List ℕ) → length (row t v) ≡ length t
unfolding row
length-row [] v = refl
length-row (e ∷ t) v = ap suc (length-row t v)

pub pulse_at_lem : (t v : List ℕ) (i : ℕ) → i < length t → get_or (row t v) i 0 ≡ pulse_for (get_or t i 0) v
unfolding row
pulse_at_lem [] v i h = absurd (not-suc-le-zero h)
pulse_at_lem (e ∷ t) v zero h = refl
pulse_at_lem (e ∷ t) v (suc i) h = pulse_at_lem t v i (omega arith)

-- every pulse of the row is good, whatever the values are
pub row_good : (t v : List ℕ) → good_pulses t (row t v) ≡ length t
unfolding good_pulses row pulse_for
row_good [] v = refl
row_good (e ∷ t) v = rw (pulse_allowed_lem e (get_or v (group_of e) 0), row_good t v)

-- ---- one value changed

-- a group with one pulse of weight 1, at place p
pub record Alone (t : List ℕ) (g p : ℕ) : Type 0 where
  pub placed : p < length t
  pub group : group_of (get_or t p 0) ≡ g
  pub weight : weight_of (get_or t p 0) ≡ 1
  pub known : first_data ≤ g
  pub only : (i : ℕ) → i < length t → group_of (get_or t i 0) ≡ g → i ≡ p

-- another value of that group changes that pulse alone
module _ (t v : List ℕ) (g p x : ℕ) (a : Alone t g p) (k : g < length v) (small : x < 2) where
  its_pulse : pulse_for (get_or t p 0) (set v g x) ≡ x
  its_pulse =
      let d : first_data ≤ group_of (get_or t p 0) = rw a.group a.known in
      pulse_data (get_or t p 0) (set v g x) 0 d a.weight ∙ rw (a.group, get_or-set_same v g x 0 k) (omega arith)

  same_pulse : (i : ℕ) → i < length t → Dec (i ≡ p) → get_or (set (row t v) p x) i 0 ≡ get_or (row t (set v g x)) i 0
  same_pulse i h (yes e) =
      rw e (get_or-set_same (row t v) p x 0 (rw length-row a.placed) ∙ sym (pulse_at_lem t (set v g x) p a.placed ∙ its_pulse))
  same_pulse i h (no d) =
      get_or-set_other (row t v) p i x 0 d
      ∙ pulse_at_lem t v i h
      ∙ pulse_for_same (get_or t i 0) v (set v g x) (λ _. sym (get_or-set_other v g (group_of (get_or t i 0)) x 0 (λ q. d (a.only i h q))))
      ∙ sym (pulse_at_lem t (set v g x) i h)

  pub row-set : set (row t v) p x ≡ row t (set v g x)
  row-set =
      ext_get_or 0 (set (row t v) p x) (row t (set v g x)) (length-set (row t v) p x ∙ length-row t v ∙ sym (length-row t (set v g x)))
      (λ i l. same_pulse i (omega (arith, length-set (row t v) p x, length-row t v)) (ℕ_discrete i p))

row-append : (t u v : List ℕ) → row (t ++ u) v ≡ row t v ++ row u v
unfolding row
row-append [] u v = refl
row-append (e ∷ t) u v = rw (row-append t u v)

-- ---- the row, laid pulse by pulse

-- the bytes after i pulses are laid
abbrev pub laid_to : List ℕ → List ℕ → List ℕ → ℕ → List ℕ
laid_to t v out i = row (take i t) v ++ drop i out

module _ (t v out : List ℕ) where
  pub laid_none : out ≡ laid_to t v out 0
  unfolding row
  laid_none = refl

  pub length-laid : (i : ℕ) → i ≤ length t → length t ≤ length out → length (laid_to t v out i) ≡ length out
  length-laid i h k = simp (length-append, length-row, length-drop, length-take-le i t h) (omega arith)

  -- one store more
  laid_more : (i : ℕ) → i < length t → i < length out → set (laid_to t v out i) i (pulse_for (get_or t i 0) v) ≡ laid_to t v out (i + 1)
  unfolding row
  laid_more i h k =
      let l : length (row (take i t) v) ≡ i = length-row (take i t) v ∙ length-take-le i t (omega arith) in
      rw (
        add-one,
        drop-cons out i 0 k,
        set_at (row (take i t) v) (get_or out i 0) (drop (suc i) out) (pulse_for (get_or t i 0) v) i l,
        take-suc t i 0 h,
        row-append (take i t) (get_or t i 0 ∷ []) v,
      )
      (sym (append_assoc (row (take i t) v) (pulse_for (get_or t i 0) v ∷ []) (drop (suc i) out)))

  -- the same of bytes that are known to be so laid
  pub laid_next : (now : List ℕ) (i x : ℕ) → now ≡ laid_to t v out i → i < length t → i < length out
      → x ≡ pulse_for (get_or t i 0) v → set now i x ≡ laid_to t v out (i + 1)
  laid_next now i x e h k q = rw (e, q) (laid_more i h k)

  pub laid-all : (i : ℕ) → length t ≤ i → i ≤ length t → length t ≤ length out → laid_to t v out i ≡ laid t v out
  unfolding laid fits_in
  laid-all i h k l =
      let e : i ≡ length t = omega arith in
      rw (e, take-length t, le-leb (length t) (length out) l)

  -- ---- the bytes afterwards

  pub too_few : length out < length t → (fits_in t out ≡ false) × (laid t v out ≡ out)
  unfolding fits_in laid
  too_few h = (lt-leb (length t) (length out) h, rw (lt-leb (length t) (length out) h))

  pub enough : length t ≤ length out → (fits_in t out ≡ true) × (laid t v out ≡ row t v ++ drop (length t) out)
  unfolding fits_in laid
  enough h = (le-leb (length t) (length out) h, rw (le-leb (length t) (length out) h))

  pub length-same : length (laid t v out) ≡ length out
  length-same = elim (dec_lt (length out) (length t)) [
    | yes h ↦ ap length (too_few h).1
    | no h ↦ ap length (enough (omega arith)).1 ∙ simp (length-append, length-row, length-drop) (omega arith)
  ]

-- a value changed in the bytes: the one pulse of its group
pub laid-set : (t v out : List ℕ) (g p x : ℕ) → Alone t g p → g < length v → x < 2 → length t ≤ length out
    → set (laid t v out) p x ≡ laid t (set v g x) out
laid-set t v out g p x a k small h =
    let l : p < length (row t v) = rw length-row a.placed in
    rw ((enough t v out h).1, (enough t (set v g x) out h).1, set-append_left (row t v) (drop (length t) out) p x l, row-set t v g p x a k small)
