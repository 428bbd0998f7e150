-- A cascade of checks gives the refusal that is due: it goes through objections that stand in order, and stops at the first that holds.
use Rattle.std.specs.Prelude.{Err, Ok}
use mathlib.Core.Bool.{Bool, true, false, not, ◌&&◌, ◌||◌}
use mathlib.Core.List.{List, [], ◌∷◌, ◌++◌}
use mathlib.Core.Logic.{⊎_elim}
use mathlib.Core.Path.{◌≡◌, refl, sym, subst, ap, ◌∙◌}
use Prim.Native.Nat.{ℕ}
use native.Mathlib.Omega.{arith}
use lib.Dec.{eqb}
use borrow.Author.Tests.{eq-eqb, eqb-true, le-ltb, not-true}
use Rattle.laws.specs.Tests.{among}
use Rattle.laws.proofs.Bools.{both, either, or_true, never}
use Rattle.reading.specs.declared.Refusal.{Refusal}
use Rattle.reading.specs.declared.Fault.{Fault}
use Rattle.reading.specs.declared.Fault.TheVariants.{Length}
use Rattle.reading.specs.Faults.{code_of, place_of, number, first, Verdict, no_fault}
use Rattle.reading.specs.Writing.{and_then}
use Rattle.reading.specs.Refusals.{order, Objection, objection, stands_at, goes_before, raised, unpreceded, due, quiet, Owed}

-- ---- a verdict that goes through objections one by one

-- the objection that a fault is
abbrev pub as_objection : Bool → Fault → Objection
as_objection holds fault = objection holds (code_of fault) (place_of fault)

-- the verdict is that of the first of the objections that holds, as they stand in the list
pub data Through : List Objection → Verdict → Type 0 where
  none : Through [] no_fault
  stops : (x : Fault) (l : List Objection) → Through (as_objection true x ∷ l) (Err x)
  passes : (o : Objection) (l : List Objection) (v : Verdict) → o.holds ≡ false → Through l v → Through (o ∷ l) v

as_coded : (b : Bool) (x : Fault) (code place : ℕ) (l : List Objection) (v : Verdict) → code_of x ≡ code → place_of x ≡ place
    → Through (as_objection b x ∷ l) v → Through (objection b code place ∷ l) v
as_coded b x code place l v c p t = subst (λ (o : Objection). Through (o ∷ l) v) (λ i. objection b (c i) (p i)) t

-- one check more ahead of the others, which has the code and the place of its fault
pub judged : (b : Bool) (x : Fault) (code place : ℕ) (l : List Objection) (v : Verdict) → code_of x ≡ code → place_of x ≡ place
    → Through l v → Through (objection b code place ∷ l) (first b x v)
judged true x code place l v c p t = as_coded true x code place l (Err x) c p (stops x l)
judged false x code place l v c p t = passes (objection false code place) l v refl t

-- the same in a cascade that other checks come after
pub judged_then : (b : Bool) (x : Fault) (code place : ℕ) (l : List Objection) (v w : Verdict) → code_of x ≡ code → place_of x ≡ place
    → Through l (and_then v w) → Through (objection b code place ∷ l) (and_then (first b x v) w)
judged_then true x code place l v w c p t = as_coded true x code place l (Err x) c p (stops x l)
judged_then false x code place l v w c p t = passes (objection false code place) l (and_then v w) refl t

pub one_then_other : {l m : List Objection} {v w : Verdict} → Through l v → Through m w → Through (l ++ m) (and_then v w)
one_then_other none u = u
one_then_other (stops x k) u = stops x (k ++ _)
one_then_other (passes o k v e t) u = passes o (k ++ _) (and_then v _) e (one_then_other t u)

-- ---- objections that stand in order: none goes before one that stands ahead of it

abbrev refusal_of : Objection → Refusal
refusal_of o = record { code = o.code; place = o.place }

abbrev none_before : List Objection → Refusal → Bool
none_before [] x = true
none_before (o ∷ rest) x = not (goes_before o x) && none_before rest x

abbrev pub in_order : List Objection → Bool
in_order [] = true
in_order (o ∷ rest) = none_before rest (refusal_of o) && in_order rest

never_before : (holds before : Bool) → before ≡ false → (holds && before) ≡ false
never_before true before e = e
never_before false before e = refl

not_itself : (holds : Bool) (code place : ℕ) → goes_before (objection holds code place) (record { code = code; place = place }) ≡ false
not_itself holds code place =
    rw (le-ltb (stands_at order code) (stands_at order code) (omega arith), eq-eqb code code refl, le-ltb place place (omega arith))

none_before_lem : (l : List Objection) (x : Refusal) → none_before l x ≡ true → unpreceded l x ≡ true
unfolding unpreceded
none_before_lem [] x e = refl
none_before_lem (o ∷ l) x e =
    let p = both (not (goes_before o x)) (none_before l x) e in
    rw (never_before o.holds (goes_before o x) (not-true (goes_before o x) p.0), none_before_lem l x p.1)

-- ---- so that a refusal is the one to give, and an answer without one is given where nothing is objected

abbrev Given : List Objection → Verdict → Type 0
Given l (Ok done) = quiet l ≡ true
Given l (Err x) = (raised l (number x) ≡ true) × (unpreceded l (number x) ≡ true)

given_first : (x : Fault) (l : List Objection) → none_before l (number x) ≡ true → Given (as_objection true x ∷ l) (Err x)
unfolding raised unpreceded number
given_first x l e = (
  rw (eq-eqb (code_of x) (code_of x) refl, eq-eqb (place_of x) (place_of x) refl),
  rw (not_itself true (code_of x) (place_of x), none_before_lem l (number x) e),
)

given_later : (o : Objection) (l : List Objection) (v : Verdict) → o.holds ≡ false → Given l v → Given (o ∷ l) v
unfolding quiet raised unpreceded
given_later o l (Ok done) e g = rw (e, g)
given_later o l (Err x) e g = (rw (e, g.0), rw (e, g.1))

given : {l : List Objection} {v : Verdict} → Through l v → in_order l ≡ true → Given l v
unfolding quiet number
given none e = refl
given (stops x l) e = given_first x l (both (none_before l (number x)) (in_order l) e).0
given (passes o l v h t) e = given_later o l v h (given t (both (none_before l (refusal_of o)) (in_order l) e).1)

-- ---- and its code is one of those of the objections

abbrev pub coded : List ℕ → List Objection → Bool
coded codes [] = true
coded codes (o ∷ rest) = among o.code codes && coded codes rest

raised_coded : (codes : List ℕ) (l : List Objection) (x : Refusal) → coded codes l ≡ true → raised l x ≡ true → among x.code codes ≡ true
unfolding raised
raised_coded codes [] x c e = never e
raised_coded codes (o ∷ l) x c e =
    let p = both (among o.code codes) (coded codes l) c in
    ⊎_elim
    (λ h. ap (λ (code : ℕ). among code codes) (sym (eqb-true o.code x.code (both (eqb o.code x.code) _ (both o.holds _ h).1).0)) ∙ p.0)
    (λ h. raised_coded codes l x p.1 h)
    (either (o.holds && (eqb o.code x.code && eqb o.place x.place)) (raised l x) e)

-- the same where the first of the objections does not hold
pub coded_later : (codes : List ℕ) (o : Objection) (l : List Objection) (x : Refusal) → o.holds ≡ false → coded codes l ≡ true → due (o ∷ l) x ≡ true
    → among x.code codes ≡ true
unfolding due raised
coded_later codes o l x e c d = raised_coded codes l x c (rw e at (both (raised (o ∷ l) x) (unpreceded (o ∷ l) x) d).0)

-- ---- "Writers keep place 0": no objection but one to a byte has another place

abbrev pub placeless : List Objection → Bool
placeless [] = true
placeless (o ∷ rest) = (eqb o.code 2 || eqb o.place 0) && placeless rest

raised_at_0 : (l : List Objection) (x : Refusal) → placeless l ≡ true → raised l x ≡ true → (x.code ≡ 2 → ⊥) → x.place ≡ 0
unfolding raised
raised_at_0 [] x p e other = never e
raised_at_0 (o ∷ l) x p e other =
    let q = both (eqb o.code 2 || eqb o.place 0) (placeless l) p in
    ⊎_elim (λ h. here (both (eqb o.code x.code) (eqb o.place x.place) (both o.holds _ h).1) q.0) (λ h. raised_at_0 l x q.1 h other)
    (either (o.holds && (eqb o.code x.code && eqb o.place x.place)) (raised l x) e)
  where
    here : (eqb o.code x.code ≡ true) × (eqb o.place x.place ≡ true) → (eqb o.code 2 || eqb o.place 0) ≡ true → x.place ≡ 0
    here k q =
        ⊎_elim (λ h. absurd (other (sym (eqb-true o.code x.code k.0) ∙ eqb-true o.code 2 h)))
        (λ h. sym (eqb-true o.place x.place k.1) ∙ eqb-true o.place 0 h)
        (either (eqb o.code 2) (eqb o.place 0) q)

pub owed_at_0 : (l : List Objection) (codes : List ℕ) (x : Refusal) → placeless l ≡ true → Owed l codes x → (x.code ≡ 2 → ⊥) → x.place ≡ 0
unfolding due
owed_at_0 l codes x p w other = raised_at_0 l x p (both (raised l x) (unpreceded l x) w.0).0 other

-- where 2 is no code at all
pub always_at_0 : (l : List Objection) (codes : List ℕ) (x : Refusal) → placeless l ≡ true → among 2 codes ≡ false → Owed l codes x → x.place ≡ 0
always_at_0 l codes x p no_byte w = owed_at_0 l codes x p w (λ e. never (sym no_byte ∙ ap (λ (code : ℕ). among code codes) (sym e) ∙ w.1))

-- ---- what is promised of a verdict, which is what is promised of the answer made of it

abbrev pub VerdictOwed : List Objection → List ℕ → Verdict → Type 0
VerdictOwed l codes (Ok done) = quiet l ≡ true
VerdictOwed l codes (Err x) = Owed l codes (number x)

pub verdict_owed : {l : List Objection} {v : Verdict} (codes : List ℕ) → Through l v → in_order l ≡ true → coded codes l ≡ true → VerdictOwed l codes v
unfolding due
verdict_owed {l} {v} codes t e c = by v (given t e)
  where
    by : (v : Verdict) → Given l v → VerdictOwed l codes v
    by (Ok done) g = g
    by (Err x) g = (rw (g.0, g.1), raised_coded codes l (number x) c g.0)

-- ---- one objection more ahead of the others

pub quiet_later : (o : Objection) (l : List Objection) → o.holds ≡ false → quiet l ≡ true → quiet (o ∷ l) ≡ true
unfolding quiet
quiet_later o l e q = rw (e, q)

pub owed_later : (o : Objection) (l : List Objection) (codes : List ℕ) (x : Refusal) → o.holds ≡ false → Owed l codes x → Owed (o ∷ l) codes x
unfolding due raised unpreceded
owed_later o l codes x e p = (rw e p.0, p.1)

-- nothing goes before a length that is wrong
nothing_before : (l : List Objection) → unpreceded l (number Length) ≡ true
unfolding unpreceded number
nothing_before [] = refl
nothing_before (o ∷ l) =
    rw (
      never_before o.holds (goes_before o (record { code = 1; place = 0 })) (at_first o.code o.place),
      nothing_before l,
    )
  where
    at_first : (code place : ℕ) → goes_before (objection o.holds code place) (record { code = 1; place = 0 }) ≡ false
    at_first code place = rw (le-ltb (stands_at order code) 0 (omega arith), le-ltb place 0 (omega arith), never_before (eqb code 1) false refl)

pub length-owed : (l : List Objection) (codes : List ℕ) → among 1 codes ≡ true → Owed (as_objection true Length ∷ l) codes (number Length)
unfolding due raised number
length-owed l codes e = (rw (nothing_before (as_objection true Length ∷ l)), e)

-- ---- one objection more after the others

pub quiet_ends : (l : List Objection) (o : Objection) → o.holds ≡ false → quiet l ≡ true → quiet (l ++ (o ∷ [])) ≡ true
unfolding quiet
quiet_ends [] o e q = rw e
quiet_ends (p ∷ l) o e q = let b = both (not p.holds) (quiet l) q in rw (b.0, quiet_ends l o e b.1)

raised_ends : (l : List Objection) (o : Objection) (x : Refusal) → o.holds ≡ false → raised (l ++ (o ∷ [])) x ≡ raised l x
unfolding raised
raised_ends [] o x e = rw e
raised_ends (p ∷ l) o x e = rw (raised_ends l o x e)

unpreceded_ends : (l : List Objection) (o : Objection) (x : Refusal) → o.holds ≡ false → unpreceded (l ++ (o ∷ [])) x ≡ unpreceded l x
unfolding unpreceded
unpreceded_ends [] o x e = rw e
unpreceded_ends (p ∷ l) o x e = rw (unpreceded_ends l o x e)

-- one that does not hold changes nothing
pub owed_ends : (l : List Objection) (o : Objection) (codes : List ℕ) (x : Refusal) → o.holds ≡ false → Owed l codes x → Owed (l ++ (o ∷ [])) codes x
unfolding due
owed_ends l o codes x e p = (rw (raised_ends l o x e, unpreceded_ends l o x e) p.0, p.1)

-- and where none of the others holds, it is the one to give
module _ (code place : ℕ) where
  abbrev last : Objection
  last = objection true code place

  raised_last : (l : List Objection) → raised (l ++ (last ∷ [])) (refusal_of last) ≡ true
  unfolding raised
  raised_last [] = rw (eq-eqb code code refl, eq-eqb place place refl)
  raised_last (o ∷ l) = rw (raised_last l) (or_true (o.holds && (eqb o.code code && eqb o.place place)))

  unpreceded_last : (l : List Objection) → quiet l ≡ true → unpreceded (l ++ (last ∷ [])) (refusal_of last) ≡ true
  unfolding quiet unpreceded
  unpreceded_last [] q = rw (not_itself true code place)
  unpreceded_last (o ∷ l) q =
      let b = both (not o.holds) (quiet l) q in
      rw (not-true o.holds b.0, unpreceded_last l b.1)

  pub last_owed : (l : List Objection) (codes : List ℕ) → quiet l ≡ true → among code codes ≡ true → Owed (l ++ (last ∷ [])) codes (refusal_of last)
  unfolding due
  last_owed l codes q m = (rw (raised_last l, unpreceded_last l q), m)
