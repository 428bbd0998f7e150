-- At most one refusal is the one to give: what the order of the codes says of a refusal fixes its code and its place.
use mathlib.Core.Bool.{Bool, true, false, not, ◌&&◌}
use mathlib.Core.List.{List, [], ◌∷◌}
use mathlib.Core.Logic.{⊎_elim}
use mathlib.Core.Path.{◌≡◌, refl, sym, ap, ◌∙◌}
use Prim.Native.Nat.{ℕ, suc}
use native.Mathlib.Omega.{arith}
use lib.Dec.{eqb, ltb}
use borrow.Author.Tests.{eq-eqb, eqb-true, ltb-false, not-true}
use Rattle.laws.specs.Tests.{among}
use Rattle.laws.proofs.Bools.{both, either, neither, never}
use Rattle.reading.specs.declared.Refusal.{Refusal}
use Rattle.reading.specs.Refusals.{order, Objection, objection, stands_at, goes_before, raised, unpreceded, due, Owed}

-- a code of a list stands at a place of its own
same_place : (codes : List ℕ) (c d : ℕ) → among c codes ≡ true → stands_at codes c ≡ stands_at codes d → c ≡ d
same_place [] c d m e = never m
same_place (k ∷ rest) c d m e = go (λ n f. same_place rest c d n f) (eqb c k) refl (eqb d k) refl
  where
    go : (among c rest ≡ true → stands_at rest c ≡ stands_at rest d → c ≡ d) → (a : Bool) → eqb c k ≡ a → (b : Bool) → eqb d k ≡ b → c ≡ d
    go more true p true q = eqb-true c k p ∙ sym (eqb-true d k q)
    go more true p false q = let z : ◌≡◌ {A = ℕ} 0 (suc (stands_at rest d)) = rw (p, q) at e in absurd (omega arith)
    go more false p true q = let z : ◌≡◌ {A = ℕ} (suc (stands_at rest c)) 0 = rw (p, q) at e in absurd (omega arith)
    go more false p false q =
        let z : ◌≡◌ {A = ℕ} (suc (stands_at rest c)) (suc (stands_at rest d)) = rw (p, q) at e in
        more (rw p at m) (omega arith)

-- a refusal as an objection
abbrev again : Refusal → Objection
again x = objection true x.code x.place

moved : (o : Objection) (x y : Refusal) → o.code ≡ x.code → o.place ≡ x.place → goes_before o y ≡ false → goes_before (again x) y ≡ false
moved o x y c p e = rw (sym c, sym p) e

-- what is raised does not go before what nothing goes before
not_before : (l : List Objection) (x y : Refusal) → raised l x ≡ true → unpreceded l y ≡ true → goes_before (again x) y ≡ false
unfolding raised unpreceded
not_before [] x y r u = never r
not_before (o ∷ l) x y r u =
    let rest = both (not (o.holds && goes_before o y)) (unpreceded l y) u in
    ⊎_elim (λ h. here h (not-true (o.holds && goes_before o y) rest.0)) (λ h. not_before l x y h rest.1)
    (either (o.holds && (eqb o.code x.code && eqb o.place x.place)) (raised l x) r)
  where
    here : (o.holds && (eqb o.code x.code && eqb o.place x.place)) ≡ true → (o.holds && goes_before o y) ≡ false
        → goes_before (again x) y ≡ false
    here h n =
        let a = both o.holds (eqb o.code x.code && eqb o.place x.place) h in
        let b = both (eqb o.code x.code) (eqb o.place x.place) a.1 in
        moved o x y (eqb-true o.code x.code b.0) (eqb-true o.place x.place b.1) (rw a.0 at n)

due_one : (l : List Objection) (x y : Refusal) → among x.code order ≡ true → due l x ≡ true → due l y ≡ true → x ≡ y
unfolding due
due_one l x y m p q =
    let a = both (raised l x) (unpreceded l x) p in
    let b = both (raised l y) (unpreceded l y) q in
    let xy = neither (ltb (stands_at order x.code) (stands_at order y.code)) (eqb x.code y.code && ltb x.place y.place) (not_before l x y a.0 b.1) in
    let yx = neither (ltb (stands_at order y.code) (stands_at order x.code)) (eqb y.code x.code && ltb y.place x.place) (not_before l y x b.0 a.1) in
    let up = ltb-false (stands_at order x.code) (stands_at order y.code) xy.0 in
    let down = ltb-false (stands_at order y.code) (stands_at order x.code) yx.0 in
    let code = same_place order x.code y.code m (omega arith) in
    let low = ltb-false x.place y.place (rw (eq-eqb x.code y.code code) at xy.1) in
    let high = ltb-false y.place x.place (rw (eq-eqb y.code x.code (sym code)) at yx.1) in
    let place : x.place ≡ y.place = omega arith in
    λ i. record { code = code i; place = place i }

-- codes that are all among others
abbrev pub all_in : List ℕ → List ℕ → Bool
all_in all [] = true
all_in all (c ∷ rest) = among c all && all_in all rest

one_of : (all codes : List ℕ) (c : ℕ) → all_in all codes ≡ true → among c codes ≡ true → among c all ≡ true
one_of all [] c w m = never m
one_of all (k ∷ rest) c w m =
    let p = both (among k all) (all_in all rest) w in
    ⊎_elim (λ h. ap (λ (n : ℕ). among n all) (eqb-true c k h) ∙ p.0) (λ h. one_of all rest c p.1 h) (either (eqb c k) (among c rest) m)

-- what is owed by some codes is owed by more of them
pub owed_more : (l : List Objection) (codes more : List ℕ) (x : Refusal) → all_in more codes ≡ true → Owed l codes x → Owed l more x
owed_more l codes more x w p = (p.0, one_of more codes x.code w p.1)

pub owed_one : (l : List Objection) (codes : List ℕ) (x y : Refusal) → all_in order codes ≡ true → Owed l codes x → Owed l codes y → x ≡ y
owed_one l codes x y w p q = due_one l x y (one_of order codes x.code w p.1) p.0 q.0
