-- Truth values: what a conjunction, a disjunction and a test under a condition tell.
use mathlib.Core.Path.{◌≡◌, refl, subst, sym, ◌∙◌}
use mathlib.Core.Bool.{Bool, true, false, not, beq, ◌&&◌, ◌||◌}
use mathlib.Core.Logic.{◌⊎◌, inl, inr}
use lib.Dec.{T}
use borrow.Author.Tests.{not-true, not-false}

pub both : (a b : Bool) → (a && b) ≡ true → (a ≡ true) × (b ≡ true)
both true b e = (refl, e)
both false b e = absurd (subst T (sym e) tt)

pub neither : (a b : Bool) → (a || b) ≡ false → (a ≡ false) × (b ≡ false)
neither false b e = (refl, e)
neither true b e = absurd (subst T e tt)

pub either : (a b : Bool) → (a || b) ≡ true → (a ≡ true) ⊎ (b ≡ true)
either true b e = inl refl
either false b e = inr e

pub or_true : (a : Bool) → (a || true) ≡ true
or_true true = refl
or_true false = refl

pub holds : (a : Bool) → a ≡ true → T a
holds true e = tt
holds false e = absurd (subst T (sym e) tt)

pub is_true : (a : Bool) → T a → a ≡ true
is_true true t = refl
is_true false t = absurd t

-- b, where a holds
abbrev pub where_so : Bool → Bool → Bool
where_so true b = b
where_so false b = true

pub then : (a b : Bool) → T (where_so a b) → T a → T b
then true b t s = t
then false b t s = absurd s

-- b, where a fails
abbrev pub where_not : Bool → Bool → Bool
where_not true b = true
where_not false b = b

pub otherwise : (a b : Bool) → T (where_not a b) → a ≡ false → T b
otherwise false b t e = t
otherwise true b t e = absurd (subst T e tt)

-- a call's result is what the call ensures, and a test of its negation says which
pub failed : {b t : Bool} → b ≡ t → not b ≡ true → t ≡ false
failed p q = sym p ∙ not-true _ q

pub passed : {b t : Bool} → b ≡ t → not b ≡ false → t ≡ true
passed p q = sym p ∙ not-false _ q

pub same_bool : (a b : Bool) → T (beq a b) → a ≡ b
same_bool true true t = refl
same_bool false false t = refl
same_bool true false t = absurd t
same_bool false true t = absurd t

pub never : {A : Type 0} → false ≡ true → A
never e = absurd (subst T (sym e) tt)
