-- "Any two answers that a contract allows coincide", said of the contract that rattle reads off the source.
use mathlib.Core.Path.{◌≡◌}
use mathlib.Core.List.{List}
use Prim.Native.Nat.{ℕ}
use borrow.Fn.Kinds.{Out, ParamKind, ResultKind, Dens, res_t, ended_of}
use contract.Lifetimes.{Lfts}
use denote.Triple.Clauses.{AtExit}

-- n is the number of lifetimes in the signature, ps and r its parameters and its result, Post its `ensures`
abbrev pub Coincide : (n : ℕ) (ps : List (ParamKind n)) (r : ResultKind n) → Out n ps r → Type 0
Coincide n ps r Post =
    (κs : Lfts n) (a : Dens κs ps) (x y : (res_t r κs).Denot) (e f : AtExit (ended_of n ps r) κs) → Post κs a x e → Post κs a y f → x ≡ y
