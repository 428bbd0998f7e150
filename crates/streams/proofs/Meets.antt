-- "A function meets a contract", said of the contract that rattle reads off the source.
use mathlib.Core.List.{List}
use Prim.Native.Nat.{ℕ}
use borrow.Fn.Kinds.{Out, ParamKind, ResultKind, Dens, res_t, ended_of}
use contract.Lifetimes.{Lfts}
use denote.Triple.Clauses.{AtExit}

-- n is the number of lifetimes in the signature, ps and r its parameters and its result, Post its `ensures`, and f what is answered to the arguments
abbrev pub Meets : (n : ℕ) (ps : List (ParamKind n)) (r : ResultKind n) → Out n ps r → ((κs : Lfts n) → Dens κs ps → (res_t r κs).Denot) → Type 0
Meets n ps r Post f = (κs : Lfts n) (a : Dens κs ps) (e : AtExit (ended_of n ps r) κs) → Post κs a (f κs a) e
