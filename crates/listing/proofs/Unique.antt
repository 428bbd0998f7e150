-- Of the public function of `listing`: any two answers that its contract allows coincide, and so do the lent bytes.
use mathlib.Core.Path.{◌≡◌}
use borrow.Fn.Kinds.{Dens, res_t, ended_of}
use contract.Lifetimes.{Lfts}
use denote.Triple.Clauses.{AtExit}
use Rattle.listing.proofs.list.Kinds as list-kinds
use Rattle.listing.proofs.list.Reads as list-reads

pub list_one : (κs : Lfts 2) (a : Dens κs list-kinds.ps) (x y : (res_t list-kinds.r κs).Denot) (e f : AtExit (ended_of 2 list-kinds.ps list-kinds.r) κs)
    → list-reads.Post κs a x e → list-reads.Post κs a y f → (x ≡ y) × (e.1.1.0.now ≡ f.1.1.0.now)
list_one κs a x y e f p q = (cc, cc)
