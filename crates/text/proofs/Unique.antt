-- Of the public function of `text`: any two answers that its contract allows coincide, and so do the lent bytes.
use mathlib.Core.Path.{◌≡◌}
use borrow.Fn.Kinds.{Dens, res_t, ended_of}
use contract.Lifetimes.{Lfts}
use denote.Triple.Clauses.{AtExit}
use Rattle.text.proofs.put_decimal.Kinds as put-decimal-kinds
use Rattle.text.proofs.put_decimal.Reads as put-decimal-reads

pub put_decimal_one : (κs : Lfts 1) (a : Dens κs put-decimal-kinds.ps) (x y : (res_t put-decimal-kinds.r κs).Denot) (e f : AtExit (ended_of 1 put-decimal-kinds.ps put-decimal-kinds.r) κs)
    → put-decimal-reads.Post κs a x e → put-decimal-reads.Post κs a y f → (x ≡ y) × (e.0.now ≡ f.0.now)
put_decimal_one κs a x y e f p q = (cc, cc)
