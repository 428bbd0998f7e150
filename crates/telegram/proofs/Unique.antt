-- Any two answers that the contract of the sender allows coincide, and so do the bytes that it leaves.
use borrow.Fn.Kinds.{Dens, res_t, ended_of}
use contract.Lifetimes.{Lfts}
use denote.Triple.Clauses.{AtExit}
use mathlib.Core.Path.{◌≡◌}
use Rattle.telegram.proofs.Sender.write.Kinds as write-kinds
use Rattle.telegram.proofs.Sender.write.Reads as write-reads

pub write_one : (κs : Lfts 1) (a : Dens κs write-kinds.ps) (x y : (res_t write-kinds.r κs).Denot)
    (e f : AtExit (ended_of 1 write-kinds.ps write-kinds.r) κs)
    → write-reads.Post κs a x e → write-reads.Post κs a y f → (x ≡ y) × (e.1.1.1.1.0.now ≡ f.1.1.1.1.0.now)
write_one κs a x y e f p q = (cc, cc)
