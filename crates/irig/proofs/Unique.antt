-- Any two answers that the contract of a public function allows coincide, and so do the bytes that it leaves.
-- Each line speaks of the generated contract itself.
use borrow.Fn.Kinds.{Dens, res_t, ended_of}
use contract.Lifetimes.{Lfts}
use denote.Triple.Clauses.{AtExit}
use mathlib.Core.Path.{◌≡◌}
use Rattle.laws.proofs.Coincide.{Coincide}
use Rattle.irig.proofs.Ieee1344.read.Reads as read-reads
use Rattle.irig.proofs.Ieee1344.read.Kinds as read-kinds
use Rattle.irig.proofs.Ieee1344.write.Reads as write-reads
use Rattle.irig.proofs.Ieee1344.write.Kinds as write-kinds

pub read_one : Coincide 1 read-kinds.ps read-kinds.r read-reads.Post
read_one κs a x y e f p q = cc

-- the bytes that are lent hold the same afterwards too
pub write_one : (κs : Lfts 1) (a : Dens κs write-kinds.ps) (x y : (res_t write-kinds.r κs).Denot)
    (e f : AtExit (ended_of 1 write-kinds.ps write-kinds.r) κs)
    → write-reads.Post κs a x e → write-reads.Post κs a y f → (x ≡ y) × (e.1.1.0.now ≡ f.1.1.0.now)
write_one κs a x y e f p q = (cc, cc)
