-- Of each public function of `dcf77`: any two answers that its contract allows coincide, and so do the bytes that it leaves.
use borrow.Fn.Kinds.{Dens, res_t, ended_of}
use contract.Lifetimes.{Lfts}
use denote.Triple.Clauses.{AtExit}
use mathlib.Core.Path.{◌≡◌}
use Rattle.laws.proofs.Coincide.{Coincide}
use Rattle.dcf77.proofs.Dcf77.read.Kinds as read-kinds
use Rattle.dcf77.proofs.Dcf77.read.Reads as read-reads
use Rattle.dcf77.proofs.Dcf77.write.Kinds as write-kinds
use Rattle.dcf77.proofs.Dcf77.write.Reads as write-reads
use Rattle.dcf77.proofs.zones.offset_in.Kinds as offset-in-kinds
use Rattle.dcf77.proofs.zones.offset_in.Reads as offset-in-reads

pub offset_in_one : Coincide 0 offset-in-kinds.ps offset-in-kinds.r offset-in-reads.Post
offset_in_one κs a x y e f p q = cc

pub read_one : Coincide 1 read-kinds.ps read-kinds.r read-reads.Post
read_one κs a x y e f p q = cc

pub write_one : (κs : Lfts 1) (a : Dens κs write-kinds.ps) (x y : (res_t write-kinds.r κs).Denot)
    (e f : AtExit (ended_of 1 write-kinds.ps write-kinds.r) κs)
    → write-reads.Post κs a x e → write-reads.Post κs a y f → (x ≡ y) × (e.1.1.1.0.now ≡ f.1.1.1.0.now)
write_one κs a x y e f p q = (cc, cc)
