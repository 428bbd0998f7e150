-- Any two answers that the contract of a public function allows coincide, and so do the bytes that it leaves.
-- Each line speaks of the generated contract itself.
use borrow.Fn.Kinds.{Dens, res_t, ended_of}
use contract.Lifetimes.{Lfts}
use denote.Triple.Clauses.{AtExit}
use mathlib.Core.Path.{◌≡◌}
use Rattle.laws.proofs.Coincide.{Coincide}
use Rattle.dcf77_table.proofs.good.Kinds as good-kinds
use Rattle.dcf77_table.proofs.good.Reads as good-reads
use Rattle.dcf77_table.proofs.sums.Kinds as sums-kinds
use Rattle.dcf77_table.proofs.sums.Reads as sums-reads
use Rattle.dcf77_table.proofs.scanned.Reads as scanned-reads
use Rattle.dcf77_table.proofs.scanned.Kinds as scanned-kinds
use Rattle.dcf77_table.proofs.lay.Reads as lay-reads
use Rattle.dcf77_table.proofs.lay.Kinds as lay-kinds

pub scanned_one : Coincide 1 scanned-kinds.ps scanned-kinds.r scanned-reads.Post
scanned_one κs a x y e f p q = cc

-- the bytes that are lent hold the same afterwards too
pub lay_one : (κs : Lfts 1) (a : Dens κs lay-kinds.ps) (x y : (res_t lay-kinds.r κs).Denot)
    (e f : AtExit (ended_of 1 lay-kinds.ps lay-kinds.r) κs)
    → lay-reads.Post κs a x e → lay-reads.Post κs a y f → (x ≡ y) × (e.0.now ≡ f.0.now)
lay_one κs a x y e f p q = (cc, cc)

pub good_one : Coincide 1 good-kinds.ps good-kinds.r good-reads.Post
good_one κs a x y e f p q = cc

pub sums_one : Coincide 1 sums-kinds.ps sums-kinds.r sums-reads.Post
sums_one κs a x y e f p q = cc
