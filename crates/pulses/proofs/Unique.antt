-- Any two answers that the contract of a public function allows coincide, and so do the bytes that it leaves.
-- Each line speaks of the generated contract itself.
use borrow.Fn.Kinds.{Dens, res_t, ended_of}
use contract.Lifetimes.{Lfts}
use denote.Triple.Clauses.{AtExit}
use mathlib.Core.Path.{◌≡◌}
use Rattle.laws.proofs.Coincide.{Coincide}
use Rattle.pulses.proofs.tags.good.Kinds as good-kinds
use Rattle.pulses.proofs.tags.good.Reads as good-reads
use Rattle.pulses.proofs.tags.sums.Kinds as tag-sums-kinds
use Rattle.pulses.proofs.tags.sums.Reads as tag-sums-reads
use Rattle.pulses.proofs.laying.lay.Kinds as tag-lay-kinds
use Rattle.pulses.proofs.laying.lay.Reads as tag-lay-reads
use Rattle.pulses.proofs.outline.outlined.Kinds as outlined-kinds
use Rattle.pulses.proofs.outline.outlined.Reads as outlined-reads
use Rattle.pulses.proofs.group_of.Reads as group-of-reads
use Rattle.pulses.proofs.group_of.Kinds as group-of-kinds
use Rattle.pulses.proofs.weight_of.Reads as weight-of-reads
use Rattle.pulses.proofs.weight_of.Kinds as weight-of-kinds
use Rattle.pulses.proofs.bit.Reads as bit-reads
use Rattle.pulses.proofs.bit.Kinds as bit-kinds
use Rattle.pulses.proofs.scanned.Reads as scanned-reads
use Rattle.pulses.proofs.scanned.Kinds as scanned-kinds
use Rattle.pulses.proofs.lay.Reads as lay-reads
use Rattle.pulses.proofs.lay.Kinds as lay-kinds
use Rattle.pulses.proofs.ones.Reads as ones-reads
use Rattle.pulses.proofs.ones.Kinds as ones-kinds

pub group_of_one : Coincide 0 group-of-kinds.ps group-of-kinds.r group-of-reads.Post
group_of_one κs a x y e f p q = cc

pub weight_of_one : Coincide 0 weight-of-kinds.ps weight-of-kinds.r weight-of-reads.Post
weight_of_one κs a x y e f p q = cc

pub scanned_one : Coincide 2 scanned-kinds.ps scanned-kinds.r scanned-reads.Post
scanned_one κs a x y e f p q = cc

pub ones_one : Coincide 1 ones-kinds.ps ones-kinds.r ones-reads.Post
ones_one κs a x y e f p q = cc

-- the bytes that are lent hold the same afterwards too
pub lay_one : (κs : Lfts 2) (a : Dens κs lay-kinds.ps) (x y : (res_t lay-kinds.r κs).Denot)
    (e f : AtExit (ended_of 2 lay-kinds.ps lay-kinds.r) κs)
    → lay-reads.Post κs a x e → lay-reads.Post κs a y f → (x ≡ y) × (e.0.now ≡ f.0.now)
lay_one κs a x y e f p q = (cc, cc)

pub outlined_one : Coincide 2 outlined-kinds.ps outlined-kinds.r outlined-reads.Post
outlined_one κs a x y e f p q = cc

pub bit_one : Coincide 0 bit-kinds.ps bit-kinds.r bit-reads.Post
bit_one κs a x y e f p q = cc

pub good_one : Coincide 2 good-kinds.ps good-kinds.r good-reads.Post
good_one κs a x y e f p q = cc

pub sums_one : Coincide 2 tag-sums-kinds.ps tag-sums-kinds.r tag-sums-reads.Post
sums_one κs a x y e f p q = cc

pub laying_lay_one : (κs : Lfts 2) (a : Dens κs tag-lay-kinds.ps) (x y : (res_t tag-lay-kinds.r κs).Denot)
    (e f : AtExit (ended_of 2 tag-lay-kinds.ps tag-lay-kinds.r) κs)
    → tag-lay-reads.Post κs a x e → tag-lay-reads.Post κs a y f → (x ≡ y) × (e.0.now ≡ f.0.now)
laying_lay_one κs a x y e f p q = (cc, cc)
