-- Any two answers that a public function's contract allows coincide. Over the contracts themselves.
use mathlib.Core.Path.{◌≡◌}
use borrow.Fn.Kinds.{Dens, res_t, ended_of}
use contract.Lifetimes.{Lfts}
use denote.Triple.Clauses.{AtExit}
use Rattle.laws.proofs.Coincide.{Coincide}
use Rattle.clock_string.proofs.read.Kinds as read-kinds
use Rattle.clock_string.proofs.read.Reads as read-reads
use Rattle.clock_string.proofs.position_part.Kinds as position-part-kinds
use Rattle.clock_string.proofs.position_part.Reads as position-part-reads
use Rattle.clock_string.proofs.Told.timed.Kinds as timed-kinds
use Rattle.clock_string.proofs.Told.timed.Reads as timed-reads

pub timed_one : Coincide 0 timed-kinds.ps timed-kinds.r timed-reads.Post
timed_one κs a x y e f p q = cc

pub read_one : Coincide 1 read-kinds.ps read-kinds.r read-reads.Post
read_one κs a x y e f p q = cc

-- the bytes of the part, and where in the caller's own memory it starts; all else of a reference is a ghost name, which no program sees
pub position_part_one : (κs : Lfts 1) (a : Dens κs position-part-kinds.ps) (x y : (res_t position-part-kinds.r κs).Denot)
    (e f : AtExit (ended_of 1 position-part-kinds.ps position-part-kinds.r) κs)
    → position-part-reads.Post κs a x e → position-part-reads.Post κs a y f → (x.now ≡ y.now) × (x.ref_ptr ≡ y.ref_ptr)
position_part_one κs a x y e f p q = (cc, cc)
