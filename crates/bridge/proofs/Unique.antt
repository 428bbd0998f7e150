-- Any two answers that a contract of the bridge allows coincide, and so do the bytes that it leaves; the answer is the same whichever
-- way is named, and naming none is naming `Coasting::Worse`. The lines speak of the generated contracts themselves.
use borrow.Fn.Kinds.{Dens, res_t, ended_of}
use contract.Lifetimes.{Lfts}
use denote.Triple.Clauses.{AtExit}
use mathlib.Core.Path.{◌≡◌}
use Rattle.bridge.specs.declared.Coasting.TheVariants.{Worse}
use Rattle.bridge.proofs.bridge.Reads as bridge-reads
use Rattle.bridge.proofs.bridge.Kinds as bridge-kinds
use Rattle.bridge.proofs.bridge_with.Reads as bridge-with-reads
use Rattle.bridge.proofs.bridge_with.Kinds as bridge-with-kinds

pub bridge_one : (κs : Lfts 2) (a : Dens κs bridge-kinds.ps) (x y : (res_t bridge-kinds.r κs).Denot)
    (e f : AtExit (ended_of 2 bridge-kinds.ps bridge-kinds.r) κs)
    → bridge-reads.Post κs a x e → bridge-reads.Post κs a y f → (x ≡ y) × (e.1.1.0.now ≡ f.1.1.0.now)
bridge_one κs a x y e f p q = (cc, cc)

pub bridge_with_one : (κs : Lfts 2) (a : Dens κs bridge-with-kinds.ps) (x y : (res_t bridge-with-kinds.r κs).Denot)
    (e f : AtExit (ended_of 2 bridge-with-kinds.ps bridge-with-kinds.r) κs)
    → bridge-with-reads.Post κs a x e → bridge-with-reads.Post κs a y f → (x ≡ y) × (e.1.1.1.0.now ≡ f.1.1.1.0.now)
bridge_with_one κs a x y e f p q = (cc, cc)

-- "Refusals: none": on the same base, string and buffer the answers are the same, whichever way each was asked for
pub either_way : (κs : Lfts 2) (a b : Dens κs bridge-with-kinds.ps) (x y : (res_t bridge-with-kinds.r κs).Denot)
    (e f : AtExit (ended_of 2 bridge-with-kinds.ps bridge-with-kinds.r) κs)
    → a.0 ≡ b.0 → a.1.0.now ≡ b.1.0.now → a.1.1.1.0.now ≡ b.1.1.1.0.now
    → bridge-with-reads.Post κs a x e → bridge-with-reads.Post κs b y f → x ≡ y
either_way κs a b x y e f base s out p q = cc

-- who names no way gets what `Coasting::Worse` gives, answer and bytes
pub plain_is_worse : (κs : Lfts 2) (a : Dens κs bridge-kinds.ps) (b : Dens κs bridge-with-kinds.ps)
    (x : (res_t bridge-kinds.r κs).Denot) (y : (res_t bridge-with-kinds.r κs).Denot)
    (e : AtExit (ended_of 2 bridge-kinds.ps bridge-kinds.r) κs) (f : AtExit (ended_of 2 bridge-with-kinds.ps bridge-with-kinds.r) κs)
    → a.0 ≡ b.0 → a.1.0.now ≡ b.1.0.now → b.1.1.0 ≡ Worse → a.1.1.0.now ≡ b.1.1.1.0.now
    → bridge-reads.Post κs a x e → bridge-with-reads.Post κs b y f → (x ≡ y) × (e.1.1.0.now ≡ f.1.1.1.0.now)
plain_is_worse κs a b x y e f base s way out p q = (cc, cc)
