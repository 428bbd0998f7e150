-- Any two answers that the contract of a public function allows coincide. Each line speaks of the generated contract itself.
use mathlib.Core.Path.{◌≡◌, refl, ◌∙◌, sym, ap}
use seplogic.Ra.Ura.{Ura}
use package.base.Logic.{SProp}
use prog.Memory.{Memory}
use prog.Routine.{Routine}
use types.Logic.{Logic}
use contract.Lifetimes.{Lfts}
use contract.Monad.{Fun, fact}
use denote.Triple.Entry.{Args, Res}
use denote.Triple.Clauses.{Ended, AtExit, Clauses}
use Rattle.laws.proofs.Coincide.{Coincide}
use Rattle.std.specs.Prelude.{Option}
use Rattle.book.specs.declared.Record.{Record}
use Rattle.book.specs.declared.Walk.{Walk}
use Rattle.book.specs.declared.Taken.{Taken}
use Rattle.book.specs.Walking.{walk_over, turned, Turns}
use Rattle.book.proofs.record_at.Kinds as record-kinds
use Rattle.book.proofs.record_at.Reads as record-reads
use Rattle.book.proofs.next_at.Kinds as next-kinds
use Rattle.book.proofs.next_at.Reads as next-reads
use Rattle.book.proofs.first.Kinds as first-kinds
use Rattle.book.proofs.first.Reads as first_reads
use Rattle.book.proofs.stamps.stamping_of.Kinds as stamping-kinds
use Rattle.book.proofs.stamps.stamping_of.Reads as stamping-reads
use Rattle.book.proofs.stamps.stamping_at.Kinds as stamping-at-kinds
use Rattle.book.proofs.stamps.stamping_at.Reads as stamping-at-reads
use Rattle.book.proofs.body.Kind.body_length.Kinds as body-length-kinds
use Rattle.book.proofs.body.Kind.body_length.Reads as body-length-reads
use Rattle.book.proofs.body.Kind.read.Kinds as read-body-kinds
use Rattle.book.proofs.body.Kind.read.Reads as read-body-reads
use Rattle.book.specs.contracts.Walk.over as over
use Rattle.book.specs.contracts.Walk.turn as turn

pub record_at_one : Coincide 1 record-kinds.ps record-kinds.r record-reads.Post
record_at_one κs a x y e f p q = cc

pub next_at_one : Coincide 1 next-kinds.ps next-kinds.r next-reads.Post
next_at_one κs a x y e f p q = cc

pub first_one : Coincide 1 first-kinds.ps first-kinds.r first_reads.Post
first_one κs a x y e f p q = cc

pub stamping_of_one : Coincide 0 stamping-kinds.ps stamping-kinds.r stamping-reads.Post
stamping_of_one κs a x y e f p q = cc

pub stamping_at_one : Coincide 0 stamping-at-kinds.ps stamping-at-kinds.r stamping-at-reads.Post
stamping_at_one κs a x y e f p q = cc

-- For a function that is proved by hand rattle reads off no `Post`: its `ensures` is a fact of the result alone, in every
-- model, and any two results of which the fact holds coincide.
abbrev pub Pinned : (T : Ended)
    → ((M : Type 1) (𝓤 : Ura M) (𝓛 : Logic 𝓤) → (Memory → SProp 𝓤) → (Routine → Fun 𝓤) → Clauses 𝓤 T) → Type 2
Pinned T c =
    (κs : Lfts T.signature.lifetimes) (a : Args T.signature κs)
    → (said : Res T.signature κs → Type 0)
    × (((M : Type 1) (𝓤 : Ura M) (𝓛 : Logic 𝓤) (mem : Memory → SProp 𝓤) (run : Routine → Fun 𝓤)
    (g : (c M 𝓤 𝓛 mem run κs a).ghost) (r : Res T.signature κs) (e : AtExit T κs)
    → (c M 𝓤 𝓛 mem run κs a).ensures g r e ≡ fact 𝓤 (said r))
    × ((x y : Res T.signature κs) → said x → said y → x ≡ y))

pub over_one : Pinned over.ended (λ M 𝓤 𝓛 mem run. over.clauses 𝓛 mem run)
over_one κs a = ((λ w. w ≡ walk_over a.0 a.1.0), ((λ M 𝓤 𝓛 mem run g r e. refl), λ x y p q. p ∙ sym q))

pub turn_one : Pinned turn.ended (λ M 𝓤 𝓛 mem run. turn.clauses 𝓛 mem run)
turn_one κs a = ((λ t. t ≡ turned a.0), ((λ M 𝓤 𝓛 mem run g r e. refl), λ x y p q. p ∙ sym q))

-- and what `Turns` says of a walk's `next`
pub next_one : (w : Walk) (found other : Option Record) (past beyond : Walk) → Turns w found past → Turns w other beyond → (found ≡ other) × (past ≡ beyond)
next_one w found other past beyond p q =
    let same : ◌≡◌ {A = Taken} (record { walk = past; found = found }) (record { walk = beyond; found = other }) = sym p ∙ q in
    (ap (λ (t : Taken). t.found) same, ap (λ (t : Taken). t.walk) same)

-- ---- what the crate's own files call

pub body_length-one : Coincide 0 body-length-kinds.ps body-length-kinds.r body-length-reads.Post
body_length-one κs a x y e f p q = cc

pub read_body_one : Coincide 1 read-body-kinds.ps read-body-kinds.r read-body-reads.Post
read_body_one κs a x y e f p q = cc
