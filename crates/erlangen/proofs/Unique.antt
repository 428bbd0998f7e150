-- Any two answers that a public function's contract allows coincide, and so do the bytes that it leaves in a lent buffer. Over the contracts themselves.
use mathlib.Core.Path.{◌≡◌}
use borrow.Fn.Kinds.{Dens, res_t, ended_of}
use contract.Lifetimes.{Lfts}
use denote.Triple.Clauses.{AtExit}
use Rattle.laws.proofs.Coincide.{Coincide}
use Rattle.erlangen.proofs.read.for_clock_string.Kinds as for-clock-string-kinds
use Rattle.erlangen.proofs.read.for_clock_string.Reads as for-clock-string-reads
use Rattle.erlangen.proofs.read.ErlangenClockString.all_allowed.Kinds as all-allowed-kinds
use Rattle.erlangen.proofs.read.ErlangenClockString.all_allowed.Reads as all-allowed-reads
use Rattle.erlangen.proofs.read.ErlangenClockString.good_places.Kinds as good-places-kinds
use Rattle.erlangen.proofs.read.ErlangenClockString.good_places.Reads as good-places-reads
use Rattle.erlangen.proofs.read.ErlangenClockString.reading.Kinds as reading-kinds
use Rattle.erlangen.proofs.read.ErlangenClockString.reading.Reads as reading-reads
use Rattle.erlangen.proofs.read.ErlangenClockString.said_fault.Kinds as said-fault-kinds
use Rattle.erlangen.proofs.read.ErlangenClockString.said_fault.Reads as said-fault-reads
use Rattle.erlangen.proofs.read.ErlangenClockString.is_coasting.Kinds as is-coasting-kinds
use Rattle.erlangen.proofs.read.ErlangenClockString.is_coasting.Reads as is-coasting-reads
use Rattle.erlangen.proofs.Erlangen.write.Kinds as write-kinds
use Rattle.erlangen.proofs.Erlangen.write.Reads as write-reads
use Rattle.erlangen.proofs.offset.Shown.is_bad.Kinds as is-bad-kinds
use Rattle.erlangen.proofs.offset.Shown.is_bad.Reads as is-bad-reads
use Rattle.erlangen.proofs.offset.Shown.offset.Kinds as offset-kinds
use Rattle.erlangen.proofs.offset.Shown.offset.Reads as offset-reads
use Rattle.erlangen.proofs.offset.is_behind.Kinds as is-behind-kinds
use Rattle.erlangen.proofs.offset.is_behind.Reads as is-behind-reads
use Rattle.erlangen.proofs.offset.minutes_of.Kinds as minutes-of-kinds
use Rattle.erlangen.proofs.offset.minutes_of.Reads as minutes-of-reads

pub for_clock_string_one : Coincide 1 for-clock-string-kinds.ps for-clock-string-kinds.r for-clock-string-reads.Post
for_clock_string_one κs a x y e f p q = cc

pub write_one : (κs : Lfts 2) (a : Dens κs write-kinds.ps) (x y : (res_t write-kinds.r κs).Denot) (e f : AtExit (ended_of 2 write-kinds.ps write-kinds.r) κs)
    → write-reads.Post κs a x e → write-reads.Post κs a y f → (x ≡ y) × (e.1.1.1.1.0.now ≡ f.1.1.1.1.0.now)
write_one κs a x y e f p q = (cc, cc)

-- ---- what the trait `ClockString` lets any crate call

pub all_allowed_one : Coincide 1 all-allowed-kinds.ps all-allowed-kinds.r all-allowed-reads.Post
all_allowed_one κs a x y e f p q = cc

pub good_places_one : Coincide 1 good-places-kinds.ps good-places-kinds.r good-places-reads.Post
good_places_one κs a x y e f p q = cc

pub reading_one : Coincide 1 reading-kinds.ps reading-kinds.r reading-reads.Post
reading_one κs a x y e f p q = cc

pub said_fault_one : Coincide 1 said-fault-kinds.ps said-fault-kinds.r said-fault-reads.Post
said_fault_one κs a x y e f p q = cc

pub is_coasting_one : Coincide 1 is-coasting-kinds.ps is-coasting-kinds.r is-coasting-reads.Post
is_coasting_one κs a x y e f p q = cc

-- ---- what the crate's own files call

pub is_bad_one : Coincide 0 is-bad-kinds.ps is-bad-kinds.r is-bad-reads.Post
is_bad_one κs a x y e f p q = cc

pub offset_one : Coincide 0 offset-kinds.ps offset-kinds.r offset-reads.Post
offset_one κs a x y e f p q = cc

pub is_behind_one : Coincide 0 is-behind-kinds.ps is-behind-kinds.r is-behind-reads.Post
is_behind_one κs a x y e f p q = cc

pub minutes_of_one : Coincide 0 minutes-of-kinds.ps minutes-of-kinds.r minutes-of-reads.Post
minutes_of_one κs a x y e f p q = cc
