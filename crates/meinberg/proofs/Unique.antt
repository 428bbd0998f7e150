-- Any two answers that a public function's contract allows coincide, and so do the bytes that it leaves in a lent buffer. Over the contracts themselves.
use mathlib.Core.Path.{◌≡◌}
use borrow.Fn.Kinds.{Dens, res_t, ended_of}
use contract.Lifetimes.{Lfts}
use denote.Triple.Clauses.{AtExit}
use Rattle.laws.proofs.Coincide.{Coincide}
use Rattle.meinberg.proofs.read.for_clock_string.Kinds as for-clock-string-kinds
use Rattle.meinberg.proofs.read.for_clock_string.Reads as for-clock-string-reads
use Rattle.meinberg.proofs.read.MeinbergClockString.all_allowed.Kinds as all-allowed-kinds
use Rattle.meinberg.proofs.read.MeinbergClockString.all_allowed.Reads as all-allowed-reads
use Rattle.meinberg.proofs.read.MeinbergClockString.good_places.Kinds as good-places-kinds
use Rattle.meinberg.proofs.read.MeinbergClockString.good_places.Reads as good-places-reads
use Rattle.meinberg.proofs.read.MeinbergClockString.reading.Kinds as reading-kinds
use Rattle.meinberg.proofs.read.MeinbergClockString.reading.Reads as reading-reads
use Rattle.meinberg.proofs.read.MeinbergClockString.said_fault.Kinds as said-fault-kinds
use Rattle.meinberg.proofs.read.MeinbergClockString.said_fault.Reads as said-fault-reads
use Rattle.meinberg.proofs.read.MeinbergClockString.is_coasting.Kinds as is-coasting-kinds
use Rattle.meinberg.proofs.read.MeinbergClockString.is_coasting.Reads as is-coasting-reads
use Rattle.meinberg.proofs.Meinberg.write.Kinds as write-kinds
use Rattle.meinberg.proofs.Meinberg.write.Reads as write-reads
use Rattle.meinberg.proofs.write.into.Kinds as into-kinds
use Rattle.meinberg.proofs.write.into.Reads as into-reads
use Rattle.meinberg.proofs.zones.offset_of.Kinds as offset-of-kinds
use Rattle.meinberg.proofs.zones.offset_of.Reads as offset-of-reads
use Rattle.meinberg.proofs.zones.summer_of.Kinds as summer-of-kinds
use Rattle.meinberg.proofs.zones.summer_of.Reads as summer-of-reads
use Rattle.meinberg.proofs.zones.zone_carried.Kinds as zone-carried-kinds
use Rattle.meinberg.proofs.zones.zone_carried.Reads as zone-carried-reads
use Rattle.meinberg.proofs.zones.zone_letter.Kinds as zone-letter-kinds
use Rattle.meinberg.proofs.zones.zone_letter.Reads as zone-letter-reads

pub for_clock_string_one : Coincide 1 for-clock-string-kinds.ps for-clock-string-kinds.r for-clock-string-reads.Post
for_clock_string_one κs a x y e f p q = cc

pub write_one : (κs : Lfts 1) (a : Dens κs write-kinds.ps) (x y : (res_t write-kinds.r κs).Denot) (e f : AtExit (ended_of 1 write-kinds.ps write-kinds.r) κs)
    → write-reads.Post κs a x e → write-reads.Post κs a y f → (x ≡ y) × (e.1.1.1.0.now ≡ f.1.1.1.0.now)
write_one κs a x y e f p q = (cc, cc)

-- ---- what the trait `ClockString` lets any crate call

pub all_allowed_one : Coincide 1 all-allowed-kinds.ps all-allowed-kinds.r all-allowed-reads.Post
all_allowed_one κs a x y e f p q = cc

pub good_places_one : Coincide 1 good-places-kinds.ps good-places-kinds.r good-places-reads.Post
good_places_one κs a x y e f p q = cc

pub reading_one : Coincide 1 reading-kinds.ps reading-kinds.r reading-reads.Post
reading_one κs a x y e f p q = cc

pub said_fault_one : Coincide 1 said-fault-kinds.ps said-fault-kinds.r said-fault-reads.Post
said_fault_one κs a x y e f p q = cc

pub is_coasting_one : Coincide 1 is-coasting-kinds.ps is-coasting-kinds.r is-coasting-reads.Post
is_coasting_one κs a x y e f p q = cc

-- ---- what the crate's own files call

pub into_one : (κs : Lfts 1) (a : Dens κs into-kinds.ps) (x y : (res_t into-kinds.r κs).Denot) (e f : AtExit (ended_of 1 into-kinds.ps into-kinds.r) κs)
    → into-reads.Post κs a x e → into-reads.Post κs a y f → (x ≡ y) × (e.1.1.1.0.now ≡ f.1.1.1.0.now)
into_one κs a x y e f p q = (cc, cc)

pub offset_of_one : Coincide 0 offset-of-kinds.ps offset-of-kinds.r offset-of-reads.Post
offset_of_one κs a x y e f p q = cc

pub summer_of_one : Coincide 0 summer-of-kinds.ps summer-of-kinds.r summer-of-reads.Post
summer_of_one κs a x y e f p q = cc

pub zone_carried_one : Coincide 0 zone-carried-kinds.ps zone-carried-kinds.r zone-carried-reads.Post
zone_carried_one κs a x y e f p q = cc

pub zone_letter_one : Coincide 0 zone-letter-kinds.ps zone-letter-kinds.r zone-letter-reads.Post
zone_letter_one κs a x y e f p q = cc
