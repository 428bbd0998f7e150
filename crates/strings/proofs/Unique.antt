-- Of each public function of `strings`: any two answers that its contract allows coincide.
use Rattle.laws.proofs.Coincide.{Coincide}
use Rattle.strings.proofs.fault_of.Kinds as fault-of-kinds
use Rattle.strings.proofs.fault_of.Reads as fault-of-reads
use Rattle.strings.proofs.reader.for_clock_string.Kinds as for-clock-string-kinds
use Rattle.strings.proofs.reader.for_clock_string.Reads as for-clock-string-reads
use Rattle.strings.proofs.letters.mark.Kinds as mark-kinds
use Rattle.strings.proofs.letters.mark.Reads as mark-reads
use Rattle.strings.proofs.letters.quality_of.Kinds as quality-of-kinds
use Rattle.strings.proofs.letters.quality_of.Reads as quality-of-reads
use Rattle.strings.proofs.letters.quality_unshown.Kinds as quality-unshown-kinds
use Rattle.strings.proofs.letters.quality_unshown.Reads as quality-unshown-reads

pub fault_of_one : Coincide 0 fault-of-kinds.ps fault-of-kinds.r fault-of-reads.Post
fault_of_one κs a x y e f p q = cc

pub mark_one : Coincide 0 mark-kinds.ps mark-kinds.r mark-reads.Post
mark_one κs a x y e f p q = cc

pub quality_of_one : Coincide 0 quality-of-kinds.ps quality-of-kinds.r quality-of-reads.Post
quality_of_one κs a x y e f p q = cc

pub quality_unshown_one : Coincide 0 quality-unshown-kinds.ps quality-unshown-kinds.r quality-unshown-reads.Post
quality_unshown_one κs a x y e f p q = cc

-- at any format: its type, with what its own trait says of it
pub for_clock_string_one : (t : _) (laws : _) (says : _) (code : _)
    → Coincide 2 (for-clock-string-kinds.ps t laws) (for-clock-string-kinds.r t laws) (for-clock-string-reads.Post t laws says code)
for_clock_string_one t laws says code κs a x y e f p q = cc
