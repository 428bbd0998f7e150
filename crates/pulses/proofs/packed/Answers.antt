-- `pulses::packed` meets its contract: after i turns the word holds i pulses. Assumes nothing.
use Rattle.pulses.proofs.OnesLaws.{packs_none, packs_more}
use Rattle.pulses.proofs.packed.Goals as goal

pub loop-pulse-init : goal.loop-pulse-init
loop-pulse-init c = packs_none _

pub loop-pulse-preserved : goal.loop-pulse-preserved
loop-pulse-preserved c = packs_more _ _ _ _ c.loop-pulse.invariant c.from.ensures
