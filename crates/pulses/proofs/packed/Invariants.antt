-- `pulses::packed` meets its contract: after i turns the word holds i pulses. Assumes nothing.
use Rattle.pulses.proofs.OnesLaws.{Packs}
use Rattle.pulses.proofs.packed.Given as goal

abbrev pub invariant-loop-pulse : goal.invariant-loop-pulse
invariant-loop-pulse l = Packs l.pulses l.pulse-index l.word
