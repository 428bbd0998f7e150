-- `pulses::tags::good_blocks` meets its contract: after each turn sixteen pulses more are counted. Assumes nothing.
use Prim.Native.Nat.{◌*◌}
use Rattle.pulses.specs.Tags.{CountedTo}
use Rattle.pulses.proofs.tags.good_blocks.Given as goal

abbrev pub invariant-loop-block : goal.invariant-loop-block
invariant-loop-block l = CountedTo l.tags l.pulses (16 * l.block)
