-- `pulses::tags::octets` meets its contract: each part is read off its cells. Assumes nothing.
use Rattle.std.proofs.Common.{rules, tests}
use Rattle.pulses.specs.Tags.{cells_say}
use Rattle.pulses.proofs.SumLaws.{up_to_each}
use Rattle.pulses.proofs.tags.octets.Goals as goal

pub returns : goal.returns
returns c =
    let each = c.from_fn.ensures.items in
    up_to_each (cells_say c.args.cells.now) 32 c.from_fn.result each.long
    (λ i h. let k = (each.at i 0 h).2 in search (rules, tests))
