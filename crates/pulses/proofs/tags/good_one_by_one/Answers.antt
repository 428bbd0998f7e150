-- `pulses::tags::good_one_by_one` meets its contract: what is counted is the pairs before the first that does not fit. Assumes nothing.
use Prim.Native.Nat.{ℕ}
use Rattle.std.proofs.Common.{rules, tests, ◌∙◌}
use Rattle.std.proofs.lemmas.Iterator.{YieldsList-from_slice, YieldsList-from_zip}
use Rattle.std.proofs.lemmas.Iterator.Consumers.{count_from_yields_List}
use Rattle.std.proofs.lemmas.Iterator.Search.{YieldsList-from_take_while}
use Rattle.std.proofs.lemmas.List.Folds.{length-prefix_len}
use Rattle.std.specs.List.{zip}
use Rattle.pulses.specs.Row.{pulse_allowed}
use Rattle.pulses.specs.Tags.{entry_of}
use Rattle.pulses.proofs.TagLaws.{good_prefix}
use Rattle.pulses.proofs.tags.good_one_by_one.Goals as goal

pub returns : goal.returns
returns c =
    let tags = c.args.tags.now in
    let pulses = c.args.pulses.now in
    let fits = λ (e : ℕ × ℕ). pulse_allowed (entry_of e.0) e.1 in
    count_from_yields_List c.take_while.result _ c.count.ensures.ran
    (YieldsList-from_take_while _ fits (YieldsList-from_zip (YieldsList-from_slice tags cc) (YieldsList-from_slice pulses cc))
    c.take_while.ensures.closure c.take_while.ensures.done (λ x b q k. search (rules, tests)))
    ∙ length-prefix_len fits (zip tags pulses) ∙ good_prefix tags pulses
