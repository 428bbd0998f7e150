-- `wire::layout::good_places` meets its contract. Assumes nothing.
use Prim.Native.Nat.{ℕ}
use Rattle.std.proofs.Common.{rules, tests, ◌∙◌}
use Rattle.std.proofs.lemmas.Iterator.{YieldsList-from_slice, YieldsList-from_zip}
use Rattle.std.proofs.lemmas.Iterator.Consumers.{count_from_yields_List}
use Rattle.std.proofs.lemmas.Iterator.Search.{YieldsList-from_take_while}
use Rattle.std.proofs.lemmas.List.Folds.{length-prefix_len}
use Rattle.std.specs.List.{zip}
use Rattle.wire.specs.Layout.{allowed}
use Rattle.wire.proofs.LayoutLaws.{good_prefix}
use Rattle.wire.proofs.layout.good_places.Goals as goal

pub returns : goal.returns
returns c =
    let layout = c.args.layout.now in
    let text = c.args.text.now in
    let fits = λ (e : ℕ × ℕ). allowed e.0 e.1 in
    count_from_yields_List c.take_while.result _ c.count.ensures.ran
    (YieldsList-from_take_while _ fits (YieldsList-from_zip (YieldsList-from_slice layout cc) (YieldsList-from_slice text cc))
    c.take_while.ensures.closure c.take_while.ensures.done (λ x b q k. search (rules, tests)))
    ∙ length-prefix_len fits (zip layout text) ∙ good_prefix layout text
