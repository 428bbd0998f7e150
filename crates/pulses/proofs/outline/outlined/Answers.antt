-- `pulses::outline::outlined` meets its contract: the outline of two rows of one length is that of each pair. Assumes nothing.
use borrow.Author.Rules.{rules}
use mathlib.Core.Path.{◌≡◌, sym, ◌∙◌}
use Prim.Native.Nat.{ℕ}
use borrow.Author.Tests.{ne_eqb}
use Rattle.std.specs.List.{list_all, zip}
use Rattle.std.proofs.Common.{tests}
use Rattle.std.proofs.lemmas.Iterator.{YieldsList-from_zip, YieldsList-from_slice}
use Rattle.std.proofs.lemmas.Iterator.Search.{all_from_yields_List}
use Rattle.pulses.specs.Outline.{in_outline}
use Rattle.pulses.proofs.OutlineLaws.{no_outline, outline_pairs}
use Rattle.pulses.proofs.outline.outlined.Goals as goal

pub returns-then-pulses-table : goal.returns-then-pulses-table
returns-then-pulses-table c =
    let h : c.all.result ≡ list_all (λ (p : ℕ × ℕ). in_outline p.0 p.1) (zip c.args.table.now c.args.pulses.now) =
    all_from_yields_List (λ (p : ℕ × ℕ). in_outline p.0 p.1) c.all.new.self _ c.all.result c.all.ensures.ran
    (YieldsList-from_zip (YieldsList-from_slice c.args.table.now (cc)) (YieldsList-from_slice c.args.pulses.now (cc)))
    (λ x b q k. search (rules, tests)) in
    h ∙ outline_pairs _ _ c.if-pulses-table.true

pub returns-else-pulses-table : goal.returns-else-pulses-table
returns-else-pulses-table c = rw (ne_eqb _ _ c.if-pulses-table.false) (sym (no_outline _ _ c.if-pulses-table.false))
