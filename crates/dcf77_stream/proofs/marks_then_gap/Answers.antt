-- `dcf77_stream::marks_then_gap` meets its contract.
use Rattle.std.proofs.Common.{ℕ, ◌<◌, ◌↔◌, length, get_or, IsTrue, sym, ap, ◌∙◌, rules}
use mathlib.Core.Bool.{Bool, ◌&&◌, and-true, and-false}
use borrow.Author.Tests.{eq-eqb, ne_eqb}
use Rattle.dcf77_stream.specs.Said.{marks_then_gap}
use Rattle.dcf77_stream.specs.Ending.{all_marks}
use Rattle.dcf77_stream.proofs.SymbolLaws.{closed, tests_marks, no_symbols}
use Rattle.dcf77_stream.proofs.marks_then_gap.Goals as goal

pub returns-then-closes : goal.returns-then-closes
returns-then-closes c =
    let front = c.in-Some.marks.now in
    let last = c.in-Some.last.now in
    let each : IsTrue c.all.result ↔ ((k : ℕ) → k < length front → get_or front k 0 < 2) = search rules in
    let gap = ap (λ (b : Bool). all_marks front && b) (eq-eqb last 2 c.if-closes.true) ∙ and-true (all_marks front) in
    tests_marks front c.all.result each ∙ sym (ap marks_then_gap c.in-Some.ensures.cases.0 ∙ closed front last ∙ gap)

pub returns-else-closes : goal.returns-else-closes
returns-else-closes c =
    let front = c.in-Some.marks.now in
    let last = c.in-Some.last.now in
    let other = ne_eqb last 2 c.if-closes.false in
    let none = ap (λ (b : Bool). all_marks front && b) other ∙ and-false (all_marks front) in
    other ∙ sym (ap marks_then_gap c.in-Some.ensures.cases.0 ∙ closed front last ∙ none)

pub returns-in-None : goal.returns-in-None
returns-in-None c = no_symbols c.args.symbols.now c.in-None.ensures.cases
