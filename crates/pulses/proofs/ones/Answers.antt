-- `pulses::ones` meets its contract: the two words count the two parts. Assumes nothing.
use borrow.Author.Rules.{rules}
use native.Mathlib.Omega.{arith}
use Rattle.pulses.proofs.OnesLaws.{ones_of_none, ones_of_two}
use Rattle.pulses.proofs.ones.Goals as goal

pub returns-then-not-lies_within-clause-value : goal.returns-then-not-lies_within-clause-value
returns-then-not-lies_within-clause-value c = ones_of_none _ _ _ (search rules)

pub returns : goal.returns
returns c =
    let a = c.args in
    let both = ones_of_two a.pulses.now a.from a.count c.min-first.result (omega arith) (search rules) (search rules) _ _
    c.packed-high.ensures c.packed-low.ensures in record {
      value = both.0;
      upper_bound = both.1;
    }
