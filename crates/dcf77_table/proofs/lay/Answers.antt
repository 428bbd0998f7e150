-- `dcf77_table::lay` meets its contract: the tags that it lends are the table's own. Assumes nothing.
use borrow.Author.Rules.{rules}
use mathlib.Core.Path.{◌≡◌}
use lib.ListN.{length}
use Rattle.dcf77_table.proofs.SaidLaws.{marks_laid}
use Rattle.dcf77_table.proofs.lay.Goals as goal

pub returns : goal.returns
returns c =
    let a = c.args in
    let h : length a.values ≡ 32 = search rules in
    let both = marks_laid a.long a.values h a.out.now _ _ (rw c.tags_of.ensures at c.lay.ensures.value, rw c.tags_of.ensures at c.lay.ensures.out_after) in record {
      value = both.0;
      out_after = both.1;
    }
