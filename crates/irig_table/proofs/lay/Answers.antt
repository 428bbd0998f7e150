-- `irig_table::lay` meets its contract: the tags that it lends are the table's own. Assumes nothing.
use borrow.Author.Rules.{rules}
use mathlib.Core.Path.{◌≡◌, refl}
use lib.ListN.{length}
use Rattle.pulses.specs.Row.{group_of, weight_of}
use Rattle.pulses.proofs.LayingLaws.{tags-laid}
use Rattle.irig_table.specs.Table.{frame_pulses}
use Rattle.irig_table.proofs.SaidLaws.{home, shift, said, says}
use Rattle.irig_table.proofs.lay.Goals as goal

pub returns : goal.returns
unfolding frame_pulses group_of weight_of
returns c =
    let a = c.args in
    let h : length a.values ≡ 32 = search rules in
    let both = tags-laid home shift frame_pulses _ tt refl a.values (said a.values) (says a.values h) a.out.now _ _ (c.lay.ensures.value, c.lay.ensures.out_after) in record {
      value = both.0;
      out_after = both.1;
    }
