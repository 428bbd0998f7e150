-- `dcf77_table::tags_of` meets its contract: the tags are the tables' own. Assumes nothing.
use Rattle.pulses.specs.Row.{group_of, weight_of}
use Rattle.pulses.specs.Tags.{total, part_of, digit_at, tag_of}
use Rattle.dcf77_table.specs.Table.{shared_marks, last_marks, minute_marks}
use Rattle.dcf77_table.specs.Tags.{tags}
use Rattle.dcf77_table.proofs.tags_of.Goals as goal

pub returns-then-long : goal.returns-then-long
unfolding digit_at group_of last_marks minute_marks part_of shared_marks tag_of tags total weight_of
returns-then-long c = rw c.if-long.true

pub returns-else-long : goal.returns-else-long
unfolding digit_at group_of last_marks minute_marks part_of shared_marks tag_of tags total weight_of
returns-else-long c = rw c.if-long.false
