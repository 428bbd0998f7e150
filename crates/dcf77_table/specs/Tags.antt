-- The tags of a minute's marks: how the work is done. The head has more than eight marks: those from 256 on are the part 21, a number that no
-- group has.
use Rattle.std.specs.Prelude.{Bool, List, map, ℕ}
use Rattle.pulses.specs.Tags.{tag_of}
use Rattle.dcf77_table.specs.Table.{minute_marks}

abbrev pub upper_part : ℕ
upper_part = 21

unfoldable pub tags : Bool → List ℕ
tags long = map (tag_of upper_part) (minute_marks long)
