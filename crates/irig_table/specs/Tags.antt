-- The tags of a frame's pulses: how the work is done. The second of the day has more than eight pulses: those from 256 on are the part 24, and
-- the one of 65536 is the part 25, numbers that no group has.
use Rattle.std.specs.Prelude.{List, map, ℕ, suc}
use Rattle.pulses.specs.Tags.{tag_of}
use Rattle.irig_table.specs.Table.{frame_pulses}

abbrev pub upper_part : ℕ
upper_part = 24

abbrev pub top_part : ℕ
top_part = suc upper_part

unfoldable pub tags : List ℕ
tags = map (tag_of upper_part) frame_pulses
