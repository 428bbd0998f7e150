-- `irig_table::entry_at` meets its contract: the entry is looked up in the code's table, which is the paper's. Assumes nothing.
use Rattle.std.proofs.Common.{rules, get_or, ◌≡◌}
use Rattle.irig_table.specs.Table.{frame_pulses}
use Rattle.irig_table.specs.declared.TheConstants.{PULSES}
use Rattle.irig_table.proofs.entry_at.Goals as goal

found : (c : goal.After-unwrap_or) → c.unwrap_or.result ≡ get_or PULSES c.args.place 0
found c = search rules

pub returns : goal.returns
unfolding frame_pulses
returns c = found c
