-- `irig_table::groups::group_at` meets its contract: the table in the code is that of the fields and factors. Assumes nothing.
use Rattle.std.proofs.Common.{rules, get_or, ◌≡◌, ◌∙◌}
use Rattle.irig_table.specs.declared.groups.TheConstants.{BY_GROUP, NO_FIELD}
use Rattle.irig_table.proofs.PaperLaws.{group_is}
use Rattle.irig_table.proofs.groups.group_at.Goals as goal

found : (c : goal.After-unwrap_or) → c.unwrap_or.result ≡ get_or BY_GROUP c.args.group NO_FIELD
found c = search rules

pub returns-clause-value : goal.returns-clause-value
returns-clause-value c = found c ∙ group_is c.args.group
