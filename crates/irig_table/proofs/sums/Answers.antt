-- `irig_table::sums` meets its contract: the tags that it lends are the table's, and two parts are joined to their group. Assumes nothing.
use native.Mathlib.Omega.{arith}
use Rattle.irig_table.proofs.TagLaws.{column_sums, summed}
use Rattle.irig_table.proofs.sums.Goals as goal

pub overflow_mul-v : goal.overflow_mul-v
overflow_mul-v c = let h = summed _ _ c.sums-v.ensures in record { fits = omega arith }

pub overflow_add-v : goal.overflow_add-v
overflow_add-v c = let h = summed _ _ c.sums-v.ensures in record { fits = omega arith }

pub overflow_mul-v-2 : goal.overflow_mul-v-2
overflow_mul-v-2 c = let h = summed _ _ c.sums-v.ensures in record { fits = omega arith }

pub overflow_add-v-2 : goal.overflow_add-v-2
overflow_add-v-2 c = let h = summed _ _ c.sums-v.ensures in record { fits = omega arith }

pub returns : goal.returns
returns c = column_sums _ _ c.sums-v.ensures
