-- `dcf77_table::sums` meets its contract: the upper part is joined to the head. Assumes nothing.
use native.Mathlib.Omega.{arith}
use Rattle.dcf77_table.proofs.TagLaws.{marks_sums, two_small}
use Rattle.dcf77_table.proofs.sums.Goals as goal

pub overflow_mul-v : goal.overflow_mul-v
overflow_mul-v c = let h = two_small _ _ _ (rw c.tags_of.ensures at c.sums-v.ensures) in record { fits = omega arith }

pub overflow_add-v : goal.overflow_add-v
overflow_add-v c = let h = two_small _ _ _ (rw c.tags_of.ensures at c.sums-v.ensures) in record { fits = omega arith }

pub returns : goal.returns
returns c = marks_sums _ _ _ (rw c.tags_of.ensures at c.sums-v.ensures)
