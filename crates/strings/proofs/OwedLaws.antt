-- What is promised of the verdict on a string is promised of the answer.
use Rattle.reading.specs.Faults.{Verdict}
use Rattle.std.specs.Prelude.{Err, Ok}
use mathlib.Core.Bool.{Bool}
use mathlib.Core.List.{List}
use Prim.Native.Nat.{ℕ}
use Rattle.reading.specs.declared.Reading.{Reading}
use Rattle.reading.specs.Refusals.{Objection}
use Rattle.reading.proofs.RefusalLaws.{VerdictOwed}
use Rattle.strings.specs.Checks.{answer_of, AnswerOwed}

pub answer_owed : (l : List Objection) (codes : List ℕ) (v : Verdict) (r : Reading) (coasting : Bool)
    → VerdictOwed l codes v → AnswerOwed l codes (answer_of v r coasting)
answer_owed l codes (Ok done) r coasting p = p
answer_owed l codes (Err x) r coasting p = p
