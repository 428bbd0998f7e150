-- What every writer answers, and what the lent buffer then holds.
use Rattle.std.specs.Prelude.{List, ◌++◌, ℕ, length, drop, Result, Err, Ok}
use Rattle.reading.specs.declared.Refusal.{Refusal}
use Rattle.reading.specs.Faults.{number, Verdict}

-- a fault of the first checks, else one of those that come after them
abbrev pub and_then : Verdict → Verdict → Verdict
and_then (Ok done) rest = rest
and_then (Err fault) rest = Err fault

-- what a writer answers: how many bytes it wrote, or why it wrote none
abbrev pub Written : Type 0
Written = Result ℕ Refusal

-- "its answer is the length written"
abbrev pub written_of : Verdict → ℕ → Written
written_of (Ok done) n = Ok n
written_of (Err fault) n = Err (number fault)

-- "Success writes the format's bytes from the start of the buffer and no others"; a refusal leaves it as it was
abbrev pub filled : Verdict → List ℕ → List ℕ → List ℕ
filled (Ok done) bytes buffer = bytes ++ drop (length bytes) buffer
filled (Err fault) bytes buffer = buffer
