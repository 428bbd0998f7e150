-- The reader of clock strings, L1: "one that goes by length: 32 is Meinberg, 68 is Uni Erlangen, and the answer names which."
use Rattle.clock_string.specs.declared.Told.{Told}
use Rattle.reading.specs.declared.Reading.{Reading}
use Rattle.reading.specs.declared.Refusal.{Refusal}
use Rattle.strings.specs.Checks.{Answer as Said}
use Rattle.std.specs.Prelude.{Bool, cond, ◌||◌, List, ℕ, eqb, length, Err, Ok, Result}
use Rattle.reading.specs.declared.Fault.TheVariants.{Length}
use Rattle.reading.specs.Faults.{number}
use Rattle.meinberg.specs.Layout.{text_length}
use Rattle.meinberg.specs.Meaning.{read_meinberg}
use Rattle.erlangen.specs.Layout.{size}
use Rattle.erlangen.specs.Meaning.{read_erlangen}
use Rattle.clock_string.specs.declared.Told.TheVariants.{Meinberg, Erlangen}

-- the time of a Meinberg string or of a Uni Erlangen string, or why there is none
abbrev pub Answer : Type 0
Answer = Result Told Refusal

-- "the answer names which": what a Meinberg string says
abbrev pub as_meinberg : Said → Answer
as_meinberg (Ok (r, coasting)) = Ok (Meinberg r coasting)
as_meinberg (Err x) = Err x

-- and what a Uni Erlangen string says
abbrev pub as_erlangen : Said → Answer
as_erlangen (Ok (r, coasting)) = Ok (Erlangen r coasting)
as_erlangen (Err x) = Err x

-- one of the two lengths
abbrev pub is_length : ℕ → Bool
is_length n = eqb n text_length || eqb n size

-- "32 is Meinberg, 68 is Uni Erlangen"; "any other length is code 1, as before"
unfoldable pub read_string : ℕ → List ℕ → Answer
read_string base s =
    cond (eqb (length s) text_length) (as_meinberg (read_meinberg base s))
    (cond (eqb (length s) size) (as_erlangen (read_erlangen base s)) (Err (number Length)))

-- the time with its coasting mark, whichever string says it
abbrev pub timed : Told → Reading × Bool
timed (Meinberg r coasting) = (r, coasting)
timed (Erlangen r coasting) = (r, coasting)

abbrev pub whichever : Answer → Said
whichever (Ok told) = Ok (timed told)
whichever (Err x) = Err x
