-- The position part of a clock string, by what is answered to the string.
use Rattle.std.specs.Prelude.{List, [], ℕ, Err, Ok}
use Rattle.erlangen.specs.Layout.{position_at}
use Rattle.erlangen.specs.Meaning.{position_bytes}
use Rattle.clock_string.specs.declared.Told.TheVariants.{Meinberg, Erlangen}
use Rattle.clock_string.specs.Reader.{read_string, Answer}

-- "A 32-byte string's position part is empty"; of a Uni Erlangen string it is bytes 41..66; "an empty part for a refused string"
abbrev pub position_for : Answer → List ℕ → List ℕ
position_for (Ok (Meinberg r coasting)) s = []
position_for (Ok (Erlangen r coasting)) s = position_bytes s
position_for (Err x) s = []

-- the place of the string at which the part starts; an empty one starts with the string
abbrev pub start_for : Answer → ℕ
start_for (Ok (Meinberg r coasting)) = 0
start_for (Ok (Erlangen r coasting)) = position_at
start_for (Err x) = 0

-- "The position part comes from a call of its own"
unfoldable pub position_of : ℕ → List ℕ → List ℕ
position_of base s = position_for (read_string base s) s
