-- What an IEEE 1344 pulse reader says: of a window of a hundred pulses, and what is owed after all the pulses that came.
use Rattle.std.specs.Prelude.{cond, List, ℕ, leb, length, Option, None, Some}
use Rattle.pulses.specs.Outline.{outline_of}
use Rattle.irig_table.specs.Table.{frame_pulses}
use Rattle.irig.specs.Faults.{read_frame, Answer}
use Rattle.streams.specs.Stream.{last_of}
use Rattle.streams.specs.Reader as reader
use Rattle.streams.specs.declared.PulseReader as of
use Rattle.irig_stream.specs.declared.Frames.{Frames}

-- the pulses that a reader keeps
abbrev pub kept : ℕ
kept = 100

-- its readers
abbrev pub PulseReader : Type 0
PulseReader = of.PulseReader Frames kept

-- a reader that has taken no pulse; L12: it takes the base "once, when it is started"
abbrev pub unfed : ℕ → PulseReader
unfed = reader.unfed Frames kept

-- the pulses that it keeps, the oldest first
abbrev pub kept_by : PulseReader → List ℕ
kept_by = reader.kept_by Frames kept

-- the reader after one pulse more
abbrev pub taken : PulseReader → ℕ → PulseReader
taken = reader.taken Frames kept

-- what is said after a pulse: a time or a refusal, or nothing
abbrev pub Said : Type 0
Said = Option Answer

-- of a window: nothing without outline, else what whole-frame reading says
unfoldable pub say_of : ℕ → List ℕ → Said
say_of base w = cond (outline_of frame_pulses w) (Some (read_frame base w)) None

-- "After every pulse it says what whole-frame reading says of the last hundred pulses. It says nothing where these do not have the frame's outline, or too few have come."
unfoldable pub owed : ℕ → List ℕ → Said
owed base h = cond (leb kept (length h)) (say_of base (last_of kept h)) None

-- all the answers of a fresh reader of this base to the pulses that come, one a pulse, as `step` gives them with the next state
abbrev pub answers : ℕ → List ℕ → List Said
answers = reader.answers Frames kept say_of
