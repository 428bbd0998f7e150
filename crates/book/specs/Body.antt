-- The body of a record: how long its kind makes it, what its reader says of it, and the record that this gives.
use Rattle.reading.specs.declared.Reading.{Reading}
use Rattle.reading.specs.declared.Refusal.{Refusal}
use Rattle.reading.specs.declared.Fault.{Fault}
use Rattle.reading.specs.declared.Fault.TheVariants.{UnknownKind}
use Rattle.std.specs.Prelude.{cond, ◌||◌, ◌≡◌, List, ℕ, eqb, Result, Err, Ok, MatchResult}
use Rattle.meinberg.specs.Layout.{text_length}
use Rattle.erlangen.specs.Layout.{size}
use Rattle.clock_string.specs.Reader.{timed, read_string, Answer as StringAnswer}
use Rattle.irig.specs.Faults.{frame_length, read_frame}
use Rattle.dcf77.specs.Forms.{short_length, long_length}
use Rattle.dcf77.specs.Reader.{read_dcf77, Answer as MinuteAnswer}
use Rattle.book.specs.declared.body.Kind.{Kind}
use Rattle.book.specs.declared.body.Kind.TheVariants.{Meinberg as OfMeinberg, Erlangen as OfErlangen, Frame, Minute, LongMinute}
use Rattle.book.specs.declared.Record.{Record}

-- "1 Meinberg 32, 2 Uni Erlangen 68, 3 IEEE 1344 100, 4 DCF77 60, 5 DCF77 61"; 0 for an unknown kind
unfoldable pub body_length : ℕ → ℕ
body_length kind =
    cond (eqb kind 1) text_length
    (cond (eqb kind 2) size (cond (eqb kind 3) frame_length (cond (eqb kind 4) short_length (cond (eqb kind 5) long_length 0))))

-- what the reader of a body says of it: its time, or why there is none
abbrev pub Said : Type 0
Said = Result Reading Refusal

-- the byte of kind that stands for a kind
abbrev pub byte_of : Kind → ℕ
byte_of OfMeinberg = 1
byte_of OfErlangen = 2
byte_of Frame = 3
byte_of Minute = 4
byte_of LongMinute = 5

-- the kind that a byte stands for, or that it is "unknown kind"
abbrev pub Names : ℕ → Result Kind Fault → Type 0
Names byte found = MatchResult found (λ kind. byte_of kind ≡ byte) (λ fault. (fault ≡ UnknownKind) × (body_length byte ≡ 0))

-- the time without the coasting mark that stands beside it; which string it is, the kind says
abbrev pub of_string : StringAnswer → Said
of_string (Ok told) = Ok (timed told).0
of_string (Err x) = Err x

-- the time without the head that stands beside it
abbrev pub of_minute : MinuteAnswer → Said
of_minute (Ok (r, head)) = Ok r
of_minute (Err x) = Err x

-- what the reader of the kind says of a body; both clock strings have one reader, and so have both lengths of DCF77
unfoldable pub read_body : ℕ → ℕ → List ℕ → Said
read_body base kind s =
    cond (eqb kind 1 || eqb kind 2) (of_string (read_string base s))
    (cond (eqb kind 3) (read_frame base s) (of_minute (read_dcf77 base s)))

-- a record whose body its reader takes, with the reading; a stamp it need not have ("12 means UTC before 1990 or after 2099")
abbrev pub accepted : ℕ → Reading → Record
accepted kind r = record { kind = kind; said = Ok r }

-- a record that is refused, by the reader's own code and place or the book's
abbrev pub refused : ℕ → Refusal → Record
refused kind x = record { kind = kind; said = Err x }

-- what its reader says of a body, with the kind
abbrev pub record_of : ℕ → Said → Record
record_of kind said = record { kind = kind; said = said }
