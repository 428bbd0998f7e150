-- The stamp of a record, a step above the walk: the book's records are what the readers say, and their stamps what is listed.
use Rattle.std.specs.Prelude.{ℕ, Err, Ok}
use Rattle.reading.specs.declared.Since2000.{Since2000}
use Rattle.reading.specs.declared.Refusal.{Refusal}
use Rattle.reading.specs.Stamps.{stamp_of, Stamp}
use Rattle.book.specs.declared.Record.{Record}
use Rattle.book.specs.declared.Stamping.{Stamping}
use Rattle.book.specs.Body.{Said}

-- a record that is listed with its stamp, and one that is listed with a refusal
abbrev pub stamped : ℕ → Since2000 → Stamping
stamped kind n = record { kind = kind; stamp = Ok n }

abbrev pub unstamped : ℕ → Refusal → Stamping
unstamped kind x = record { kind = kind; stamp = Err x }

-- the stamp of an accepted body, or why it has none; a body's own refusal
abbrev pub stamp_said : ℕ → Said → Stamp
stamp_said base (Ok r) = stamp_of base r
stamp_said base (Err x) = Err x

-- "`ok` with stamp and 0, or `no` with code and place. An accepted body whose stamp is refused is listed as `no 12 0`."
abbrev pub stamping_of : ℕ → Record → Stamping
stamping_of base found = record { kind = found.kind; stamp = stamp_said base found.said }
