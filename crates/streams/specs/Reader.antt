-- A reader of a format F that keeps n pulses: fresh, after one pulse more, what it keeps, and all that it says.
use Rattle.std.specs.Prelude.{List, ℕ, ◌+◌, set, replicate}
use Rattle.streams.specs.Stream.{push, place_of, unrolled, said_by}
use Rattle.streams.specs.declared.reader.PulseReader.{PulseReader}

-- what a fresh reader is full of: no pulse
abbrev pub filler : ℕ
filler = 255

module _ (F : Type 0) (n : ℕ) where
  -- a reader that has taken no pulse; it takes the base once, when it is started
  abbrev pub unfed : ℕ → PulseReader F n
  unfed base = record { base = base; ring = replicate n filler; next = 0; of = record {} }

  -- the place of a reader's oldest pulse, which the next one replaces
  abbrev pub oldest_at : PulseReader F n → ℕ
  oldest_at reader = place_of n reader.next

  -- the pulses that it keeps, the oldest first
  unfoldable pub kept_by : PulseReader F n → List ℕ
  kept_by reader = unrolled reader.ring (oldest_at reader)

  -- the reader after one pulse more
  unfoldable pub taken : PulseReader F n → ℕ → PulseReader F n
  taken reader pulse = record {
    base = reader.base;
    ring = set reader.ring (oldest_at reader) pulse;
    next = oldest_at reader + 1;
    of = reader.of;
  }

  module _ {A : Type 0} (say_of : ℕ → List ℕ → A) where
    -- what a reader says to a pulse goes by its own base, which it keeps
    abbrev pub by_its_base : PulseReader F n → ℕ → A
    by_its_base reader pulse = say_of reader.base (push (kept_by reader) pulse)

    -- all the answers of a fresh reader of this base to the pulses that come, one a pulse, as `step` gives them with the next state
    unfoldable pub answers : ℕ → List ℕ → List A
    answers base pulses = said_by taken by_its_base (unfed base) pulses
