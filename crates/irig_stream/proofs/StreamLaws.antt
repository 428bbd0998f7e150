-- Demand 3 for IEEE 1344: after every pulse a fresh reader says what is owed to the pulses that came, and no damage lasts longer than a hundred pulses.
use mathlib.Core.List.{List, [], ◌++◌}
use mathlib.Core.Path.{◌≡◌}
use Prim.Native.Nat.{ℕ, ◌-◌, ◌≤◌}
use native.Mathlib.Omega.{arith}
use lib.ListN.{length, drop}
use Rattle.streams.specs.Stream.{last_of, fed, said_by, owed_to}
use Rattle.streams.specs.Reader as reader
use Rattle.streams.proofs.Readers as readers
use Rattle.irig_stream.specs.declared.Frames.{Frames}
use Rattle.irig_stream.specs.Said.{PulseReader, kept, kept_by, taken, say_of, owed, answers, Said}
use Rattle.irig_stream.specs.Due.{due}

-- once so many pulses have come, a reader keeps the last of them, whatever it kept before
pub keeps_last : (reader : PulseReader) → length reader.ring ≡ kept → (pulses : List ℕ) → kept ≤ length pulses → kept_by (fed taken reader pulses) ≡ last_of kept pulses
keeps_last = readers.keeps_last Frames kept (omega arith)

-- what a reader says goes by its own base, which it keeps
abbrev pub by_its_base : PulseReader → ℕ → Said
by_its_base = reader.by_its_base Frames kept say_of

module _ (base : ℕ) where
  -- after every pulse of every stream
  pub fresh_says_owed : (pulses : List ℕ) → answers base pulses ≡ owed_to (owed base) [] pulses
  fresh_says_owed = readers.fresh_says_owed Frames kept (omega arith) say_of base (owed base) (due base)

  -- any two readers of one base, whatever states they were in when they were fed g and h
  pub any-two_readers : (a b : PulseReader) → a.base ≡ base → b.base ≡ base → length a.ring ≡ kept → length b.ring ≡ kept
      → (g h : List ℕ) → kept ≤ length g → kept ≤ length h → last_of kept g ≡ last_of kept h → (pulses : List ℕ)
      → drop (length g - 1) (said_by taken by_its_base a (g ++ pulses))
      ≡ drop (length h - 1) (said_by taken by_its_base b (h ++ pulses))
  any-two_readers = readers.any-two_readers Frames kept (omega arith) say_of base

  -- "So two readers whose last hundred pulses agree .. say the same from then on while they are fed alike": from the answer to the last pulse of each on, all is the same
  pub two_readers : (g h : List ℕ) → kept ≤ length g → kept ≤ length h → last_of kept g ≡ last_of kept h → (pulses : List ℕ)
      → drop (length g - 1) (answers base (g ++ pulses)) ≡ drop (length h - 1) (answers base (h ++ pulses))
  two_readers = readers.two_readers Frames kept (omega arith) say_of base
