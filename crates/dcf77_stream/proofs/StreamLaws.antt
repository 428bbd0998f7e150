-- Demand 3 for DCF77: after every symbol a fresh reader says what is owed to the symbols that came, and no damage lasts longer than sixty-two symbols.
use mathlib.Core.List.{List, [], ◌++◌}
use mathlib.Core.Path.{◌≡◌}
use Prim.Native.Nat.{ℕ, ◌-◌, ◌≤◌}
use native.Mathlib.Omega.{arith}
use lib.ListN.{length, drop}
use Rattle.streams.specs.Stream.{last_of, fed, said_by, owed_to}
use Rattle.streams.specs.Reader as reader
use Rattle.streams.proofs.Readers as readers
use Rattle.dcf77_stream.specs.declared.Minutes.{Minutes}
use Rattle.dcf77_stream.specs.Said.{PulseReader, kept, kept_by, taken, say_of, owed, answers, Said}
use Rattle.dcf77_stream.specs.Due.{due}

-- once so many symbols have come, a reader keeps the last of them, whatever it kept before
pub keeps_last : (reader : PulseReader) → length reader.ring ≡ kept → (symbols : List ℕ) → kept ≤ length symbols → kept_by (fed taken reader symbols) ≡ last_of kept symbols
keeps_last = readers.keeps_last Minutes kept (omega arith)

-- what a reader says goes by its own base, which it keeps
abbrev pub by_its_base : PulseReader → ℕ → Said
by_its_base = reader.by_its_base Minutes kept say_of

module _ (base : ℕ) where
  -- after every symbol of every stream
  pub fresh_says_owed : (symbols : List ℕ) → answers base symbols ≡ owed_to (owed base) [] symbols
  fresh_says_owed = readers.fresh_says_owed Minutes kept (omega arith) say_of base (owed base) (due base)

  -- any two readers of one base, whatever states they were in when they were fed g and h
  pub any-two_readers : (a b : PulseReader) → a.base ≡ base → b.base ≡ base → length a.ring ≡ kept → length b.ring ≡ kept
      → (g h : List ℕ) → kept ≤ length g → kept ≤ length h → last_of kept g ≡ last_of kept h → (symbols : List ℕ)
      → drop (length g - 1) (said_by taken by_its_base a (g ++ symbols))
      ≡ drop (length h - 1) (said_by taken by_its_base b (h ++ symbols))
  any-two_readers = readers.any-two_readers Minutes kept (omega arith) say_of base

  -- "or last sixty-two symbols for DCF77": from the answer to the last symbol of each on, all is the same
  pub two_readers : (g h : List ℕ) → kept ≤ length g → kept ≤ length h → last_of kept g ≡ last_of kept h → (symbols : List ℕ)
      → drop (length g - 1) (answers base (g ++ symbols)) ≡ drop (length h - 1) (answers base (h ++ symbols))
  two_readers = readers.two_readers Minutes kept (omega arith) say_of base
