-- What a DCF77 reader keeps, fresh and after one symbol more.
use mathlib.Core.Path.{◌≡◌}
use Prim.Native.Nat.{ℕ}
use native.Mathlib.Omega.{arith}
use lib.ListN.{length, replicate}
use Rattle.streams.specs.Stream.{push}
use Rattle.streams.specs.Reader.{filler}
use Rattle.streams.proofs.Readers as readers
use Rattle.dcf77_stream.specs.declared.Minutes.{Minutes}
use Rattle.dcf77_stream.specs.Said.{PulseReader, kept, unfed, kept_by, taken}

pub kept_fresh : (base : ℕ) → kept_by (unfed base) ≡ replicate kept filler
kept_fresh = readers.kept_fresh Minutes kept

pub kept_taken : (reader : PulseReader) (p : ℕ) → length (kept_by reader) ≡ kept → kept_by (taken reader p) ≡ push (kept_by reader) p
kept_taken = readers.kept_taken Minutes kept (omega arith)
