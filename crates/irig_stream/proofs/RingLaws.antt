-- What an IEEE 1344 reader keeps, fresh and after one pulse more.
use mathlib.Core.Path.{◌≡◌}
use Prim.Native.Nat.{ℕ}
use native.Mathlib.Omega.{arith}
use lib.ListN.{length, replicate}
use Rattle.streams.specs.Stream.{push}
use Rattle.streams.specs.Reader.{filler}
use Rattle.streams.proofs.Readers as readers
use Rattle.irig_stream.specs.declared.Frames.{Frames}
use Rattle.irig_stream.specs.Said.{PulseReader, kept, unfed, kept_by, taken}

pub kept_fresh : (base : ℕ) → kept_by (unfed base) ≡ replicate kept filler
kept_fresh = readers.kept_fresh Frames kept

pub kept_taken : (reader : PulseReader) (p : ℕ) → length (kept_by reader) ≡ kept → kept_by (taken reader p) ≡ push (kept_by reader) p
kept_taken = readers.kept_taken Frames kept (omega arith)
