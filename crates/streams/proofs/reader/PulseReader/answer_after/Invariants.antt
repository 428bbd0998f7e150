-- The loop's invariant: the reader keeps the window of what it took, and said what was owed.
use Rattle.std.proofs.Common.{◌≡◌, take}
use Rattle.streams.specs.Stream.{window_of}
use Rattle.streams.specs.Reader.{filler, kept_by}
use Rattle.streams.proofs.reader.PulseReader.answer_after.Given as goal

abbrev pub invariant-loop-pulse : goal.invariant-loop-pulse
invariant-loop-pulse g l =
    let h = take l.pulse-index l.pulses in record {
      same_base : l.reader.base ≡ l.base;
      keeps : kept_by g.row.F.Denot g.row.N l.reader ≡ window_of g.row.N filler h;
      says : l.said ≡ g.F.Format.owed l.base h;
    }
