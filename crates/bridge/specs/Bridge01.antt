-- The bridge without L7: 01's, as L1, L3 and L9 amend it, "the IEEE 1344 frame of its reading, coasting dropped". No contract cites
-- it; the way that drops the mark is proved to be it.
use Rattle.strings.specs.Checks.{Answer}
use Rattle.std.specs.Prelude.{cond, List, ◌++◌, ℕ, ltb, length, drop, Err, Ok}
use Rattle.clock_string.specs.Reader.{read_string, whichever}
use Rattle.irig.specs.Offset.{odd_quarter}
use Rattle.irig.specs.Faults.{frame_length}
use Rattle.irig.specs.Writing.{frame_of}
use Rattle.bridge.specs.Bridge.{pending_of}

-- the buffer where there is room
abbrev pub bytes_for01 : Answer → List ℕ → List ℕ
bytes_for01 (Ok (r, coasting)) buffer = cond (odd_quarter r.offset.0) buffer (frame_of (pending_of r) ++ drop frame_length buffer)
bytes_for01 (Err refusal) buffer = buffer

-- what the buffer holds afterwards
unfoldable pub filled01 : ℕ → List ℕ → List ℕ → List ℕ
filled01 base s buffer = cond (ltb (length buffer) frame_length) buffer (bytes_for01 (whichever (read_string base s)) buffer)
