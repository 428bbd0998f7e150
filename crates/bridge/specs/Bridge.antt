-- What the bridge makes of a clock string, whichever it is: its answer, and what the lent buffer then holds. 01's paragraph as L7
-- and L9 amend it: what becomes of the coasting mark is the caller's to name, and an odd quarter does not go over.
use Rattle.strings.specs.Checks.{Answer}
use Rattle.reading.specs.Writing.{Written}
use Rattle.std.specs.Prelude.{Bool, cond, ◌&&◌, List, ◌++◌, ℕ, ltb, length, drop, Err, Ok}
use Rattle.reading.specs.declared.Reading.{Reading}
use Rattle.reading.specs.declared.Fault.TheVariants.{Length, NotCarried}
use Rattle.reading.specs.Faults.{number}
use Rattle.reading.specs.Universal.{utc_of}
use Rattle.reading.specs.Leap.{leap_window, change_window}
use Rattle.clock_string.specs.Reader.{read_string, whichever}
use Rattle.irig.specs.Offset.{odd_quarter}
use Rattle.irig.specs.Faults.{frame_length}
use Rattle.irig.specs.Writing.{frame_of}
use Rattle.bridge.specs.declared.Coasting.{Coasting}
use Rattle.bridge.specs.declared.Coasting.TheVariants.{Worse, Dropped}

-- "Leap pending is set exactly when leap is announced and UTC is 23:59:01..23:59:59 on 30 June or 31 December; change pending
-- exactly when change is announced and local minute is 59, second 1..59. All else of the reading goes over as it is." By L3 the
-- leap pending bit is "allowed at every month end".
unfoldable pub pending_of : Reading → Reading
pending_of r =
    record {
      year = r.year;
      month = r.month;
      day = r.day;
      hour = r.hour;
      minute = r.minute;
      second = r.second;
      offset = r.offset;
      summer = r.summer;
      leap = r.leap && leap_window (utc_of r) r.second;
      change = r.change && change_window r.minute r.second;
      quality = r.quality;
    }

-- L7: "a bridged string with `*` gets quality 15", whatever its own, "unless the caller asks by name for the old way", 01's "coasting
-- dropped". Of a string's mark and its own quality:
unfoldable pub quality_by : Coasting → Bool → ℕ → ℕ
quality_by Worse coasting own = cond coasting 15 own
quality_by Dropped coasting own = own

-- a reading with another quality, and all else as it is
unfoldable pub graded : ℕ → Reading → Reading
graded quality r =
    record {
      year = r.year;
      month = r.month;
      day = r.day;
      hour = r.hour;
      minute = r.minute;
      second = r.second;
      offset = r.offset;
      summer = r.summer;
      leap = r.leap;
      change = r.change;
      quality = quality;
    }

-- what goes over, of a reading and the coasting mark beside it
unfoldable pub carried_by : Coasting → Bool → Reading → Reading
carried_by way coasting r = graded (quality_by way coasting r.quality) (pending_of r)

-- the answer where there is room, whichever way: the string's own refusal; of a string that says a time the length of a frame, but
-- by L9 "an odd quarter at .. the bridge is 11"
abbrev pub answer_for : Answer → Written
answer_for (Ok (r, coasting)) = cond (odd_quarter r.offset.0) (Err (number NotCarried)) (Ok frame_length)
answer_for (Err refusal) = Err refusal

-- the buffer where there is room: the frame before the rest; a refusal leaves it as it was
abbrev pub bytes_for : Coasting → Answer → List ℕ → List ℕ
bytes_for way (Ok (r, coasting)) buffer =
    cond (odd_quarter r.offset.0) buffer (frame_of (carried_by way coasting r) ++ drop frame_length buffer)
bytes_for way (Err refusal) buffer = buffer

-- "The bridge checks output length first." By L1 it "loses its kind argument": the string is read by its length. L7: "Refusals:
-- none", so that the answer does not know the way.
unfoldable pub bridge_answer : ℕ → List ℕ → ℕ → Written
bridge_answer base s room = cond (ltb room frame_length) (Err (number Length)) (answer_for (whichever (read_string base s)))

-- what the buffer holds afterwards
unfoldable pub bridge_filled : Coasting → ℕ → List ℕ → List ℕ → List ℕ
bridge_filled way base s buffer = cond (ltb (length buffer) frame_length) buffer (bytes_for way (whichever (read_string base s)) buffer)
