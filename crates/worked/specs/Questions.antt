-- What a worked case asks, and what the written definitions answer: those that the contracts of readers, writers, stamping, the
-- bridge, the sender and the listing cite.
use Rattle.reading.specs.Faults.{Verdict}
use Rattle.std.specs.Prelude.{Bool, List, ℕ, suc, ℤ, pos, negsuc, length, Err, Ok}
use Rattle.calendar.specs.declared.Date.{Date}
use Rattle.calendar.specs.Calendar.{weekday_of}
use Rattle.reading.specs.declared.Reading.{Reading}
use Rattle.reading.specs.Years.{usual_base}
use Rattle.reading.specs.Stamps.{stamp_of, Stamp}
use Rattle.reading.specs.Writing.{written_of, filled, Written}
use Rattle.clock_string.specs.declared.Told.TheVariants as string
use Rattle.clock_string.specs.Reader.{read_string, Answer as StringAnswer}
use Rattle.clock_string.specs.Position.{position_of}
use Rattle.meinberg.specs.Layout.{text_length}
use Rattle.meinberg.specs.Writing.{bytes_of as meinbergBytes, write_fault as meinbergFault}
use Rattle.erlangen.specs.Layout.{size}
use Rattle.erlangen.specs.Writing.{bytes_of as erlangenBytes, write_fault as erlangenFault}
use Rattle.irig.specs.Faults.{frame_length, read_frame, Answer as FrameAnswer}
use Rattle.irig.specs.Writing.{frame_of, write_fault as frameFault}
use Rattle.dcf77.specs.Forms.{length_of, due_long}
use Rattle.dcf77.specs.Reader.{read_dcf77, Answer as MinuteAnswer}
use Rattle.dcf77.specs.Writer.{bytes_of as minuteBytes, write_fault as minuteFault}
use Rattle.bridge.specs.declared.Coasting.{Coasting}
use Rattle.bridge.specs.declared.Coasting.TheVariants.{Worse}
use Rattle.bridge.specs.Bridge.{bridge_answer, bridge_filled}
use Rattle.summer.specs.declared.SetDay.{SetDay}
use Rattle.summer.specs.Changes.{change_date}
use Rattle.telegram.specs.declared.Sent.{Sent}
use Rattle.telegram.specs.declared.Sender.{Sender}
use Rattle.telegram.specs.Telegram.{telegram_reading}
use Rattle.telegram.specs.Faults.{telegram_fault}
use Rattle.listing.specs.Listing.{listing}

pub data Question : Type 0 where
  -- the weekday of a date
  weekday : Date → Question
  -- the stamp of a reading, and that of what a clock string says
  stamp : Reading → Question
  stamp_of_string : List ℕ → Question
  -- what the reader of clock strings, of frames and of minutes answers to the bytes given
  clock_string : List ℕ → Question
  pulses : List ℕ → Question
  marks : List ℕ → Question
  -- the position part of a clock string
  position_part : List ℕ → Question
  -- what the writer of each format does with a reading and a lent buffer: beside the reading a coasting mark, a coasting mark
  -- and a position part, nothing, or a head
  to_meinberg : Reading → Bool → List ℕ → Question
  to_erlangen : Reading → Bool → List ℕ → List ℕ → Question
  to_pulses : Reading → List ℕ → Question
  to_marks : Reading → ℕ → List ℕ → Question
  -- what the bridge does with a clock string and a lent buffer, with what becomes of the coasting mark
  bridged_with : Coasting → List ℕ → List ℕ → Question
  -- the day of a year that a set day of a rule stands for
  change_on : SetDay → ℕ → Question
  -- what a sender does with a minute that is being sent, a head and a lent buffer
  telegram : Sender → Sent → ℕ → List ℕ → Question
  -- the listing of a book
  listed : List ℕ → Question
  -- any of these with a base; without one it is 2000
  with_base : ℕ → Question → Question

-- the same where nothing is named
abbrev pub bridged : List ℕ → List ℕ → Question
bridged s out = bridged_with Worse s out

pub data Answer : Type 0 where
  day : ℕ → Answer
  date : ℕ → ℕ → ℕ → Answer
  -- a stamp, and one that lies so far before 0
  stamped : ℕ → Answer
  stamped_before : ℕ → Answer
  -- a reading, alone, or with the coasting mark of the string that is named or with the head beside it
  told : Reading → Answer
  told_meinberg : Reading → Bool → Answer
  told_erlangen : Reading → Bool → Answer
  told_minute : Reading → ℕ → Answer
  -- a code and a place
  refused : ℕ → ℕ → Answer
  -- how many bytes were written, or by which code and place none were, and what the buffer then holds
  wrote : ℕ → List ℕ → Answer
  wrote_none : ℕ → ℕ → List ℕ → Answer
  -- a text or a part of one, byte by byte
  text : List ℕ → Answer

-- ---- the answers of the crates, one by one

abbrev pub of_date : Date → Answer
of_date t = date t.year t.month t.day

abbrev pub of_number : ℤ → Answer
of_number (pos n) = stamped n
of_number (negsuc n) = stamped_before (suc n)

abbrev pub of_stamp : Stamp → Answer
of_stamp (Ok v) = of_number v.0
of_stamp (Err x) = refused x.code x.place

abbrev pub of_string : StringAnswer → Answer
of_string (Ok (string.Meinberg r coasting)) = told_meinberg r coasting
of_string (Ok (string.Erlangen r coasting)) = told_erlangen r coasting
of_string (Err x) = refused x.code x.place

-- the stamp of a string's answer; a refused string has its own refusal
abbrev pub stamp_of_answer : ℕ → StringAnswer → Answer
stamp_of_answer base (Ok (string.Meinberg r coasting)) = of_stamp (stamp_of base r)
stamp_of_answer base (Ok (string.Erlangen r coasting)) = of_stamp (stamp_of base r)
stamp_of_answer base (Err x) = refused x.code x.place

abbrev pub of_frame : FrameAnswer → Answer
of_frame (Ok r) = told r
of_frame (Err x) = refused x.code x.place

abbrev pub of_minute : MinuteAnswer → Answer
of_minute (Ok (r, head)) = told_minute r head
of_minute (Err x) = refused x.code x.place

abbrev pub of_written : Written → List ℕ → Answer
of_written (Ok n) after = wrote n after
of_written (Err x) after = wrote_none x.code x.place after

-- a writer that found this verdict, whose format has this length and these bytes, and a buffer
abbrev pub after_writing : Verdict → ℕ → List ℕ → List ℕ → Answer
after_writing v n bytes out = of_written (written_of v n) (filled v bytes out)

-- ---- the written definitions' answer, with a base

unfoldable pub answer_by : ℕ → Question → Answer
answer_by base (weekday t) = day (weekday_of t)
answer_by base (stamp r) = of_stamp (stamp_of base r)
answer_by base (stamp_of_string s) = stamp_of_answer base (read_string base s)
answer_by base (clock_string s) = of_string (read_string base s)
answer_by base (position_part s) = text (position_of base s)
answer_by base (pulses s) = of_frame (read_frame base s)
answer_by base (marks s) = of_minute (read_dcf77 base s)
answer_by base (to_meinberg r coasting out) = after_writing (meinbergFault base r (length out)) text_length (meinbergBytes r coasting) out
answer_by base (to_erlangen r coasting position out) =
    after_writing (erlangenFault base r position (length out)) size (erlangenBytes r coasting position) out
answer_by base (to_pulses r out) = after_writing (frameFault base r (length out)) frame_length (frame_of r) out
answer_by base (to_marks r head out) = after_writing (minuteFault base r head (length out)) (length_of (due_long r)) (minuteBytes r head) out
answer_by base (bridged_with way s out) = of_written (bridge_answer base s (length out)) (bridge_filled way base s out)
answer_by base (change_on s y) = of_date (change_date s y)
answer_by base (telegram sender sent head out) =
    after_writing (telegram_fault base sender sent head (length out)) (length_of (due_long (telegram_reading sender sent)))
    (minuteBytes (telegram_reading sender sent) head) out
answer_by base (listed b) = text (listing base b)
answer_by base (with_base other q) = answer_by other q

unfoldable pub answer_to : Question → Answer
answer_to q = answer_by usual_base q

pub record Case : Type 0 where
  pub asked : Question
  pub answer : Answer

abbrev pub gives : Question → Answer → Case
gives asked answer = record { asked = asked; answer = answer }
