-- Writing an IEEE 1344 frame: what each group of its pulses says, the frame, and why a reading is refused.
use Rattle.std.specs.Prelude.{List, [], ◌∷◌, ℕ, ◌/◌, ◌%◌, ltb}
use Rattle.calendar.specs.Calendar.{day_of_year}
use Rattle.reading.specs.declared.Reading.{Reading}
use Rattle.reading.specs.declared.Fault.TheVariants.{Length, NotCarried}
use Rattle.reading.specs.Faults.{first, Verdict, no_fault}
use Rattle.reading.specs.Writing.{and_then}
use Rattle.reading.specs.Offset.{opposite}
use Rattle.reading.specs.Universal.{date_of}
use Rattle.reading.specs.Checks.{checked_of}
use Rattle.pulses.specs.Row.{row, ones_from, bit}
use Rattle.irig_table.specs.Table.{frame_pulses}
use Rattle.irig.specs.Offset.{is_minus, halves_of, odd_quarter}
use Rattle.irig.specs.Meaning.{second_of_day_at}
use Rattle.irig.specs.Faults.{frame_length}

-- the value of each of the 32 groups, in the order of their numbers, for a day of the year and an amount added to local time
unfoldable pub groups_of : Reading → ℕ → ℕ → ℕ → ℕ → List ℕ
groups_of r day minus halves parity =
    0 ∷ 0 ∷ 0
    ∷ r.second % 10 ∷ r.second / 10
    ∷ r.minute % 10 ∷ r.minute / 10
    ∷ r.hour % 10 ∷ r.hour / 10
    ∷ day % 10 ∷ day / 10 % 10 ∷ day / 100
    ∷ r.year % 10 ∷ r.year % 100 / 10
    ∷ bit r.leap ∷ 0 ∷ bit r.change ∷ bit r.summer
    ∷ minus ∷ halves / 2 ∷ halves % 2
    ∷ r.quality ∷ parity
    ∷ second_of_day_at r.hour r.minute r.second
    ∷ 0 ∷ 0 ∷ 0 ∷ 0 ∷ 0 ∷ 0 ∷ 0 ∷ 0 ∷ []

-- the values that a reading has, with a parity
unfoldable pub values_of : Reading → ℕ → List ℕ
values_of r parity =
    groups_of r (day_of_year (date_of r)) (bit (is_minus (opposite r.offset.0))) (halves_of (opposite r.offset.0)) parity

-- the pulses from 1 on that come before the parity's own
abbrev pub before_parity : ℕ
before_parity = 74

-- the parity that makes the ones among the pulses 1 to 75 even
unfoldable pub parity_of : Reading → ℕ
parity_of r = ones_from 1 before_parity (row frame_pulses (values_of r 0)) % 2

-- the hundred pulses of a reading
unfoldable pub frame_of : Reading → List ℕ
frame_of r = row frame_pulses (values_of r (parity_of r))

-- the checks that every writer makes of a reading; then, by L9, "an odd quarter at the IEEE 1344 writer .. is 11"
unfoldable pub carried_of : ℕ → Reading → Verdict
carried_of base r = and_then (checked_of base r) (first (odd_quarter r.offset.0) NotCarried no_fault)

-- the first fault of a writer that is given a reading and room for so many pulses
unfoldable pub write_fault : ℕ → Reading → ℕ → Verdict
write_fault base r room = first (ltb room frame_length) Length (carried_of base r)
