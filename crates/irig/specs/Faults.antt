-- Reading an IEEE 1344 frame: its first fault in the order of the codes, each with the place of its field, and the answer.
use Rattle.reading.specs.declared.Refusal.{Refusal}
use Rattle.std.specs.Prelude.{Bool, not, ◌||◌, List, ℕ, ◌%◌, eqb, ltb, length, Err, Ok, Result}
use Rattle.reading.specs.declared.Reading.{Reading}
use Rattle.reading.specs.declared.Fault.TheVariants.{Length, Byte, Digit, Parity, Time, Date, SecondOfDay, Offset, LeapSecond, Deletion}
use Rattle.reading.specs.Faults.{number, first, Verdict, no_fault}
use Rattle.reading.specs.Universal.{utc_of}
use Rattle.reading.specs.Leap.{sixty_bad}
use Rattle.reading.specs.Checks.{on_base, hour_bad, minute_bad, second_bad}
use Rattle.pulses.specs.Row.{good_pulses, sums_of, ones_from, over_nine}
use Rattle.irig_table.specs.Table.{frame_pulses, seconds, minutes, hours, days, tens_of_days, years, tens_of_years, deletion}
use Rattle.irig.specs.Meaning.{is_set, second_in, minute_in, hour_in, reading_of, day_bad, second_of_day_wrong, offset_bad}

-- the pulses of a frame
abbrev pub frame_length : ℕ
frame_length = 100

-- ---- the first pulse of each field, the place of its faults

abbrev pub second_place : ℕ
second_place = 1

abbrev pub minute_place : ℕ
minute_place = 10

abbrev pub hour_place : ℕ
hour_place = 20

abbrev pub day_place : ℕ
day_place = 30

abbrev pub year_place : ℕ
year_place = 50

abbrev pub deletion_place : ℕ
deletion_place = 61

abbrev pub sign_place : ℕ
sign_place = 64

abbrev pub parity_place : ℕ
parity_place = 75

abbrev pub second_of_day_place : ℕ
second_of_day_place = 80

-- ---- the faults of one code after the other

-- code 3: a field with a digit over 9, the lowest first
abbrev pub digit_fault : Bool → Bool → Bool → Bool → Bool → Verdict → Verdict
digit_fault second minute hour day year rest =
    first second (Digit second_place)
    (first minute (Digit minute_place)
    (first hour (Digit hour_place) (first day (Digit day_place) (first year (Digit year_place) rest))))

-- code 4: the parity
abbrev pub parity_fault : Bool → Verdict → Verdict
parity_fault odd rest = first odd (Parity parity_place) rest

-- code 15: a field of the time out of range, the lowest first
abbrev pub time_fault : Bool → Bool → Bool → Verdict → Verdict
time_fault second minute hour rest =
    first second (Time second_place) (first minute (Time minute_place) (first hour (Time hour_place) rest))

-- code 16 for the day of the year, then 7, 8, 9 and 10
abbrev pub rest_fault : Bool → Bool → Bool → Bool → Bool → Verdict
rest_fault day ofday offset leap deleted =
    first day (Date day_place)
    (first ofday (SecondOfDay second_of_day_place)
    (first offset (Offset sign_place) (first leap (LeapSecond second_place) (first deleted (Deletion deletion_place) no_fault))))

-- "even parity over 1..75, marks left out" is wrong: the 75 pulses from 1 on have an odd number of ones
unfoldable pub is_odd : List ℕ → Bool
is_odd s = not (eqb (ones_from 1 parity_place s % 2) 0)

-- codes 15, 16, 7, 8, 9 and 10, of the values of the groups
unfoldable pub fields_fault : ℕ → List ℕ → Verdict
fields_fault base v =
    time_fault (second_bad (second_in v)) (minute_bad (minute_in v)) (hour_bad (hour_in v))
    (rest_fault (day_bad base v) (second_of_day_wrong v) (offset_bad v)
    (sixty_bad (utc_of (reading_of base v)) (second_in v)) (is_set v deletion))

-- codes 3 and 4 before them
unfoldable pub values_fault : ℕ → List ℕ → Bool → Verdict
values_fault base v odd =
    digit_fault (over_nine v seconds) (over_nine v minutes) (over_nine v hours)
    (over_nine v days || over_nine v tens_of_days) (over_nine v years || over_nine v tens_of_years)
    (parity_fault odd (fields_fault base v))

-- the first fault of a frame, read with a base: "straight after 1" is the base's own
unfoldable pub fault_in : ℕ → List ℕ → Verdict
fault_in base s =
    first (not (eqb (length s) frame_length)) Length
    (on_base base
    (first (ltb (good_pulses frame_pulses s) frame_length) (Byte (good_pulses frame_pulses s))
    (values_fault base (sums_of frame_pulses s) (is_odd s))))

-- what the reader answers: the time, or why there is none
abbrev pub Answer : Type 0
Answer = Result Reading Refusal

-- the time, or the refusal of the first fault
abbrev pub answer_of : Verdict → Reading → Answer
answer_of (Ok done) r = Ok r
answer_of (Err fault) r = Err (number fault)

-- what is read of any bytes
unfoldable pub read_frame : ℕ → List ℕ → Answer
read_frame base s = answer_of (fault_in base s) (reading_of base (sums_of frame_pulses s))
