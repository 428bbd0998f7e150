-- What the marks of a DCF77 minute say, what is wrong with them, and what the reader answers.
use Rattle.reading.specs.declared.Refusal.{Refusal}
use Rattle.std.specs.Prelude.{Bool, true, not, ◌||◌, List, ℕ, ◌+◌, ◌-◌, ◌*◌, ◌%◌, eqb, ltb, length, get_or, Err, Ok, Result}
use Rattle.std.specs.Bool.{beq}
use Rattle.reading.specs.declared.Reading.{Reading}
use Rattle.reading.specs.declared.Fault.TheVariants.{Length, Byte, Digit, Parity, Time, Date, Weekday, Offset, LeapSecond}
use Rattle.reading.specs.Faults.{number, first, Verdict, no_fault}
use Rattle.reading.specs.Years.{year_of}
use Rattle.reading.specs.Checks.{on_base, hour_bad, minute_bad, day_bad, month_bad, weekday_wrong}
use Rattle.reading.specs.Writing.{and_then}
use Rattle.pulses.specs.Row.{good_pulses, sums_of, ones_of, over_nine}
use Rattle.dcf77_table.specs.Table.{
  head,
  change,
  zone,
  leap,
  minutes,
  tens_of_minutes,
  hours,
  tens_of_hours,
  days,
  tens_of_days,
  weekday,
  months,
  tens_of_months,
  years,
  tens_of_years,
  minute_marks,
}
use Rattle.dcf77.specs.Zones.{offset_in, zone_of, zone_bad}
use Rattle.dcf77.specs.Forms.{
  short_length,
  long_length,
  last_of,
  due_long,
  zone_place,
  minute_place,
  minute_parity_place,
  hour_place,
  hour_parity_place,
  day_place,
  weekday_place,
  month_place,
  year_place,
  date_parity_place,
}

-- ---- what the marks say

-- n marks are a minute of the long form
unfoldable pub is_long : ℕ → Bool
is_long n = eqb n long_length

-- the table for the marks s
unfoldable pub table_for : List ℕ → List ℕ
table_for s = minute_marks (is_long (length s))

-- what each group of the marks s says
unfoldable pub says : List ℕ → List ℕ
says s = sums_of (table_for s) s

-- the number that two digits of the values v write
abbrev pub two_digits : List ℕ → ℕ → ℕ → ℕ
two_digits v tens ones = 10 * get_or v tens 0 + get_or v ones 0

-- the zone that the values v name is the summer's
abbrev pub in_summer : List ℕ → Bool
in_summer v = eqb (get_or v zone 0) (zone_of true)

-- the reading that the values v of the groups name; "Second and quality read as 0."
unfoldable pub reading_of : ℕ → List ℕ → Reading
reading_of base v =
    record {
      year = year_of base (two_digits v tens_of_years years);
      month = two_digits v tens_of_months months;
      day = two_digits v tens_of_days days;
      hour = two_digits v tens_of_hours hours;
      minute = two_digits v tens_of_minutes minutes;
      second = 0;
      offset = record { 0 = offset_in (in_summer v) };
      summer = in_summer v;
      leap = eqb (get_or v leap 0) 1;
      change = eqb (get_or v change 0) 1;
      quality = 0;
    }

-- ---- what is wrong

-- "wrong input length"
unfoldable pub length_bad : ℕ → Bool
length_bad n = not (eqb n short_length || eqb n long_length)

-- code 3, at the place of the field
unfoldable pub digit_fault : List ℕ → Verdict
digit_fault v =
    first (over_nine v minutes) (Digit minute_place)
    (first (over_nine v hours) (Digit hour_place)
    (first (over_nine v days) (Digit day_place)
    (first (over_nine v months) (Digit month_place)
    (first (over_nine v years || over_nine v tens_of_years) (Digit year_place) no_fault))))

-- the ones of the marks from place a to place b are odd in number
unfoldable pub odd : ℕ → ℕ → List ℕ → Bool
odd a b s = eqb (ones_of a (b + 1 - a) s % 2) 1

-- code 4, at the place of the parity mark
unfoldable pub parity_fault : List ℕ → Verdict
parity_fault s =
    first (odd minute_place minute_parity_place s) (Parity minute_parity_place)
    (first (odd hour_place hour_parity_place s) (Parity hour_parity_place)
    (first (odd day_place date_parity_place s) (Parity date_parity_place) no_fault))

-- codes 15 and 16; w is the weekday that the marks name
unfoldable pub field_fault : Reading → ℕ → Verdict
field_fault r w =
    first (minute_bad r.minute) (Time minute_place)
    (first (hour_bad r.hour) (Time hour_place)
    (first (day_bad r) (Date day_place)
    (first (eqb w 0) (Date weekday_place)
    (first (month_bad r) (Date month_place) no_fault))))

-- codes 6, 8 and 9; z is the zone that the marks name, long their form: "DCF77 length against the leap rule"
unfoldable pub rule_fault : Reading → ℕ → ℕ → Bool → Verdict
rule_fault r w z long =
    first (weekday_wrong r w) (Weekday weekday_place)
    (first (zone_bad z) (Offset zone_place)
    (first (not (beq long (due_long r))) (LeapSecond (last_of long)) no_fault))

-- codes 3, 4, 15, 16, 6, 8 and 9 of the marks s, whose groups say v and name the reading r
unfoldable pub said_fault : List ℕ → List ℕ → Reading → Verdict
said_fault s v r =
    and_then (digit_fault v)
    (and_then (parity_fault s)
    (and_then (field_fault r (get_or v weekday 0)) (rule_fault r (get_or v weekday 0) (get_or v zone 0) (is_long (length s)))))

-- the first fault of the marks s, read with a base: "straight after 1" is the base's own
unfoldable pub read_fault : ℕ → List ℕ → Verdict
read_fault base s =
    first (length_bad (length s)) Length
    (on_base base
    (first (ltb (good_pulses (table_for s) s) (length s)) (Byte (good_pulses (table_for s) s)) (said_fault s (says s) (reading_of base (says s)))))

-- what the reader answers: the time with its head, or why there is none
abbrev pub Answer : Type 0
Answer = Result (Reading × ℕ) Refusal

-- the time with its head, or the refusal of the first fault
abbrev pub answer_of : Verdict → Reading → ℕ → Answer
answer_of (Ok done) r h = Ok (r, h)
answer_of (Err fault) r h = Err (number fault)

-- what the reader answers of the marks s
unfoldable pub read_dcf77 : ℕ → List ℕ → Answer
read_dcf77 base s = answer_of (read_fault base s) (reading_of base (says s)) (get_or (says s) head 0)
