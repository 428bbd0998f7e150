-- The first fault of a date and a time that a string says: codes 15, 16, 6, 8 and 9, and within a code by rising place.
use Rattle.std.specs.Prelude.{Bool, true, ◌||◌, List, ◌≡◌, ℕ, ltb, Result, Err, Ok}
use Rattle.reading.specs.declared.Reading.{Reading}
use Rattle.reading.specs.declared.Refusal.{Refusal}
use Rattle.reading.specs.declared.Fault.TheVariants.{Time, Date, Weekday, Offset, LeapSecond}
use Rattle.reading.specs.Faults.{number, first, Verdict, no_fault}
use Rattle.reading.specs.Universal.{utc_of}
use Rattle.reading.specs.Leap.{sixty_bad}
use Rattle.reading.specs.Checks.{hour_bad, minute_bad, second_bad, day_bad, month_bad, weekday_wrong}
use Rattle.reading.specs.Refusals.{Objection, quiet, Owed}
use Rattle.strings.specs.declared.Places.{Places}

-- "Weekday 0, 8 or 9 is code 5", which by L5 is 16 for "a weekday out of range"
unfoldable pub weekday_bad : ℕ → Bool
weekday_bad w = ltb w 1 || ltb 7 w

-- code 9: second 60 not allowed, or the mark of a leap second against the second
abbrev pub rest_fault : Bool → Bool → Bool → Places → Verdict
rest_fault wrong offset leap p = first wrong (Weekday p.weekday) (first offset (Offset p.offset) (first leap (LeapSecond p.second) no_fault))

abbrev pub date_fault : Bool → Bool → Bool → Places → Verdict → Verdict
date_fault day month weekday p rest = first day (Date p.day) (first month (Date p.month) (first weekday (Date p.weekday) rest))

abbrev pub time_fault : Bool → Bool → Bool → Places → Verdict → Verdict
time_fault hour minute second p rest = first hour (Time p.hour) (first minute (Time p.minute) (first second (Time p.second) rest))

-- w is the weekday that the string says; offset: its offset is none; mark: its mark of a leap second stands against the second
unfoldable pub fault_of : Reading → ℕ → Bool → Bool → Places → Verdict
fault_of r w offset mark p =
    time_fault (hour_bad r.hour) (minute_bad r.minute) (second_bad r.second) p
    (date_fault (day_bad r) (month_bad r) (weekday_bad w) p
    (rest_fault (weekday_wrong r w) offset (sixty_bad (utc_of r) r.second || mark) p))

-- what a string says in one of the formats: the time with its coasting mark, or why there is none
abbrev pub Answer : Type 0
Answer = Result (Reading × Bool) Refusal

-- the time with its coasting mark, or the refusal of the first fault
abbrev pub answer_of : Verdict → Reading → Bool → Answer
answer_of (Ok done) r coasting = Ok (r, coasting)
answer_of (Err fault) r coasting = Err (number fault)

-- what is promised of an answer: where a time is told nothing is objected, and a refusal is the one to give
abbrev pub AnswerOwed : List Objection → List ℕ → Answer → Type 0
AnswerOwed objections codes (Ok (r, coasting)) = quiet objections ≡ true
AnswerOwed objections codes (Err x) = Owed objections codes x
