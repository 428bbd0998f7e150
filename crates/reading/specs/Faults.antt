-- What can be wrong, and the number and place that document 01 gives for it, as amended by L5, L8 and L12.
use Rattle.std.specs.Prelude.{Bool, true, false, ℕ, Result, Ok, Err, ⊤}
use Rattle.reading.specs.declared.Refusal.{Refusal}
use Rattle.reading.specs.declared.Fault.{Fault}
use Rattle.reading.specs.declared.Fault.TheVariants.{
  Length,
  Byte,
  Digit,
  Parity,
  Time,
  Date,
  QualityOrHead,
  Weekday,
  SecondOfDay,
  Offset,
  LeapSecond,
  Deletion,
  NotCarried,
  OutsideYears,
  SummerRule,
  OtherBase,
  CutShort,
  UnknownKind,
}

-- the table of refusal numbers; by L5 what was 5 is "15 for a time field, 16 for a date field, a weekday out of range or a day that
-- month lacks, 17 for quality or head"; by L8 18 is for a rule of summer time, and 12 also for a named minute outside the hundred years;
-- by L12 "any other base or argument is 19"
abbrev pub code_of : Fault → ℕ
code_of Length = 1
code_of (Byte place) = 2
code_of (Digit place) = 3
code_of (Parity place) = 4
code_of (Time place) = 15
code_of (Date place) = 16
code_of (QualityOrHead place) = 17
code_of (Weekday place) = 6
code_of (SecondOfDay place) = 7
code_of (Offset place) = 8
code_of (LeapSecond place) = 9
code_of (Deletion place) = 10
code_of NotCarried = 11
code_of OutsideYears = 12
code_of SummerRule = 18
code_of OtherBase = 19
code_of CutShort = 13
code_of UnknownKind = 14

-- 01: "The place is 0, but for code 2 it is the lowest bad place"; amended by L5: "Reader refusals except 1 and 2 shall give the place
-- of the first byte of the lowest offending field, code 4 the parity place, and 9 the second or, for a DCF77 length, the last place."
-- A fault carries the place that its reader gives it, and a writer's carries 0.
abbrev pub place_of : Fault → ℕ
place_of Length = 0
place_of (Byte place) = place
place_of (Digit place) = place
place_of (Parity place) = place
place_of (Time place) = place
place_of (Date place) = place
place_of (QualityOrHead place) = place
place_of (Weekday place) = place
place_of (SecondOfDay place) = place
place_of (Offset place) = place
place_of (LeapSecond place) = place
place_of (Deletion place) = place
place_of NotCarried = 0
place_of OutsideYears = 0
place_of SummerRule = 0
place_of OtherBase = 0
place_of CutShort = 0
place_of UnknownKind = 0

unfoldable pub number : Fault → Refusal
number fault = record { code = code_of fault; place = place_of fault }

-- what checks find: nothing, or the first fault
abbrev pub Verdict : Type 0
Verdict = Result ⊤ Fault

abbrev pub no_fault : Verdict
no_fault = Ok (record {})

-- the fault, if its condition holds, before whatever comes after it
abbrev pub first : Bool → Fault → Verdict → Verdict
first true fault rest = Err fault
first false fault rest = rest
