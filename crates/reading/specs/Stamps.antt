-- The stamp of a reading.
use Rattle.std.specs.Prelude.{Bool, cond, ◌&&◌, ℕ, ◌+◌, ◌*◌, leb, ℤ, Result, Err, Ok}
use Rattle.std.proofs.Math.IntN.{sub_ℕ}
use Rattle.calendar.specs.declared.Date.{Date}
use Rattle.calendar.specs.Calendar.{day_number}
use Rattle.reading.specs.declared.Reading.{Reading}
use Rattle.reading.specs.declared.Utc.{Utc}
use Rattle.reading.specs.declared.Fault.TheVariants.{OutsideYears}
use Rattle.reading.specs.declared.Since2000.{Since2000}
use Rattle.reading.specs.declared.Refusal.{Refusal}
use Rattle.reading.specs.Faults.{number, Verdict}
use Rattle.reading.specs.Universal.{utc_of}
use Rattle.reading.specs.Checks.{checked_of}

-- "Day 0 is 1 January 2000."
abbrev pub day_zero : Date
day_zero = record { year = 2000; month = 1; day = 1 }

-- the years of UTC that have stamps. 01: "stamp's UTC day outside 2000..2099" is 12; amended by L12: "12 means UTC before 1990 or after
-- 2099", whichever base a reading was read with
unfoldable pub has_stamp : ℕ → Bool
has_stamp y = leb 1990 y && leb y 2099

-- "UTC day number times 86401 plus UTC second of the day", with days numbered from the year 0 on
unfoldable pub count_of : Utc → ℕ → ℕ
count_of u s = day_number u.date * 86401 + (u.minute * 60 + s)

-- that of the start of day 0
unfoldable pub count_zero : ℕ
count_zero = count_of (record { date = day_zero; minute = 0 }) 0

-- the stamp, with days numbered from day 0 on: by L12 "signed, day 0 unchanged, negative before 2000"
unfoldable pub stamp_number : Utc → ℕ → ℤ
stamp_number u s = sub_ℕ (count_of u s) count_zero

-- what stamping answers: the stamp, or why there is none
abbrev pub Stamp : Type 0
Stamp = Result Since2000 Refusal

-- the answer that is this stamp
abbrev pub stamp_is : ℤ → Stamp
stamp_is z = Ok (record { 0 = z })

unfoldable pub stamp_at : Utc → ℕ → Stamp
stamp_at u s = cond (has_stamp u.date.year) (stamp_is (stamp_number u s)) (Err (number OutsideYears))

abbrev pub unless_bad : Verdict → Stamp → Stamp
unless_bad (Ok done) a = a
unless_bad (Err fault) a = Err (number fault)

-- the stamp of a reading, read with this base
unfoldable pub stamp_of : ℕ → Reading → Stamp
stamp_of base r = unless_bad (checked_of base r) (stamp_at (utc_of r) r.second)
