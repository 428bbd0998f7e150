-- L9, "The reading's offset becomes quarter hours, -48..+56. Uni Erlangen takes minutes 00, 15, 30 and 45": no other minutes are taken,
-- and each of the 105 offsets goes into a string and comes back.
use Rattle.reading.specs.Faults.{no_fault}
use Rattle.std.specs.Prelude.{Ok}
use mathlib.Core.Bool.{Bool, true, false, beq, ◌&&◌}
use mathlib.Core.List.{List, [], ◌∷◌}
use mathlib.Core.Path.{◌≡◌, refl}
use Prim.Native.Nat.{ℕ, ◌+◌, ◌%◌}
use native.Mathlib.Omega.{arith}
use borrow.Author.Tests.{ltb-true, ltb-false, ne_eqb}
use lib.Dec.{eqb, ltb}
use lib.IntN.{ℤ}
use Rattle.laws.specs.Tests.{among}
use Rattle.laws.proofs.Bools.{same_bool}
use Rattle.laws.proofs.Tested.{at}
use Rattle.calendar.specs.Calendar.{leap_year, days_in, is_month, last_day, is_day, is_date}
use Rattle.wire.specs.Layout.{printable, printables}
use Rattle.reading.specs.Years.{usual_base as base, in_hundred, is_base, first_year}
use Rattle.reading.specs.Offset.{unit, westmost, eastmost, offset_good}
use Rattle.reading.specs.Leap.{sixty_bad}
use Rattle.reading.specs.Checks.{time_bad, date_bad, checked_of, sound_of}
use Rattle.erlangen.specs.Layout.{size}
use Rattle.erlangen.specs.Offset.{whole_units}
use Rattle.erlangen.specs.Meaning.{read_erlangen}
use Rattle.erlangen.specs.Writing.{bytes_of, not_carried, length_bad, carried_of, write_fault}
use Rattle.erlangen.proofs.Promises.{bytes_read}
use Rattle.erlangen.proofs.Worked.{spaces, reading}

-- the quarters of -48..+56
pub how_many : westmost + 1 + eastmost ≡ 105
how_many = refl

-- 2024-02-29 12:34:56 at any of them is written
pub each_offset_written : (z : ℤ) → offset_good z ≡ true → write_fault base (reading z) spaces size ≡ no_fault
unfolding reading write_fault length_bad carried_of not_carried printables printable checked_of time_bad date_bad in_hundred is_date is_month is_day last_day days_in leap_year sixty_bad first_year is_base sound_of
each_offset_written z e = rw e

-- and read back
pub each_offset_back : (z : ℤ) → offset_good z ≡ true → read_erlangen base (bytes_of (reading z) false spaces) ≡ Ok ((reading z), false)
each_offset_back z e = (bytes_read base (reading z) false spaces size (each_offset_written z e)).0

-- "minutes 00, 15, 30 and 45", and no others
abbrev taken : List ℕ
taken = 0 ∷ 15 ∷ 30 ∷ 45 ∷ []

abbrev as_taken : ℕ → Bool
as_taken m = beq (ltb m 60 && eqb (m % unit) 0) (among m taken)

pub minutes_taken : (m : ℕ) → whole_units m ≡ among m taken
unfolding whole_units
minutes_taken m = go (ltb m 60) refl
  where
    go : (b : Bool) → ltb m 60 ≡ b → (ltb m 60 && eqb (m % unit) 0) ≡ among m taken
    go true e = same_bool (ltb m 60 && eqb (m % unit) 0) (among m taken) (at as_taken 60 tt m (ltb-true m 60 e))
    go false e =
        let h = ltb-false m 60 e in
        rw (e, ne_eqb m 0 (λ z. omega arith), ne_eqb m 15 (λ z. omega arith), ne_eqb m 30 (λ z. omega arith), ne_eqb m 45 (λ z. omega arith))
