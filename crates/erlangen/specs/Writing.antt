-- The string of a reading, a coasting mark and a position, and what its writer refuses.
use Rattle.std.specs.Prelude.{Bool, cond, not, ◌&&◌, ◌||◌, List, [], ◌∷◌, ◌++◌, ℕ, ◌/◌, ◌%◌, eqb, leb, ltb, ℤ, length}
use Rattle.calendar.specs.Calendar.{weekday_of}
use Rattle.wire.specs.Layout.{printables}
use Rattle.wire.specs.Digits.{tens, ones}
use Rattle.reading.specs.declared.Reading.{Reading}
use Rattle.reading.specs.declared.Fault.TheVariants.{Length, Byte, NotCarried}
use Rattle.reading.specs.Faults.{first, Verdict, no_fault}
use Rattle.reading.specs.Writing.{and_then}
use Rattle.reading.specs.Universal.{date_of}
use Rattle.reading.specs.Checks.{on_base, sound_of}
use Rattle.erlangen.specs.Layout.{size, position_size, stx, etx, space, dot, colon, semicolon, plus, minus, hash, star, letter_s, bang, letter_a, letter_l}
use Rattle.erlangen.specs.Offset.{is_behind, minutes_of}
pub use Rattle.strings.specs.Letters.{mark}

-- STX `dd.mm.yy; w; `
unfoldable pub date_bytes : Reading → List ℕ
date_bytes r =
    stx ∷ tens r.day ∷ ones r.day ∷ dot ∷ tens r.month ∷ ones r.month ∷ dot ∷ tens (r.year % 100) ∷ ones (r.year % 100) ∷ semicolon ∷ space
    ∷ ones (weekday_of (date_of r)) ∷ semicolon ∷ space ∷ []

-- `hh:mm:ss; `
unfoldable pub time_bytes : Reading → List ℕ
time_bytes r =
    tens r.hour ∷ ones r.hour ∷ colon ∷ tens r.minute ∷ ones r.minute ∷ colon ∷ tens r.second ∷ ones r.second ∷ semicolon ∷ space ∷ []

-- `voo:oo; `
unfoldable pub offset_bytes : ℤ → List ℕ
offset_bytes z =
    cond (is_behind z) minus plus ∷ tens (minutes_of z / 60) ∷ ones (minutes_of z / 60) ∷ colon ∷ tens (minutes_of z % 60) ∷ ones (minutes_of z % 60) ∷ semicolon ∷ space ∷ []

-- `acdfg i; `
unfoldable pub flag_bytes : Reading → Bool → List ℕ
flag_bytes r coasting =
    mark (eqb r.quality 15) hash ∷ mark coasting star ∷ mark r.summer letter_s ∷ mark r.change bang ∷ mark r.leap letter_a ∷ space
    ∷ mark (eqb r.second 60) letter_l ∷ semicolon ∷ space ∷ []

-- the 68 bytes, row by row
unfoldable pub bytes_of : Reading → Bool → List ℕ → List ℕ
bytes_of r coasting position =
    date_bytes r ++ time_bytes r ++ offset_bytes r.offset.0 ++ flag_bytes r coasting ++ position ++ (etx ∷ [])

-- code 11: "Uni Erlangen with quality 1..14"
unfoldable pub not_carried : ℕ → Bool
not_carried quality = leb 1 quality && leb quality 14

-- code 1: "output shorter than the format"; "The position part given to a writer must have 26 bytes"
unfoldable pub length_bad : List ℕ → ℕ → Bool
length_bad position room = ltb room size || not (eqb (length position) position_size)

-- the checks that every writer makes of a reading, beside whatever base, then whether this format carries it
unfoldable pub carried_of : ℕ → Reading → Verdict
carried_of base r = and_then (sound_of base r) (first (not_carried r.quality) NotCarried no_fault)

-- the first fault of what a writer is given: 19 goes before a bad byte of the position, which goes before the reading's own faults
unfoldable pub write_fault : ℕ → Reading → List ℕ → ℕ → Verdict
write_fault base r position room =
    first (length_bad position room) Length
    (on_base base
    (first (ltb (printables position) position_size) (Byte (printables position))
    (carried_of base r)))
