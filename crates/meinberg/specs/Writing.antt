-- The 32 bytes of a reading, and why a writer refuses one.
use Rattle.std.specs.Prelude.{Bool, cond, not, ◌&&◌, ◌||◌, List, [], ◌∷◌, ℕ, ◌%◌, eqb, leb, ltb}
use Rattle.calendar.specs.Calendar.{weekday_of}
use Rattle.reading.specs.declared.Reading.{Reading}
use Rattle.reading.specs.declared.Fault.TheVariants.{Length, NotCarried}
use Rattle.reading.specs.Faults.{first, Verdict, no_fault}
use Rattle.reading.specs.Universal.{date_of}
use Rattle.reading.specs.Checks.{checked_of}
use Rattle.reading.specs.Writing.{and_then}
use Rattle.wire.specs.Digits.{tens, ones}
use Rattle.meinberg.specs.Layout.{text_length, stx, etx, bang, hash, star, dot, colon, semicolon, letter_a, letter_d, letter_t, letter_u}
use Rattle.meinberg.specs.Zones.{zone_carried, zone_letter}
pub use Rattle.strings.specs.Letters.{mark}

-- the byte y: `!` a change, `A` a leap second, else a space
unfoldable pub announcement : Bool → Bool → ℕ
announcement change leap = cond change bang (mark leap letter_a)

-- the last two digits of a year
abbrev pub year_digits : ℕ → ℕ
year_digits y = y % 100

-- STX `D:dd.mm.yy;T:w;U:hh.mm.ss;uvxy` ETX
unfoldable pub bytes_of : Reading → Bool → List ℕ
bytes_of r coasting =
    stx
    ∷ letter_d ∷ colon ∷ tens r.day ∷ ones r.day ∷ dot ∷ tens r.month ∷ ones r.month
    ∷ dot ∷ tens (year_digits r.year) ∷ ones (year_digits r.year) ∷ semicolon
    ∷ letter_t ∷ colon ∷ ones (weekday_of (date_of r)) ∷ semicolon
    ∷ letter_u ∷ colon ∷ tens r.hour ∷ ones r.hour ∷ dot ∷ tens r.minute ∷ ones r.minute
    ∷ dot ∷ tens r.second ∷ ones r.second ∷ semicolon
    ∷ mark (eqb r.quality 15) hash ∷ mark coasting star ∷ zone_letter r.offset.0 r.summer ∷ announcement r.change r.leap
    ∷ etx
    ∷ []

-- code 11: "Meinberg with another zone than its three, both announcements, or quality 1..14"
unfoldable pub not_carried : Reading → Bool
not_carried r = not (zone_carried r.offset.0 r.summer) || (r.change && r.leap) || (leb 1 r.quality && leb r.quality 14)

-- the first reason not to write the reading r into room bytes
unfoldable pub write_fault : ℕ → Reading → ℕ → Verdict
write_fault base r room = first (ltb room text_length) Length (and_then (checked_of base r) (first (not_carried r) NotCarried no_fault))
