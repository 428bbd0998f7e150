-- What can be wrong with a Meinberg string, and with what is to be written as one, with code and place.
-- Conditions and codes are those of 01's table, as amended by L5 and L12, a place is that of "the first byte of the lowest offending field".
-- (Of an input of another length, code 2 may hold too: code 1 goes before it.)
use Rattle.std.specs.Prelude.{not, List, [], ◌∷◌, ◌++◌, ℕ, eqb, ltb, length, get_or}
use Rattle.reading.specs.declared.Reading.{Reading}
use Rattle.reading.specs.Universal.{utc_of}
use Rattle.reading.specs.Leap.{sixty_bad}
use Rattle.reading.specs.Checks.{hour_bad, minute_bad, second_bad, day_bad, month_bad, weekday_wrong}
use Rattle.reading.specs.Refusals.{Objection, objection}
use Rattle.reading.specs.Objections.{base_objection, reading_objections}
use Rattle.wire.specs.Digits.{digit}
use Rattle.wire.specs.Layout.{good_places}
use Rattle.strings.specs.Checks.{weekday_bad}
use Rattle.meinberg.specs.Layout.{layout}
use Rattle.meinberg.specs.Meaning.{meaning}
use Rattle.meinberg.specs.Writing.{not_carried}

-- the string s, where with this base it says the reading r and the weekday w
unfoldable pub said_objections : ℕ → List ℕ → Reading → ℕ → List Objection
said_objections base s r w =
    objection (not (eqb (length s) 32)) 1 0
    ∷ base_objection base
    ∷ objection (ltb (good_places layout s) 32) 2 (good_places layout s)
    ∷ objection (hour_bad r.hour) 15 18
    ∷ objection (minute_bad r.minute) 15 21
    ∷ objection (second_bad r.second) 15 24
    ∷ objection (day_bad r) 16 3
    ∷ objection (month_bad r) 16 6
    ∷ objection (weekday_bad w) 16 14
    ∷ objection (weekday_wrong r w) 6 14
    ∷ objection (sixty_bad (utc_of r) r.second) 9 24
    ∷ []

-- a string
unfoldable pub read_objections : ℕ → List ℕ → List Objection
read_objections base s = said_objections base s (meaning base s) (digit (get_or s 14 0))

-- a reading, and room for so many bytes
unfoldable pub write_objections : ℕ → Reading → ℕ → List Objection
write_objections base r room = objection (ltb room 32) 1 0 ∷ reading_objections base r ++ (objection (not_carried r) 11 0 ∷ [])

-- the codes that a string can be refused with, and those of the writer
abbrev pub read_codes : List ℕ
read_codes = 1 ∷ 19 ∷ 2 ∷ 15 ∷ 16 ∷ 6 ∷ 9 ∷ []

abbrev pub write_codes : List ℕ
write_codes = 1 ∷ 19 ∷ 15 ∷ 16 ∷ 17 ∷ 8 ∷ 9 ∷ 11 ∷ []
