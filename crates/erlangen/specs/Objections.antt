-- What can be wrong with a Uni Erlangen string, and with what is to be written as one, with code and place.
-- Conditions and codes are those of 01's table, as amended by L5 and L12, a place is that of "the first byte of the lowest offending field".
-- (Of an input of another length, code 2 may hold too: code 1 goes before it.)
use Rattle.std.specs.Prelude.{not, ◌||◌, List, [], ◌∷◌, ◌++◌, ℕ, eqb, ltb, length}
use Rattle.reading.specs.declared.Reading.{Reading}
use Rattle.reading.specs.Universal.{utc_of}
use Rattle.reading.specs.Leap.{sixty_bad}
use Rattle.reading.specs.Checks.{hour_bad, minute_bad, second_bad, day_bad, month_bad, weekday_wrong}
use Rattle.reading.specs.Refusals.{Objection, objection}
use Rattle.reading.specs.Objections.{base_objection, sound_objections}
use Rattle.wire.specs.Layout.{good_places, printables}
use Rattle.strings.specs.Checks.{weekday_bad}
use Rattle.erlangen.specs.Layout.{layout}
use Rattle.erlangen.specs.Meaning.{weekday_said, offset_wrong, mark_wrong, reading_of}
use Rattle.erlangen.specs.Writing.{not_carried, length_bad}

-- the string s, where with this base it says the reading r
unfoldable pub said_objections : ℕ → List ℕ → Reading → List Objection
said_objections base s r =
    objection (not (eqb (length s) 68)) 1 0
    ∷ base_objection base
    ∷ objection (ltb (good_places layout s) 68) 2 (good_places layout s)
    ∷ objection (hour_bad r.hour) 15 14
    ∷ objection (minute_bad r.minute) 15 17
    ∷ objection (second_bad r.second) 15 20
    ∷ objection (day_bad r) 16 1
    ∷ objection (month_bad r) 16 4
    ∷ objection (weekday_bad (weekday_said s)) 16 11
    ∷ objection (weekday_wrong r (weekday_said s)) 6 11
    ∷ objection (offset_wrong s) 8 24
    ∷ objection (sixty_bad (utc_of r) r.second || mark_wrong s) 9 20
    ∷ []

-- a string
unfoldable pub read_objections : ℕ → List ℕ → List Objection
read_objections base s = said_objections base s (reading_of base s)

-- a reading with position bytes, and room for so many bytes; a bad position byte has its place among these
unfoldable pub write_objections : ℕ → Reading → List ℕ → ℕ → List Objection
write_objections base r position room =
    objection (length_bad position room) 1 0
    ∷ base_objection base
    ∷ objection (ltb (printables position) 26) 2 (printables position)
    ∷ sound_objections base r ++ (objection (not_carried r.quality) 11 0 ∷ [])

-- the codes that a string can be refused with, and those of the writer
abbrev pub read_codes : List ℕ
read_codes = 1 ∷ 19 ∷ 2 ∷ 15 ∷ 16 ∷ 6 ∷ 8 ∷ 9 ∷ []

abbrev pub write_codes : List ℕ
write_codes = 1 ∷ 19 ∷ 2 ∷ 15 ∷ 16 ∷ 17 ∷ 8 ∷ 9 ∷ 11 ∷ []
