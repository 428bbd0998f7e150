-- What can be wrong with a base, and with a reading that is to be written or stamped, with code and place: "Writers keep place 0."
use Rattle.reading.specs.Writing.{Written}
use Rattle.std.specs.Prelude.{Bool, true, not, List, [], ◌∷◌, ◌++◌, ◌≡◌, ℕ, Err, Ok}
use Rattle.reading.specs.declared.Reading.{Reading}
use Rattle.reading.specs.Years.{is_base}
use Rattle.reading.specs.Offset.{offset_good}
use Rattle.reading.specs.Universal.{utc_of}
use Rattle.reading.specs.Leap.{sixty_bad}
use Rattle.reading.specs.Checks.{time_bad, date_bad, quality_bad}
use Rattle.reading.specs.Stamps.{has_stamp, Stamp}
use Rattle.reading.specs.Refusals.{Objection, objection, quiet, Owed}

-- another base than the two
abbrev pub base_objection : ℕ → Objection
base_objection base = objection (not (is_base base)) 19 0

-- a time, a date, a quality or head, an offset and a second 60, each at fault or not
unfoldable pub check_objections : Bool → Bool → Bool → Bool → Bool → List Objection
check_objections time date quality offset sixty =
    objection time 15 0 ∷ objection date 16 0 ∷ objection quality 17 0 ∷ objection offset 8 0 ∷ objection sixty 9 0 ∷ []

-- what every writer and stamping ask of a reading
unfoldable pub sound_objections : ℕ → Reading → List Objection
sound_objections base r =
    check_objections (time_bad r) (date_bad base r) (quality_bad r.quality) (not (offset_good r.offset.0)) (sixty_bad (utc_of r) r.second)

-- and of the base before it
unfoldable pub reading_objections : ℕ → Reading → List Objection
reading_objections base r = base_objection base ∷ sound_objections base r

-- "12 means UTC before 1990 or after 2099"
unfoldable pub stamp_objections : ℕ → Reading → List Objection
stamp_objections base r = reading_objections base r ++ (objection (not (has_stamp (utc_of r).date.year)) 12 0 ∷ [])

-- 01: stamping "takes any reading and refuses it by 5, 8, 9 or 12 alone"; by L5 15, 16 and 17 are what 5 was, and by L12 another
-- base is 19
abbrev pub stamp_codes : List ℕ
stamp_codes = 19 ∷ 15 ∷ 16 ∷ 17 ∷ 8 ∷ 9 ∷ 12 ∷ []

-- ---- what is promised of an answer: where there is a stamp, or a writer wrote, nothing was objected, and a refusal is the one to give

abbrev pub StampOwed : List Objection → List ℕ → Stamp → Type 0
StampOwed objections codes (Ok stamp) = quiet objections ≡ true
StampOwed objections codes (Err x) = Owed objections codes x

abbrev pub WrittenOwed : List Objection → List ℕ → Written → Type 0
WrittenOwed objections codes (Ok n) = quiet objections ≡ true
WrittenOwed objections codes (Err x) = Owed objections codes x
