-- What a Meinberg string says, field by field, and the answer to it.
use Rattle.std.specs.Prelude.{Bool, false, cond, not, List, ℕ, eqb, ltb, length, get_or}
use Rattle.reading.specs.declared.Reading.{Reading}
use Rattle.reading.specs.declared.Fault.TheVariants.{Length, Byte}
use Rattle.reading.specs.Faults.{first, Verdict}
use Rattle.reading.specs.Checks.{on_base}
use Rattle.reading.specs.Years.{year_of}
use Rattle.wire.specs.Digits.{digit, pair}
use Rattle.wire.specs.Layout.{good_places}
use Rattle.strings.specs.Checks.{fault_of, answer_of, Answer}
use Rattle.meinberg.specs.Layout.{
  text_length,
  bang,
  hash,
  star,
  letter_a,
  layout,
  places,
  year_place,
  failure_place,
  coasting_place,
  zone_place,
  announcement_place,
}
use Rattle.meinberg.specs.Zones.{offset_of, summer_of}

-- "u is `#` (quality 15) or space (0)"
unfoldable pub quality_of : ℕ → ℕ
quality_of u = cond (eqb u hash) 15 0

-- "v is `*` (coasting) or space"
unfoldable pub coasting_in : List ℕ → Bool
coasting_in s = eqb (get_or s coasting_place 0) star

-- the reading that the string s says; "y is `!`, `A` or space" announces a change, a leap second or nothing
unfoldable pub meaning : ℕ → List ℕ → Reading
meaning base s =
    record {
      year = year_of base (pair s year_place);
      month = pair s places.month;
      day = pair s places.day;
      hour = pair s places.hour;
      minute = pair s places.minute;
      second = pair s places.second;
      offset = record { 0 = offset_of (get_or s zone_place 0) };
      summer = summer_of (get_or s zone_place 0);
      leap = eqb (get_or s announcement_place 0) letter_a;
      change = eqb (get_or s announcement_place 0) bang;
      quality = quality_of (get_or s failure_place 0);
    }

-- the first fault of the string s: its length, the base, its lowest bad byte, then what it says. Each zone's offset is good, and no
-- byte marks a leap second.
unfoldable pub fault_in : ℕ → List ℕ → Verdict
fault_in base s =
    first (not (eqb (length s) text_length)) Length
    (on_base base
    (first (ltb (good_places layout s) text_length) (Byte (good_places layout s))
    (fault_of (meaning base s) (digit (get_or s places.weekday 0)) false false places)))

-- the answer to the string s, where its two digits name a year of the hundred that starts with base
unfoldable pub read_meinberg : ℕ → List ℕ → Answer
read_meinberg base s = answer_of (fault_in base s) (meaning base s) (coasting_in s)
