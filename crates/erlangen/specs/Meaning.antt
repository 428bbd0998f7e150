-- What a Uni Erlangen string says, field by field, and the answer to it.
use Rattle.std.specs.Prelude.{Bool, cond, not, List, ℕ, eqb, ltb, length, get_or, take, drop}
use Rattle.std.specs.Bool.{beq}
use Rattle.wire.specs.Layout.{good_places}
use Rattle.wire.specs.Digits.{digit, pair}
use Rattle.reading.specs.declared.Reading.{Reading}
use Rattle.reading.specs.declared.Fault.TheVariants.{Length, Byte}
use Rattle.reading.specs.Faults.{first, Verdict}
use Rattle.reading.specs.Checks.{on_base}
use Rattle.reading.specs.Years.{year_of}
use Rattle.strings.specs.declared.Places.{Places}
use Rattle.strings.specs.Checks.{fault_of, answer_of, Answer}
use Rattle.erlangen.specs.Layout.{size, position_at, position_size, minus, hash, star, letter_s, bang, letter_a, letter_l, layout}
use Rattle.erlangen.specs.Offset.{offset_bad, offset_of}

-- the byte b stands at a place
unfoldable pub shows : List ℕ → ℕ → ℕ → Bool
shows s place b = eqb (get_or s place 0) b

-- where the fields start
abbrev pub places : Places
places = record { day = 1; month = 4; weekday = 11; hour = 14; minute = 17; second = 20; offset = 24 }

-- "1 = Monday"
unfoldable pub weekday_said : List ℕ → ℕ
weekday_said s = digit (get_or s 11 0)

-- c is `*`
unfoldable pub coasting_said : List ℕ → Bool
coasting_said s = shows s 33 star

-- what voo:oo says is no offset
unfoldable pub offset_wrong : List ℕ → Bool
offset_wrong s = offset_bad (shows s 24 minus) (pair s 25) (pair s 28)

-- "i `L` exactly at second 60" does not hold
unfoldable pub mark_wrong : List ℕ → Bool
mark_wrong s = not (beq (shows s 38 letter_l) (eqb (pair s 20) 60))

-- the reading that a string says, its year one of the hundred from a base year on
unfoldable pub reading_of : ℕ → List ℕ → Reading
reading_of base s = record {
  year = year_of base (pair s 7);
  month = pair s 4;
  day = pair s 1;
  hour = pair s 14;
  minute = pair s 17;
  second = pair s 20;
  offset = record { 0 = offset_of (shows s 24 minus) (pair s 25) (pair s 28) };
  summer = shows s 34 letter_s;
  leap = shows s 36 letter_a;
  change = shows s 35 bang;
  quality = cond (shows s 32 hash) 15 0;
}

-- the first fault of a string: its length, the base, a byte, or what it says
unfoldable pub fault_in : ℕ → List ℕ → Verdict
fault_in base s =
    first (not (eqb (length s) size)) Length
    (on_base base
    (first (ltb (good_places layout s) size) (Byte (good_places layout s))
    (fault_of (reading_of base s) (weekday_said s) (offset_wrong s) (mark_wrong s) places)))

-- the time that a string says with its coasting mark, or the refusal of its first fault
unfoldable pub read_erlangen : ℕ → List ℕ → Answer
read_erlangen base s = answer_of (fault_in base s) (reading_of base s) (coasting_said s)

-- "26 position bytes at 41..66"
abbrev pub position_bytes : List ℕ → List ℕ
position_bytes s = take position_size (drop position_at s)
