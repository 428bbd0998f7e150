-- 2024-02-29 12:34:56 read and written, which offsets a string may say, what each letter says, the mark of a leap second, and
-- which of several faults is told: literal bytes and literal answers, computed from the definitions.
use Rattle.std.specs.Prelude.{Err, Ok}
use mathlib.Core.Bool.{Bool, true, false}
use mathlib.Core.List.{List, [], ◌∷◌, ◌++◌, map}
use mathlib.Core.Path.{◌≡◌, refl}
use Prim.Native.Nat.{ℕ, ◌+◌}
use lib.IntN.{ℤ, pos, negsuc}
use lib.ListN.{replicate}
use Rattle.wire.specs.Layout.{packed, exactly, from, either, within, beside, allowed, good_places, printable, printables}
use Rattle.wire.specs.Digits.{digit, pair, tens, ones}
use Rattle.calendar.specs.Calendar.{leap_year, days_in, last_day, is_month, is_day, is_date, days_before, day_of_year, year_length, days_before_year, day_number, weekday_of}
use Rattle.reading.specs.declared.Reading.{Reading}
use Rattle.reading.specs.Faults.{number, no_fault}
use Rattle.reading.specs.Years.{usual_base as base, in_hundred, year_of, is_base, first_year}
use Rattle.reading.specs.Offset.{west, east, offset_good}
use Rattle.reading.specs.Universal.{utc_minutes, on_day, utc_of}
use Rattle.reading.specs.Leap.{closes_with_leap, leap_minute, sixty_bad}
use Rattle.reading.specs.Checks.{time_bad, date_bad, checked_of, day_bad, month_bad, weekday_wrong, sound_of}
use Rattle.strings.specs.Checks.{weekday_bad, fault_of, Answer}
use Rattle.erlangen.specs.Layout.{size, layout}
use Rattle.erlangen.specs.Offset.{whole_units, units_of, too_far, offset_bad, signed, offset_of, is_behind, minutes_of}
use Rattle.erlangen.specs.Meaning.{shows, weekday_said, coasting_said, offset_wrong, mark_wrong, reading_of, fault_in, read_erlangen}
use Rattle.erlangen.specs.Writing.{date_bytes, time_bytes, offset_bytes, flag_bytes, bytes_of, not_carried, length_bad, carried_of, write_fault}

-- the bytes of the digits 0 to 9
abbrev d : ℕ → ℕ
d n = 48 + n

-- `29.mm.24; w; 12:34:56; `
abbrev on : ℕ → ℕ → ℕ → List ℕ
on m n w =
    d 2 ∷ d 9 ∷ 46 ∷ d m ∷ d n ∷ 46 ∷ d 2 ∷ d 4 ∷ 59 ∷ 32 ∷ d w ∷ 59 ∷ 32
    ∷ d 1 ∷ d 2 ∷ 58 ∷ d 3 ∷ d 4 ∷ 58 ∷ d 5 ∷ d 6 ∷ 59 ∷ 32 ∷ []

-- `29.02.24; 4; 12:34:56; `
abbrev pub usual : List ℕ
usual = on 0 2 4

-- `31.12.16; 6; 23:59:60; `
abbrev sixty : List ℕ
sixty =
    d 3 ∷ d 1 ∷ 46 ∷ d 1 ∷ d 2 ∷ 46 ∷ d 1 ∷ d 6 ∷ 59 ∷ 32 ∷ d 6 ∷ 59 ∷ 32
    ∷ d 2 ∷ d 3 ∷ 58 ∷ d 5 ∷ d 9 ∷ 58 ∷ d 6 ∷ d 0 ∷ 59 ∷ 32 ∷ []

-- `+oo:oo` and `-oo:oo`
abbrev pub ahead : ℕ → ℕ → ℕ → ℕ → List ℕ
ahead a b m n = 43 ∷ d a ∷ d b ∷ 58 ∷ d m ∷ d n ∷ []

abbrev behind : ℕ → ℕ → ℕ → ℕ → List ℕ
behind a b m n = 45 ∷ d a ∷ d b ∷ 58 ∷ d m ∷ d n ∷ []

-- `acdfg i`
abbrev letters : ℕ → ℕ → ℕ → ℕ → ℕ → ℕ → List ℕ
letters a c s f g i = a ∷ c ∷ s ∷ f ∷ g ∷ 32 ∷ i ∷ []

abbrev pub none : List ℕ
none = letters 32 32 32 32 32 32

-- and with `L` alone
abbrev leap_mark : List ℕ
leap_mark = letters 32 32 32 32 32 76

abbrev pub spaces : List ℕ
spaces = replicate 26 32

-- the string of a date and time, an offset and letters, with a position of spaces
pub string : List ℕ → List ℕ → List ℕ → List ℕ
string time offset flags = (2 ∷ time) ++ offset ++ (59 ∷ 32 ∷ flags) ++ (59 ∷ 32 ∷ []) ++ spaces ++ (3 ∷ [])

-- 2024-02-29 12:34:56 at an offset, with a summer flag, a leap second or a change announced, and a quality
abbrev flagged : ℤ → Bool → Bool → Bool → ℕ → Reading
flagged offset summer leap change quality = record {
  year = 2024;
  month = 2;
  day = 29;
  hour = 12;
  minute = 34;
  second = 56;
  offset = record { 0 = offset };
  summer = summer;
  leap = leap;
  change = change;
  quality = quality;
}

-- with no flags and of quality 0
unfoldable pub reading : ℤ → Reading
reading offset = flagged offset false false false 0

-- UTC 2016-12-31 23:59:60
abbrev at_leap_second : Reading
at_leap_second = record {
  year = 2016;
  month = 12;
  day = 31;
  hour = 23;
  minute = 59;
  second = 60;
  offset = record { 0 = pos 0 };
  summer = false;
  leap = false;
  change = false;
  quality = 0;
}

-- an hour ahead of UTC
abbrev pub hour_ahead : ℤ
hour_ahead = pos 4

abbrev refused : ℕ → ℕ → Answer
refused code place = Err (record { code = code; place = place })

pub worked_bytes : bytes_of (reading hour_ahead) false spaces ≡ string usual (ahead 0 1 0 0) none
unfolding reading string bytes_of date_bytes time_bytes offset_bytes flag_bytes is_behind minutes_of west east tens ones weekday_of day_number day_of_year days_before_year days_before days_in year_length leap_year
worked_bytes = refl

pub worked_carried : write_fault base (reading hour_ahead) spaces size ≡ no_fault
unfolding reading write_fault length_bad carried_of not_carried printables printable checked_of time_bad date_bad in_hundred is_date is_month is_day last_day days_in leap_year offset_good west east sixty_bad first_year is_base sound_of
worked_carried = refl

-- `+14:00`, `-12:00`, and a leap second with its mark
abbrev accepted : List (List ℕ)
accepted =
    string usual (ahead 1 4 0 0) none ∷ string usual (behind 1 2 0 0) none ∷ string sixty (ahead 0 0 0 0) leap_mark ∷ []

-- L9: "minutes 00, 15, 30 and 45", `+05:45` and `-09:30` among them, and the least to either side
abbrev quarters : List (List ℕ)
quarters =
    string usual (ahead 0 5 0 0) none ∷ string usual (ahead 0 5 1 5) none ∷ string usual (ahead 0 5 3 0) none ∷ string usual (ahead 0 5 4 5) none
    ∷ string usual (behind 0 9 3 0) none ∷ string usual (ahead 0 0 1 5) none ∷ string usual (behind 0 0 1 5) none ∷ []

-- `#`, `*`, `S`, `!` and `A`, each alone
abbrev lettered : List (List ℕ)
lettered =
    string usual (ahead 0 1 0 0) (letters 35 32 32 32 32 32) ∷ string usual (ahead 0 1 0 0) (letters 32 42 32 32 32 32)
    ∷ string usual (ahead 0 2 0 0) (letters 32 32 83 32 32 32) ∷ string usual (ahead 0 1 0 0) (letters 32 32 32 33 32 32)
    ∷ string usual (ahead 0 1 0 0) (letters 32 32 32 32 65 32) ∷ []

-- weekdays 0 and 8, and month 13 with `+00:10`, which is no offset
abbrev out_of_range : List (List ℕ)
out_of_range =
    string (on 0 2 0) (ahead 0 1 0 0) none ∷ string (on 0 2 8) (ahead 0 1 0 0) none ∷ string (on 1 3 4) (ahead 0 0 1 0) none ∷ []

-- strings that say no offset: `+14:15`, `-12:15`, `-00:00`, `+05:60`, `+99:99`, `+01:01`, `+05:20`, `+05:50`
abbrev offset_wrong_lem : List (List ℕ)
offset_wrong_lem =
    string usual (ahead 1 4 1 5) none ∷ string usual (behind 1 2 1 5) none ∷ string usual (behind 0 0 0 0) none
    ∷ string usual (ahead 0 5 6 0) none ∷ string usual (ahead 9 9 9 9) none ∷ string usual (ahead 0 1 0 1) none
    ∷ string usual (ahead 0 5 2 0) none ∷ string usual (ahead 0 5 5 0) none ∷ []

-- a leap second without its mark, a mark without its leap second, and a leap second an hour too late
abbrev leap_wrong : List (List ℕ)
leap_wrong = string sixty (ahead 0 0 0 0) none ∷ string usual (ahead 0 0 0 0) leap_mark ∷ string sixty (ahead 0 1 0 0) leap_mark ∷ []

pub worked_read :
    (read_erlangen base (string usual (ahead 0 1 0 0) none) ≡ Ok ((reading hour_ahead), false))
    × (read_erlangen base (string usual (ahead 0 0 0 0) none) ≡ Ok ((reading (pos 0)), false))
    × (map (read_erlangen base) accepted
    ≡ Ok ((reading (pos 56)), false) ∷ Ok ((reading (negsuc 47)), false) ∷ Ok (at_leap_second, false) ∷ [])
    × (map (read_erlangen base) quarters
    ≡ Ok ((reading (pos 20)), false) ∷ Ok ((reading (pos 21)), false) ∷ Ok ((reading (pos 22)), false) ∷ Ok ((reading (pos 23)), false)
    ∷ Ok ((reading (negsuc 37)), false) ∷ Ok ((reading (pos 1)), false) ∷ Ok ((reading (negsuc 0)), false) ∷ [])
    × (map (read_erlangen base) lettered
    ≡ Ok ((flagged (pos 4) false false false 15), false) ∷ Ok ((flagged (pos 4) false false false 0), true) ∷ Ok ((flagged (pos 8) true false false 0), false)
    ∷ Ok ((flagged (pos 4) false false true 0), false) ∷ Ok ((flagged (pos 4) false true false 0), false) ∷ [])
    × (read_erlangen base (string usual (ahead 0 1 0 0) (letters 37 32 32 32 32 32)) ≡ refused 2 32)
    × (map (read_erlangen base) out_of_range ≡ refused 16 11 ∷ refused 16 11 ∷ refused 16 4 ∷ [])
    × (read_erlangen base (string (on 0 2 3) (behind 0 0 0 0) none) ≡ refused 6 11)
    × (map (read_erlangen base) offset_wrong_lem ≡ replicate 8 (refused 8 24))
    × (map (read_erlangen base) leap_wrong ≡ replicate 3 (refused 9 20))
unfolding reading string read_erlangen fault_in reading_of coasting_said weekday_said offset_wrong mark_wrong shows layout good_places allowed within beside exactly from either packed digit pair year_of offset_of offset_bad whole_units units_of too_far signed fault_of day_bad month_bad weekday_bad weekday_wrong sixty_bad leap_minute closes_with_leap utc_of utc_minutes on_day west east is_month is_day last_day weekday_of day_number day_of_year days_before_year days_before days_in year_length leap_year number first_year is_base
worked_read = (refl, refl, refl, refl, refl, refl, refl, refl, refl, refl)
