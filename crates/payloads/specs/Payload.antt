-- What a case's payload holds: bytes at places, a reading in its first twelve, what a telegram is made of, and what is named for a
-- coasting mark.
use Rattle.telegram.specs.Telegram.{LeapSecond}
use Rattle.std.specs.Prelude.{ℕ, ◌+◌, ◌-◌, ◌*◌, Bool, cond, not, ◌||◌, List, ℤ, pos, negsuc, ◌==◌, nat_lt, slice_index, None, Some}
use Rattle.calendar.specs.declared.Date.{Date}
use Rattle.reading.specs.declared.Reading.{Reading}
use Rattle.summer.specs.declared.SetDay.{SetDay}
use Rattle.summer.specs.declared.SummerRule.{SummerRule}
use Rattle.telegram.specs.declared.Sender.{Sender}
use Rattle.telegram.specs.declared.Sent.{Sent}
use Rattle.bridge.specs.declared.Coasting.{Coasting}
use Rattle.bridge.specs.declared.Coasting.TheVariants.{Worse, Dropped}

-- the byte at a place; past the end it is 0
abbrev pub byte_at : List ℕ → ℕ → ℕ
byte_at s at = slice_index s at

-- a flag, which any byte but 0 sets
abbrev pub flag_at : List ℕ → ℕ → Bool
flag_at s at = not (byte_at s at == 0)

-- two bytes, the lower first
unfoldable pub pair_at : List ℕ → ℕ → ℕ
pair_at s at = byte_at s at + 256 * byte_at s (at + 1)

-- a byte as a signed number: from 128 on it stands for 256 less
unfoldable pub signed : ℕ → ℤ
signed b = cond (nat_lt b 128) (pos b) (negsuc (255 - b))

-- the reading in the first twelve bytes
unfoldable pub reading_in : List ℕ → Reading
reading_in s = record {
  year = pair_at s 0;
  month = byte_at s 2;
  day = byte_at s 3;
  hour = byte_at s 4;
  minute = byte_at s 5;
  second = byte_at s 6;
  offset = record { 0 = signed (byte_at s 7) };
  summer = flag_at s 8;
  leap = flag_at s 9;
  change = flag_at s 10;
  quality = byte_at s 11;
}

-- ---- what a telegram is made of

-- three bytes from a place on: month, day, weekday
unfoldable pub set_day_at : List ℕ → ℕ → SetDay
set_day_at s at = record { month = byte_at s at; day = byte_at s (at + 1); weekday = byte_at s (at + 2) }

-- four bytes from a place on: year, month, day
unfoldable pub date_at : List ℕ → ℕ → Date
date_at s at = record { year = pair_at s at; month = byte_at s (at + 2); day = byte_at s (at + 3) }

unfoldable pub rule_in : List ℕ → SummerRule
rule_in s = record { start = set_day_at s 0; end = set_day_at s 3 }

unfoldable pub sent_in : List ℕ → Sent
sent_in s = record { date = date_at s 6; hour = byte_at s 10; minute = byte_at s 11 }

-- none is configured where byte 12 is 0
unfoldable pub leap_in : List ℕ → LeapSecond
leap_in s = cond (flag_at s 12) (Some (date_at s 13)) None

-- what a plant configures
unfoldable pub sender_in : List ℕ → Sender
sender_in s = record { rule = rule_in s; leap = leap_in s }

-- ---- what is named for a coasting mark

-- byte 1 names a way where it is 1 or 2
unfoldable pub names_way : List ℕ → Bool
names_way s = byte_at s 1 == 1 || byte_at s 1 == 2

-- 2 drops the mark
unfoldable pub way_in : List ℕ → Coasting
way_in s = cond (byte_at s 1 == 2) Dropped Worse
