-- The UTC second of a reading, and the order of such seconds as it is read off their fields.
use Rattle.std.specs.Prelude.{◌⊎◌, ◌≡◌, ℕ, ◌/◌, ◌%◌, ◌<◌}
use Rattle.calendar.specs.declared.Date.{Date}
use Rattle.calendar.specs.Order.{Earlier}
use Rattle.reading.specs.declared.Reading.{Reading}
use Rattle.reading.specs.Universal.{utc_of}

pub record UtcSecond : Type 0 where
  pub date : Date
  pub hour : ℕ
  pub minute : ℕ
  pub second : ℕ

unfoldable pub utc_second : Reading → UtcSecond
utc_second r = record { date = (utc_of r).date; hour = (utc_of r).minute / 60; minute = (utc_of r).minute % 60; second = r.second }

-- by hour, minute, second: the first that differs decides
abbrev pub EarlierTime : UtcSecond → UtcSecond → Type 0
EarlierTime s t =
    (s.hour < t.hour)
    ⊎ (((s.hour ≡ t.hour) × (s.minute < t.minute)) ⊎ ((s.hour ≡ t.hour) × (s.minute ≡ t.minute) × (s.second < t.second)))

-- by year, month, day, hour, minute, second: the first that differs decides
abbrev pub EarlierSecond : UtcSecond → UtcSecond → Type 0
EarlierSecond s t = Earlier s.date t.date ⊎ ((s.date ≡ t.date) × EarlierTime s t)
