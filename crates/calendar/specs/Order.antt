-- The order of dates, as it is read off their fields.
use Rattle.std.specs.Prelude.{◌⊎◌, ◌≡◌, ◌<◌}
use Rattle.calendar.specs.declared.Date.{Date}

-- by year, month, day: the first that differs decides
abbrev pub Earlier : Date → Date → Type 0
Earlier s t =
    (s.year < t.year)
    ⊎ (((s.year ≡ t.year) × (s.month < t.month)) ⊎ ((s.year ≡ t.year) × (s.month ≡ t.month) × (s.day < t.day)))
