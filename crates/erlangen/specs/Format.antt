-- The Uni Erlangen string as a format of clock strings: the definitions that say what a string of it is and what it says.
use Rattle.std.specs.Prelude.{refl, ℕ}
use Rattle.strings.specs.Format.{Format, Fits}
use Rattle.erlangen.specs.Layout.{size, layout}
use Rattle.erlangen.specs.Meaning.{places, weekday_said, coasting_said, offset_wrong, mark_wrong, reading_of}

-- the largest place
abbrev pub last_place : ℕ
last_place = 67

abbrev pub format : Format
format = record {
  size = size;
  layout = layout;
  places = places;
  reading = reading_of;
  weekday = weekday_said;
  offset_wrong = offset_wrong;
  mark_wrong = mark_wrong;
  coasting = coasting_said;
}

pub fits : Fits format size last_place
unfolding layout
fits = record { size_is = refl; last_is = refl; layout_is = refl }
