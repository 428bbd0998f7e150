-- The Meinberg string as a format of clock strings: the definitions that say what a string of it is and what it says.
use Rattle.std.specs.Prelude.{false, refl, get_or}
use Rattle.wire.specs.Digits.{digit}
use Rattle.strings.specs.Format.{Format, Fits}
use Rattle.meinberg.specs.Layout.{text_length, last_place, layout, places}
use Rattle.meinberg.specs.Meaning.{meaning, coasting_in}

-- each zone's offset is good, and no byte marks a leap second
abbrev pub format : Format
format = record {
  size = text_length;
  layout = layout;
  places = places;
  reading = meaning;
  weekday = λ s. digit (get_or s places.weekday 0);
  offset_wrong = λ s. false;
  mark_wrong = λ s. false;
  coasting = coasting_in;
}

pub fits : Fits format text_length last_place
unfolding layout
fits = record { size_is = refl; last_is = refl; layout_is = refl }
