-- Case 8 of document 01 as a stream: after a gap, its sixty marks are told once, at the closing gap; with mark 58 cleared they are
-- refused there, by code 4. Literal numbers throughout.
use Rattle.std.specs.Prelude.{Err, None, Ok, Some}
use mathlib.Core.Bool.{false}
use mathlib.Core.List.{List, [], ◌∷◌, ◌++◌}
use mathlib.Core.Path.{◌≡◌, refl, ap, ◌∙◌}
use Prim.Native.Nat.{ℕ}
use lib.IntN.{pos}
use lib.ListN.{set, replicate}
use Rattle.calendar.specs.Calendar.{leap_year, days_in, days_before, year_length, days_before_year, day_of_year, day_number, weekday_of, is_month, last_day, is_day}
use Rattle.reading.specs.declared.Reading.{Reading}
use Rattle.reading.specs.Faults.{number}
use Rattle.reading.specs.Checks.{day_bad, month_bad, weekday_wrong}
use Rattle.reading.specs.Years.{usual_base as base, year_of, is_base, first_year}
use Rattle.pulses.specs.Row.{group_of, weight_of, pulse_allowed, good_pulses, share_of, sum_of, sums_of, up_to, ones_from, lies_within, ones_of}
use Rattle.dcf77_table.specs.Table.{shared_marks, last_marks, minute_marks}
use Rattle.dcf77.specs.Zones.{offset_in, zone_of, zone_bad}
use Rattle.dcf77.specs.Forms.{due_long}
use Rattle.dcf77.specs.Reader.{is_long, table_for, says, reading_of, length_bad, digit_fault, odd, parity_fault, field_fault, rule_fault, said_fault, read_fault, read_dcf77, Answer}
use Rattle.streams.specs.Stream.{last_of, owed_to}
use Rattle.dcf77_stream.specs.Said.{marks_then_gap, between_gaps, outlined, owed, answers, Said}
use Rattle.dcf77_stream.proofs.StreamLaws.{fresh_says_owed}

-- ones at 18 20 23 25 26 28 30 33 36 39 41 44 46 52 55 58, and a 2 at 59
abbrev marks8 : List ℕ
marks8 =
    0 ∷ 0 ∷ 0 ∷ 0 ∷ 0 ∷ 0 ∷ 0 ∷ 0 ∷ 0 ∷ 0
    ∷ 0 ∷ 0 ∷ 0 ∷ 0 ∷ 0 ∷ 0 ∷ 0 ∷ 0 ∷ 1 ∷ 0
    ∷ 1 ∷ 0 ∷ 0 ∷ 1 ∷ 0 ∷ 1 ∷ 1 ∷ 0 ∷ 1 ∷ 0
    ∷ 1 ∷ 0 ∷ 0 ∷ 1 ∷ 0 ∷ 0 ∷ 1 ∷ 0 ∷ 0 ∷ 1
    ∷ 0 ∷ 1 ∷ 0 ∷ 0 ∷ 1 ∷ 0 ∷ 1 ∷ 0 ∷ 0 ∷ 0
    ∷ 0 ∷ 0 ∷ 1 ∷ 0 ∷ 0 ∷ 1 ∷ 0 ∷ 0 ∷ 1 ∷ 2
    ∷ []

-- 2024-02-29 12:34, an hour ahead of UTC
abbrev case8 : Reading
case8 = record {
  year = 2024;
  month = 2;
  day = 29;
  hour = 12;
  minute = 34;
  second = 0;
  offset = record { 0 = pos 4 };
  summer = false;
  leap = false;
  change = false;
  quality = 0;
}

-- an answer at the closing gap, and nothing before it
abbrev once : Said → List Said
once said = replicate 60 None ++ (said ∷ [])

outlines : owed_to (owed base) [] (2 ∷ marks8) ≡ once (Some (read_dcf77 base marks8))
unfolding owed_to owed outlined last_of between_gaps marks_then_gap
outlines = refl

outlines_cleared : owed_to (owed base) [] (2 ∷ set marks8 58 0) ≡ once (Some (read_dcf77 base (set marks8 58 0)))
unfolding owed_to owed outlined last_of between_gaps marks_then_gap
outlines_cleared = refl

reads : read_dcf77 base marks8 ≡ Ok (case8, 0)
unfolding read_dcf77 read_fault said_fault rule_fault weekday_wrong field_fault day_bad month_bad parity_fault odd digit_fault length_bad reading_of says table_for is_long due_long zone_bad zone_of offset_in minute_marks shared_marks last_marks good_pulses pulse_allowed sums_of sum_of share_of up_to group_of weight_of ones_of lies_within ones_from year_of leap_year days_in days_before year_length days_before_year day_of_year day_number weekday_of is_month last_day is_day first_year is_base
reads = refl

refuses : read_dcf77 base (set marks8 58 0) ≡ Err (record { code = 4; place = 58 })
unfolding number read_dcf77 read_fault said_fault parity_fault odd digit_fault length_bad reading_of says table_for is_long minute_marks shared_marks last_marks good_pulses pulse_allowed sums_of sum_of share_of up_to group_of weight_of ones_of lies_within ones_from is_base
refuses = refl

pub case_8 : answers base (2 ∷ marks8) ≡ replicate 60 None ++ (Some (Ok (case8, 0)) ∷ [])
case_8 = fresh_says_owed base (2 ∷ marks8) ∙ outlines ∙ ap (λ (a : Answer). once (Some a)) reads

pub case_8_refused : answers base (2 ∷ set marks8 58 0) ≡ replicate 60 None ++ (Some (Err (record { code = 4; place = 58 })) ∷ [])
case_8_refused = fresh_says_owed base (2 ∷ set marks8 58 0) ∙ outlines_cleared ∙ ap (λ (a : Answer). once (Some a)) refuses
