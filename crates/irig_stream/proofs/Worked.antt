-- Cases 7 and 11 of document 01 as streams. 11: "Case 6's frame followed by its own pulses 1..99: two times, after pulse 100 and
-- after pulse 199, one mark shared"; and nothing after any other pulse. 7: "The same with pulse 84 cleared: code 7", after pulse 100.
use Rattle.std.specs.Prelude.{Err, None, Ok, Some}
use mathlib.Core.Bool.{cond}
use mathlib.Core.List.{List, [], ◌∷◌, ◌++◌}
use mathlib.Core.Path.{◌≡◌, refl, sym, ap, ◌∙◌}
use Prim.Native.Nat.{ℕ}
use lib.IntN.{pos}
use lib.ListN.{set, drop, replicate}
use Rattle.calendar.specs.Calendar.{leap_year, in_year, year_length}
use Rattle.laws.specs.Tests.{among}
use Rattle.reading.specs.Faults.{number}
use Rattle.reading.specs.Years.{usual_base as base, year_of, is_base, first_year}
use Rattle.reading.specs.Offset.{west, east, offset_good}
use Rattle.pulses.specs.Row.{group_of, weight_of, pulse_allowed, good_pulses, share_of, sum_of, sums_of, up_to, ones_from}
use Rattle.pulses.specs.Outline.{in_outline, outline_of}
use Rattle.irig_table.specs.Table.{frame_pulses}
use Rattle.irig_table.specs.Paper.{mark_due}
use Rattle.irig_table.proofs.WorkedFrame.{ones}
use Rattle.irig.specs.Offset.{odd_quarter}
use Rattle.irig.specs.Meaning.{second_in, minute_in, hour_in, day_in, digits_in, year_in, day_bad, second_of_day_wrong}
use Rattle.irig.specs.Faults.{frame_length, is_odd, fields_fault, values_fault, fault_in, read_frame, Answer}
use Rattle.irig.proofs.RoundTrip.{exactly}
use Rattle.irig.proofs.Worked.{case6, case_6, at_offset_carried}
use Rattle.streams.specs.Stream.{last_of, owed_to}
use Rattle.irig_stream.specs.Said.{say_of, owed, answers, Said}
use Rattle.irig_stream.proofs.StreamLaws.{fresh_says_owed}

-- case 6's frame, from the places of its marks and its ones
abbrev pulses6 : List ℕ
pulses6 = up_to (λ i. cond (mark_due i) 2 (cond (among i ones) 1 0)) frame_length

-- two answers of whole-frame reading, each after so many pulses that say nothing
abbrev twice : Answer → List Said
twice a = replicate 99 None ++ (Some a ∷ replicate 98 None ++ (Some a ∷ []))

outlines : owed_to (owed base) [] (pulses6 ++ drop 1 pulses6) ≡ twice (read_frame base pulses6)
unfolding owed_to owed say_of last_of outline_of in_outline group_of frame_pulses up_to ones
outlines = refl

read_6 : read_frame base pulses6 ≡ Ok case6
unfolding offset_good west east odd_quarter
read_6 = (exactly base pulses6 case6).1 (at_offset_carried (pos 4) refl refl, sym case_6)

pub case_11 : answers base (pulses6 ++ drop 1 pulses6) ≡ replicate 99 None ++ (Some (Ok case6) ∷ replicate 98 None ++ (Some (Ok case6) ∷ []))
case_11 = fresh_says_owed base (pulses6 ++ drop 1 pulses6) ∙ outlines ∙ ap twice read_6

-- ---- the same with pulse 84 cleared

abbrev pulses7 : List ℕ
pulses7 = set pulses6 84 0

outlines_7 : owed_to (owed base) [] pulses7 ≡ replicate 99 None ++ (Some (read_frame base pulses7) ∷ [])
unfolding owed_to owed say_of last_of outline_of in_outline group_of frame_pulses up_to ones
outlines_7 = refl

read_7 : read_frame base pulses7 ≡ Err (record { code = 7; place = 80 })
unfolding number read_frame fault_in values_fault fields_fault is_odd second_in minute_in hour_in day_in digits_in year_in day_bad second_of_day_wrong good_pulses pulse_allowed sums_of sum_of share_of up_to ones group_of weight_of frame_pulses ones_from leap_year in_year year_length year_of first_year is_base
read_7 = refl

pub case_7 : answers base pulses7 ≡ replicate 99 None ++ (Some (Err (record { code = 7; place = 80 })) ∷ [])
case_7 = fresh_says_owed base pulses7 ∙ outlines_7 ∙ ap (λ (a : Answer). replicate 99 None ++ (Some a ∷ [])) read_7
