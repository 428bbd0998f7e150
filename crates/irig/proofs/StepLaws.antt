-- The reader's checks of the values of a frame, one after the other: the definition's first fault is that of the first step that finds one.
use mathlib.Core.Path.{◌≡◌, refl, ap, ◌∙◌}
use mathlib.Core.Bool.{Bool, true, false, ◌||◌}
use mathlib.Core.List.{List}
use Prim.Native.Nat.{ℕ, ◌≤◌}
use lib.ListN.{length}
use Rattle.reading.specs.Faults.{Verdict, no_fault}
use Rattle.reading.specs.Writing.{and_then}
use Rattle.reading.specs.Years.{is_base}
use Rattle.reading.specs.Checks.{hour_bad, minute_bad, second_bad}
use Rattle.pulses.specs.Row.{good_pulses, sums_of, over_nine}
use Rattle.irig_table.specs.Table.{frame_pulses, seconds, minutes, hours, days, tens_of_days, years, tens_of_years}
use Rattle.irig.specs.Meaning.{second_in, minute_in, hour_in, reading_of, day_bad, second_of_day_wrong, offset_bad}
use Rattle.irig.specs.Faults.{frame_length, digit_fault, parity_fault, time_fault, is_odd, fields_fault, values_fault, answer_of, read_frame}
use Rattle.irig.specs.Steps.{digit_step, time_step, rest_step}
use Rattle.irig.proofs.RefusalLaws.{good_pulses_lem}

-- ---- the faults of one code come before those of the checks after them

digits_first : (a b c d e : Bool) (w : Verdict) → digit_fault a b c d e w ≡ and_then (digit_fault a b c d e no_fault) w
digits_first true b c d e w = refl
digits_first false true c d e w = refl
digits_first false false true d e w = refl
digits_first false false false true e w = refl
digits_first false false false false true w = refl
digits_first false false false false false w = refl

parity_first : (odd : Bool) (w : Verdict) → parity_fault odd w ≡ and_then (parity_fault odd no_fault) w
parity_first true w = refl
parity_first false w = refl

time_first : (a b c : Bool) (w : Verdict) → time_fault a b c w ≡ and_then (time_fault a b c no_fault) w
time_first true b c w = refl
time_first false true c w = refl
time_first false false true w = refl
time_first false false false w = refl

-- ---- the four checks one after the other

module _ (base : ℕ) (v : List ℕ) where
  fields_in_steps : fields_fault base v ≡ and_then (time_step (reading_of base v)) (rest_step v (reading_of base v))
  unfolding fields_fault day_bad second_of_day_wrong offset_bad reading_of
  fields_in_steps = time_first (second_bad (second_in v)) (minute_bad (minute_in v)) (hour_bad (hour_in v)) (rest_step v (reading_of base v))

  pub in_steps : (odd : Bool) → values_fault base v odd
      ≡ and_then (digit_step v) (and_then (parity_fault odd no_fault) (and_then (time_step (reading_of base v)) (rest_step v (reading_of base v))))
  unfolding values_fault
  in_steps odd =
      digits_first (over_nine v seconds) (over_nine v minutes) (over_nine v hours)
      (over_nine v days || over_nine v tens_of_days) (over_nine v years || over_nine v tens_of_years)
      (parity_fault odd (fields_fault base v))
      ∙ ap (and_then (digit_step v)) (parity_first odd (fields_fault base v) ∙ ap (and_then (parity_fault odd no_fault)) fields_in_steps)

-- what is read of a hundred pulses that are all good
pub read_in_steps : (base : ℕ) (s v : List ℕ)
    → (length s ≡ frame_length) × (is_base base ≡ true) → frame_length ≤ good_pulses frame_pulses s → v ≡ sums_of frame_pulses s
    → read_frame base s
    ≡ answer_of
    (and_then (digit_step v) (and_then (parity_fault (is_odd s) no_fault) (and_then (time_step (reading_of base v)) (rest_step v (reading_of base v)))))
    (reading_of base v)
read_in_steps base s v asked all is =
    rw (good_pulses_lem base s asked.0 asked.1 all, ← is, in_steps base v (is_odd s))
