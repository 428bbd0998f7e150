-- The bytes of what a writer carries are all that is owed to its buffer, and are read as just that: the reading, the coasting mark and the
-- position part.
use mathlib.Core.Bool.{Bool, true, false, cond, not, beq}
use mathlib.Core.List.{List, [], ◌∷◌, ◌++◌}
use mathlib.Core.Path.{◌≡◌, refl, sym}
use Prim.Native.Nat.{ℕ, ◌/◌, ◌%◌, ◌≤◌, ◌<◌}
use native.Mathlib.Decide.{ℕ_discrete}
use native.Mathlib.Nat.{mod-eq_of_lt}
use native.Mathlib.Omega.{arith}
use lib.Dec.{T, eqb, leb, leb→le}
use lib.ListN.{length, take, drop}
use lib.Seq.{take_at}
use borrow.Author.Tests.{not-true, eq-eqb, ne_eqb, le-leb}
use Rattle.laws.proofs.Bools.{is_true}
use Rattle.laws.specs.Tests.{below}
use Rattle.laws.proofs.Tested.{at}
use Rattle.wire.specs.Digits.{digit, ones}
use Rattle.wire.proofs.FirstBad.{clash}
use Rattle.wire.proofs.DigitLaws.{digit_back, pair_of}
use Rattle.calendar.specs.Calendar.{leap_year, days_in, weekday_of}
use Rattle.calendar.proofs.DateLaws.{real, month_of}
use Rattle.calendar.proofs.WeekdayLaws.{weekday_range}
use Rattle.reading.specs.declared.Reading.{Reading}
use Rattle.reading.specs.Universal.{date_of}
use Rattle.reading.specs.Faults.{no_fault}
use Rattle.reading.specs.Writing.{filled}
use Rattle.reading.proofs.YearLaws.{year_back}
use Rattle.reading.proofs.CheckLaws.{Checked, checked_is}
use Rattle.erlangen.specs.Layout.{size, position_at, position_size, etx, space, plus, minus, hash, star, letter_s, bang, letter_a, letter_l}
use Rattle.erlangen.specs.Offset.{is_behind, minutes_of}
use Rattle.erlangen.specs.Meaning.{shows, weekday_said, coasting_said, offset_wrong, mark_wrong, reading_of}
use Rattle.erlangen.specs.Writing.{date_bytes, time_bytes, offset_bytes, flag_bytes, bytes_of, not_carried, write_fault}
use Rattle.erlangen.proofs.OffsetLaws.{written_said, written_back, hours_few}
use Rattle.erlangen.proofs.FaultLaws.{Accepted, Carried, given_size}
use Rattle.erlangen.proofs.BytesLaws.{bytes-length}
use Rattle.erlangen.proofs.FitLaws.{fit_good, bytes_fit}

-- where nothing is wrong, the text before the rest of the buffer is all that is owed
pub stored_text : (base : ℕ) (r : Reading) (coasting : Bool) (position buffer : List ℕ) → no_fault ≡ write_fault base r position (length buffer)
    → bytes_of r coasting position ++ drop size buffer ≡ filled (write_fault base r position (length buffer)) (bytes_of r coasting position) buffer
stored_text base r coasting position buffer e =
    rw (sym e, bytes-length r coasting position (given_size base r position (length buffer) e))

-- ---- single fields

few : (l : Bool) → T (below (λ m. leb (days_in l m) 31) 13)
unfolding days_in
few true = tt
few false = tt

-- a month has at most 31 days
days_few : (l : Bool) (m : ℕ) → m < 13 → days_in l m ≤ 31
days_few l m h = leb→le (days_in l m) 31 (at (λ m. leb (days_in l m) 31) 13 (few l) m h)

-- a letter is shown where its flag is set
shown : (b : Bool) (x y : ℕ) → T (not (eqb y x)) → eqb (cond b x y) x ≡ b
shown true x y t = eq-eqb x x refl
shown false x y t = not-true (eqb y x) (is_true (not (eqb y x)) t)

agree : (b : Bool) → beq b b ≡ true
agree true = refl
agree false = refl

one_there : (v : ℕ) → v < 10 → digit (ones v) ≡ v
unfolding ones
one_there v h = rw (mod-eq_of_lt h) (digit_back v h)

-- a quality that is carried is 0 or 15
quality_back : (q : ℕ) → q ≤ 15 → not_carried q ≡ false → cond (eqb q 15) 15 0 ≡ q
unfolding not_carried
quality_back q h e = go (ℕ_discrete q 15) (ℕ_discrete q 0)
  where
    go : Dec (q ≡ 15) → Dec (q ≡ 0) → cond (eqb q 15) 15 0 ≡ q
    go (yes a) z = rw (eq-eqb q 15 a) (sym a)
    go (no a) (yes z) = rw (ne_eqb q 15 a) (sym z)
    go (no a) (no z) = absurd (clash refl (rw (le-leb 1 q (omega arith), le-leb q 14 (omega arith)) at e))

-- ---- a string that was written

module _ (base : ℕ) (r : Reading) (coasting : Bool) (position : List ℕ) (room : ℕ) (p : Carried base r position room) where
  abbrev bytes : List ℕ
  bytes = bytes_of r coasting position

  facts : Checked base r
  facts = checked_is base r p.checked

  day_few : (r.day < 100) × (r.month < 100)
  day_few =
      let q = real (date_of r) facts.date in
      let m = month_of (date_of r) q in
      (omega (arith, q.last, days_few (leap_year r.year) r.month (omega arith)), omega arith)

  reading_back : reading_of base bytes ≡ r
  unfolding reading_of bytes_of date_bytes time_bytes offset_bytes flag_bytes shows
  reading_back =
      let f = facts in
      let d = day_few in
      let z = r.offset.0 in
      let year = pair_of bytes 7 (r.year % 100) (omega arith) refl refl in
      let month = pair_of bytes 4 r.month d.1 refl refl in
      let day = pair_of bytes 1 r.day d.0 refl refl in
      let hour = pair_of bytes 14 r.hour (omega (arith, f.hour)) refl refl in
      let minute = pair_of bytes 17 r.minute (omega (arith, f.minute)) refl refl in
      let second = pair_of bytes 20 r.second (omega (arith, f.second)) refl refl in
      let hours = pair_of bytes 25 (minutes_of z / 60) (hours_few z f.offset) refl refl in
      let minutes = pair_of bytes 28 (minutes_of z % 60) (omega arith) refl refl in
      rw (
        year,
        year_back base r.year f.year,
        month,
        day,
        hour,
        minute,
        second,
        hours,
        minutes,
        shown (is_behind z) minus plus tt,
        written_back z f.offset,
        shown r.summer letter_s space tt,
        shown r.leap letter_a space tt,
        shown r.change bang space tt,
        shown (eqb r.quality 15) hash space tt,
        quality_back r.quality f.quality p.quality,
      )

  coasting_back : coasting_said bytes ≡ coasting
  unfolding coasting_said bytes_of date_bytes time_bytes offset_bytes flag_bytes shows
  coasting_back = shown coasting star space tt

  weekday_back : weekday_said bytes ≡ weekday_of (date_of r)
  unfolding weekday_said bytes_of date_bytes time_bytes offset_bytes flag_bytes
  weekday_back = let w = weekday_range (date_of r) in one_there (weekday_of (date_of r)) (omega arith)

  offset_back : offset_wrong bytes ≡ false
  unfolding offset_wrong bytes_of date_bytes time_bytes offset_bytes flag_bytes shows
  offset_back =
      let z = r.offset.0 in
      let good = facts.offset in
      let hours = pair_of bytes 25 (minutes_of z / 60) (hours_few z good) refl refl in
      let minutes = pair_of bytes 28 (minutes_of z % 60) (omega arith) refl refl in
      rw (hours, minutes, shown (is_behind z) minus plus tt) (written_said z good)

  mark_back : mark_wrong bytes ≡ false
  unfolding mark_wrong bytes_of date_bytes time_bytes offset_bytes flag_bytes shows
  mark_back =
      let second = pair_of bytes 20 r.second (omega (arith, facts.second)) refl refl in
      rw (second, shown (eqb r.second 60) letter_l space tt, agree (eqb r.second 60))

  pub bytes_accepted : Accepted base bytes
  bytes_accepted =
      let f = facts in
      record {
        size_is = bytes-length r coasting position p.size_is;
        base_good = f.base_good;
        bytes = fit_good (bytes_fit r coasting position p.size_is p.printing);
        sounds = rw reading_back (record {
          hour = f.hour;
          minute = f.minute;
          second = f.second;
          date = f.date;
          weekday = weekday_back;
          offset_good = offset_back;
          mark_good = mark_back;
          leap = f.leap;
        });
      }

  position_back : take position_size (drop position_at bytes) ≡ position
  unfolding bytes_of date_bytes time_bytes offset_bytes flag_bytes
  position_back = take_at position (etx ∷ []) position_size p.size_is

  -- what the bytes say
  pub says_back : (reading_of base bytes ≡ r) × (coasting_said bytes ≡ coasting) × (take position_size (drop position_at bytes) ≡ position)
  says_back = (reading_back, coasting_back, position_back)
