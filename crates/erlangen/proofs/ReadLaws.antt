-- An accepted string is the one that its own reading, coasting mark and position part are written as, row by row.
use Rattle.reading.specs.Faults.{no_fault}
use mathlib.Core.Bool.{Bool, true, false, cond, ◌&&◌, beq}
use mathlib.Core.List.{List, [], ◌∷◌, ◌++◌}
use mathlib.Core.Path.{◌≡◌, refl, sym, ◌∙◌}
use Prim.Native.Nat.{ℕ, ◌+◌, ◌%◌, ◌≤◌, ◌<◌}
use native.Mathlib.Nat.{mod-eq_of_lt}
use native.Mathlib.Omega.{arith}
use lib.Dec.{T, eqb, ltb}
use lib.ListN.{length, get_or, take, drop, length-drop, take-append-drop, drop_of_length-le}
use lib.Seq.{length-take-le, drop-drop, get_or-take, get_or-drop}
use borrow.Author.Tests.{not-false}
use Rattle.laws.proofs.Bools.{holds as is_held_lem, same_bool}
use Rattle.laws.specs.Tests.{below}
use Rattle.laws.proofs.Tested.{at}
use Rattle.wire.specs.Layout.{packed, exactly, from, either, printable, printables}
use Rattle.wire.specs.Digits.{pair, tens, ones}
use Rattle.wire.proofs.LayoutLaws.{all-printables}
use Rattle.reading.specs.Years.{in_hundred, year_of}
use Rattle.reading.specs.Offset.{offset_good}
use Rattle.reading.specs.Checks.{checked_of}
use Rattle.reading.proofs.YearLaws.{digits_of, year_in_lem}
use Rattle.reading.proofs.CheckLaws.{is_checked}
use Rattle.erlangen.specs.Layout.{size, position_at, position_size, stx, etx, space, dot, colon, semicolon, plus, minus, hash, star, letter_s, bang, letter_a, letter_l, layout}
use Rattle.erlangen.specs.Meaning.{shows, weekday_said, coasting_said, offset_wrong, mark_wrong, reading_of}
use Rattle.erlangen.specs.Writing.{date_bytes, time_bytes, offset_bytes, flag_bytes, bytes_of, not_carried}
use Rattle.erlangen.proofs.OffsetLaws.{said_good, said_written}
use Rattle.erlangen.proofs.FaultLaws.{Accepted, Carried}
use Rattle.erlangen.proofs.PlaceLaws.{holds, holds_two, holds_one, fixed, printable_at_lem, one_back, two_back, mark_back, run, run_is}

year_digits_lem : (base d : ℕ) → d < 100 → year_of base d % 100 ≡ d
year_digits_lem base d h = digits_of base d ∙ mod-eq_of_lt h

failed_back : (b : Bool) → eqb (cond b 15 0) 15 ≡ b
failed_back true = refl
failed_back false = refl

failed_good : (b : Bool) → (cond b 15 0 ≤ 15) × (not_carried (cond b 15 0) ≡ false)
unfolding not_carried
failed_good true = (omega arith, refl)
failed_good false = (omega arith, refl)

module _ (base : ℕ) (s : List ℕ) (p : Accepted base s) where
  byte : (i b : ℕ) → T (holds i (exactly b) && ltb b 256) → get_or s i 0 ≡ b
  byte = fixed s p.size_is p.bytes

  two : (i : ℕ) → T (holds_two i) → (pair s i < 100) × (tens (pair s i) ≡ get_or s i 0) × (ones (pair s i) ≡ get_or s (i + 1) 0)
  two = two_back s p.size_is p.bytes

  mark : (i a b : ℕ) → T (holds_one i a b) → cond (shows s i a) a b ≡ get_or s i 0
  mark = mark_back s p.size_is p.bytes

  date_row : date_bytes (reading_of base s) ≡ run s 0 14
  unfolding date_bytes reading_of weekday_said layout exactly from either packed
  date_row =
      let d = two 1 tt in
      let m = two 4 tt in
      let y = two 7 tt in
      rw (
        year_digits_lem base (pair s 7) y.0,
        ← p.sounds.weekday,
        one_back s p.size_is p.bytes 11 tt,
        d.1,
        d.2,
        m.1,
        m.2,
        y.1,
        y.2,
        byte 0 stx tt,
        byte 3 dot tt,
        byte 6 dot tt,
        byte 9 semicolon tt,
        byte 10 space tt,
        byte 12 semicolon tt,
        byte 13 space tt,
      )

  time_row : time_bytes (reading_of base s) ≡ run s 14 10
  unfolding time_bytes reading_of layout exactly from either packed
  time_row =
      let h = two 14 tt in
      let m = two 17 tt in
      let z = two 20 tt in
      rw (h.1, h.2, m.1, m.2, z.1, z.2, byte 16 colon tt, byte 19 colon tt, byte 22 semicolon tt, byte 23 space tt)

  offset_row : offset_bytes (reading_of base s).offset.0 ≡ run s 24 8
  unfolding offset_bytes reading_of offset_wrong layout exactly from either packed
  offset_row =
      let w = said_written (shows s 24 minus) (pair s 25) (pair s 28) p.sounds.offset_good in
      let h = two 25 tt in
      let m = two 28 tt in
      rw (w.sign, w.hours_are, w.minutes_are, mark 24 minus plus tt, h.1, h.2, m.1, m.2, byte 27 colon tt, byte 30 semicolon tt, byte 31 space tt)

  sixty : eqb (pair s 20) 60 ≡ shows s 38 letter_l
  unfolding mark_wrong
  sixty =
      let a = shows s 38 letter_l in
      let b = eqb (pair s 20) 60 in
      sym (same_bool a b (is_held_lem (beq a b) (not-false (beq a b) p.sounds.mark_good)))

  flag_row : flag_bytes (reading_of base s) (coasting_said s) ≡ run s 32 9
  unfolding flag_bytes reading_of coasting_said layout exactly from either packed
  flag_row =
      rw (
        failed_back (shows s 32 hash),
        sixty,
        mark 32 hash space tt,
        mark 33 star space tt,
        mark 34 letter_s space tt,
        mark 35 bang space tt,
        mark 36 letter_a space tt,
        mark 38 letter_l space tt,
        byte 37 space tt,
        byte 39 semicolon tt,
        byte 40 space tt,
      )

  tail_row : etx ∷ [] ≡ drop 67 s
  unfolding layout exactly from either packed
  tail_row =
      let l : length s ≤ 68 = omega (arith, p.size_is) in
      sym (run_is s 67 1 (omega (arith, p.size_is)) ∙ rw (byte 67 etx tt, drop_of_length-le s l))

  position_row : drop position_at s ≡ take position_size (drop position_at s) ++ (etx ∷ [])
  position_row = sym (take-append-drop position_size (drop position_at s)) ∙ rw (drop-drop position_size position_at s, ← tail_row)

  -- what is read is written as the same bytes
  pub bytes_back : bytes_of (reading_of base s) (coasting_said s) (take position_size (drop position_at s)) ≡ s
  unfolding bytes_of
  bytes_back =
      let l = p.size_is in
      rw (
        date_row,
        time_row,
        offset_row,
        flag_row,
        ← position_row,
        ← run_is s 32 9 (omega arith),
        ← run_is s 24 8 (omega arith),
        ← run_is s 14 10 (omega arith),
        ← run_is s 0 14 (omega arith),
      )

  -- ---- what is read is carried by the writer

  pub position-length : length (take position_size (drop position_at s)) ≡ position_size
  position-length = length-take-le position_size (drop position_at s) (rw length-drop (omega (arith, p.size_is)))

  printing : T (below (λ i. holds (position_at + i) (from 32 126)) position_size)
  unfolding layout exactly from either packed
  printing = tt

  pub position_printable : printables (take position_size (drop position_at s)) ≡ length (take position_size (drop position_at s))
  position_printable = all-printables (take position_size (drop position_at s)) (λ i h. each i (omega (arith, position-length)))
    where
      each : (i : ℕ) → i < position_size → printable (get_or (take position_size (drop position_at s)) i 0) ≡ true
      each i h =
          rw (get_or-take position_size (drop position_at s) i 0 h, get_or-drop position_at s i 0)
          (printable_at_lem s p.size_is p.bytes (position_at + i) (at (λ i. holds (position_at + i) (from 32 126)) position_size printing i h))

  offset_good_lem : offset_good (reading_of base s).offset.0 ≡ true
  unfolding reading_of offset_wrong
  offset_good_lem = said_good (shows s 24 minus) (pair s 25) (pair s 28) p.sounds.offset_good

  quality_good : ((reading_of base s).quality ≤ 15) × (not_carried (reading_of base s).quality ≡ false)
  unfolding reading_of
  quality_good = failed_good (shows s 32 hash)

  year_good : in_hundred base (reading_of base s).year ≡ true
  unfolding reading_of
  year_good = year_in_lem base (pair s 7)

  pub reading_checked : checked_of base (reading_of base s) ≡ no_fault
  reading_checked =
      let q = p.sounds in
      is_checked base (reading_of base s) (record {
        base_good = p.base_good;
        hour = q.hour;
        minute = q.minute;
        second = q.second;
        year = year_good;
        date = q.date;
        quality = quality_good.0;
        offset = offset_good_lem;
        leap = q.leap;
      })

  pub reading_carried : (room : ℕ) → size ≤ room → Carried base (reading_of base s) (take position_size (drop position_at s)) room
  reading_carried room h =
      record {
        roomy = h;
        size_is = position-length;
        printing = position_printable;
        checked = reading_checked;
        quality = quality_good.1;
      }
