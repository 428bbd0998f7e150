-- A buffer of `room_for_any` bytes holds the listing of every book: a record that is not the last has 33 bytes or more, and no
-- line has more than 88.
use Rattle.reading.specs.Stamps.{Stamp}
use Rattle.std.specs.Prelude.{Err, Ok}
use mathlib.Core.Bool.{Bool, true, false}
use mathlib.Core.List.{List, ◌++◌}
use mathlib.Core.Path.{◌≡◌, refl, ap}
use Prim.Native.Nat.{ℕ, zero, suc, ◌+◌, ◌-◌, ◌*◌, ◌≤◌, ◌<◌}
use native.Mathlib.Decide.{dec_le}
use native.Mathlib.Omega.{arith}
use lib.IntN.{ℤ, pos, negsuc}
use lib.ListN.{length, length-append}
use borrow.Author.Tests.{le-leb, lt-leb, lt-ltb, le-ltb}
use Rattle.reading.specs.declared.Fault.TheVariants.{Length, OtherBase}
use Rattle.reading.specs.Faults.{number, no_fault}
use Rattle.reading.specs.Years.{is_base}
use Rattle.reading.specs.Writing.{written_of, Written}
use Rattle.reading.proofs.CheckLaws.{clash}
use Rattle.text.specs.Decimal.{decimal}
use Rattle.text.proofs.DecimalLaws.{decimal-length}
use Rattle.book.specs.declared.Stamping.{Stamping}
use Rattle.book.specs.Stamps.{unstamped}
use Rattle.book.specs.Book.{kind_at, next_at, records}
use Rattle.book.proofs.PlaceLaws.{known_long, from_unknown, from_cut, from_whole}
use Rattle.book.proofs.BookLaws.{Place, beyond, strange, short, whole, place, next_inside}
use Rattle.listing.specs.Listing.{
  field,
  stamp_field,
  header,
  blank,
  ok_word,
  no_word,
  zero_at_end,
  line_feed,
  found_text,
  line_at,
  lines_of,
  largest_book,
  whole_refused,
  body_text,
  listing,
  room_for_any,
  room_fault,
}
use Rattle.listing.proofs.LineLaws.{found_at, lines_from, lines_step, lines_end}

-- ---- a line

field-length : (n : ℕ) (behind : List ℕ) → length (field n behind) ≤ 20 + length behind
field-length n behind = omega (arith, length-append (decimal n) behind, decimal-length n)

stamp-length : (z : ℤ) (behind : List ℕ) → length (stamp_field z behind) ≤ 21 + length behind
stamp-length (pos n) behind = omega (arith, field-length n behind)
stamp-length (negsuc n) behind = omega (arith, field-length (suc n) behind)

found-length : (kind : ℕ) (stamp : Stamp) → length (found_text kind stamp) ≤ 67
found-length kind (Ok stamp) =
    omega (arith, length-append (field kind ok_word) (stamp_field stamp.0 zero_at_end), field-length kind ok_word, stamp-length stamp.0 zero_at_end)
found-length kind (Err x) =
    omega (
      arith,
      length-append (field kind no_word) (field x.code blank),
      length-append (field kind no_word ++ field x.code blank) (field x.place line_feed),
      field-length kind no_word,
      field-length x.code blank,
      field-length x.place line_feed,
    )

pub line_length : (at : ℕ) (found : Stamping) → length (line_at at found) ≤ 88
unfolding line_at
line_length at found = omega (arith, length-append (field at blank) (found_text found.kind found.stamp), field-length at blank, found-length found.kind found.stamp)

-- ---- all lines

module _ (base : ℕ) (b : List ℕ) where
  -- the lines from a place on have no more than 88 bytes for 33 of the book, and 88 for the last record
  abbrev Short : ℕ → Type 0
  Short at = 33 * length (lines_from base b at) ≤ 88 * (length b - at) + 2904

  after : (at : ℕ) → at < length b → 33 * length (lines_from base b (next_at b at)) + 2904 ≤ 88 * (length b - at) + 2904 → Short at
  after at i h =
      let line = line_length at (found_at base b at) in
      let both = length-append (line_at at (found_at base b at)) (lines_from base b (next_at b at)) in
      omega (arith, ap length (lines_step base b at i))

  last : (at : ℕ) → at < length b → length b ≤ next_at b at → Short at
  last at i e = after at i (omega (arith, ap length (lines_end base b (next_at b at) e)))

  lines-length : (n at : ℕ) → length b ≤ at + n → Short at
  lines-length zero at h = omega (arith, ap length (lines_end base b at (omega arith)))
  lines-length (suc m) at h = go (place b at) (lines-length m (next_at b at))
    where
      go : Place b at → (length b ≤ next_at b at + m → Short (next_at b at)) → Short at
      go (beyond k) more = omega (arith, ap length (lines_end base b at k))
      go (strange i u) more = last at i (omega (arith, from_unknown b at i u))
      go (short i d l) more = last at i (omega (arith, from_cut b at i d l))
      go (whole w) more =
          let next = from_whole b at w in
          let long = known_long (kind_at b at) w.known in
          let inside = next_inside b at in
          let rest = more (omega arith) in
          after at w.inside (omega arith)

  -- ---- the listing

  pub body_too_long : largest_book < length b → body_text base b ≡ whole_refused Length
  unfolding body_text
  body_too_long h = rw (lt-leb (length b) largest_book h)

  pub body_other_base : length b ≤ largest_book → is_base base ≡ false → body_text base b ≡ whole_refused OtherBase
  unfolding body_text
  body_other_base h g = rw (le-leb (length b) largest_book h, g)

  pub body_listed : length b ≤ largest_book → is_base base ≡ true → body_text base b ≡ lines_of base (records base b)
  unfolding body_text
  body_listed h g = rw (le-leb (length b) largest_book h, g)

  body_length_lem : length (body_text base b) + length header ≤ room_for_any
  body_length_lem = go (dec_le (length b) largest_book) (is_base base) refl
    where
      go : Dec (length b ≤ largest_book) → (g : Bool) → is_base base ≡ g → length (body_text base b) + length header ≤ room_for_any
      go (yes h) true e = omega (arith, ap length (body_listed h e), lines-length (length b) 0 (omega arith))
      go (yes h) false e = omega (arith, ap length (body_other_base h e), line_length 0 (unstamped 0 (number OtherBase)))
      go (no n) g e = omega (arith, ap length (body_too_long (omega arith)), line_length 0 (unstamped 0 (number Length)))

  pub listing_fits : length (listing base b) ≤ room_for_any
  unfolding listing
  listing_fits = omega (arith, length-append header (body_text base b), body_length_lem)

-- ---- the buffer

pub too_small : (n : ℕ) → n < room_for_any → room_fault n ≡ Err Length
too_small n h = rw (lt-ltb n room_for_any h)

pub large_enough : (n : ℕ) → room_for_any ≤ n → room_fault n ≡ no_fault
large_enough n h = rw (le-ltb n room_for_any h)

-- what `list` says it wrote lies within its buffer
pub within : (base : ℕ) (b l : List ℕ) (w : Written) (n : ℕ)
    → w ≡ written_of (room_fault (length l)) (length (listing base b)) → w ≡ Ok n → n ≤ length l
within base b l w n e f = go (dec_le room_for_any (length l))
  where
    go : Dec (room_for_any ≤ length l) → n ≤ length l
    go (yes h) =
        let g = large_enough (length l) h in
        let q : Ok n ≡ written_of no_fault (length (listing base b)) = cc in
        let k : n ≡ length (listing base b) = cc in
        omega (arith, listing_fits base b)
    go (no m) =
        let g = too_small (length l) (omega arith) in
        let q : Ok n ≡ written_of (Err Length) (length (listing base b)) = cc in
        let z : ◌≡◌ {A = ℕ} 0 1 = cc in clash z
