-- What reading and writing Uni Erlangen strings promise of each other, for any base year.
use Rattle.std.specs.Prelude.{Err, Ok}
use mathlib.Core.Bool.{Bool, true, false}
use mathlib.Core.List.{List, ◌++◌}
use mathlib.Core.Logic.{◌↔◌}
use mathlib.Core.Path.{◌≡◌, refl, sym, ◌∙◌}
use Prim.Native.Nat.{ℕ, ◌≤◌, ◌<◌}
use native.Mathlib.Omega.{arith}
use lib.ListN.{length, take, drop}
use lib.Seq.{take_at, drop_at}
use borrow.Author.Tests.{lt-ltb, le-ltb, eq-eqb}
use Rattle.wire.specs.Layout.{good_places, printables}
use Rattle.wire.proofs.LayoutLaws.{allowed_at, first_bad, first_bad_is, printable_at, first_unprintable_is}
use Rattle.reading.specs.declared.Reading.{Reading}
use Rattle.reading.specs.declared.Refusal.{Refusal}
use Rattle.reading.specs.declared.Fault.TheVariants.{Byte, OutsideYears}
use Rattle.reading.specs.Faults.{number, Verdict, no_fault}
use Rattle.reading.specs.Writing.{written_of, filled}
use Rattle.reading.specs.Years.{is_base}
use Rattle.reading.specs.Universal.{utc_of}
use Rattle.reading.specs.Checks.{checked_of}
use Rattle.reading.specs.Stamps.{has_stamp, stamp_number, stamp_of}
use Rattle.reading.proofs.CheckLaws.{clash}
use Rattle.reading.proofs.StampLaws.{is_stamp, refused_by_12}
use Rattle.reading.proofs.WrittenLaws.{length_is, untouched}
use Rattle.strings.proofs.CheckLaws.{told_of}
use Rattle.erlangen.specs.Layout.{size, position_size, layout}
use Rattle.erlangen.specs.Meaning.{reading_of, coasting_said, fault_in, read_erlangen, position_bytes}
use Rattle.erlangen.specs.Writing.{bytes_of, length_bad, write_fault}
use Rattle.erlangen.proofs.FaultLaws.{layout-length, refused, Accepted, accepted_is, is_accepted, carried_is, is_carried}
use Rattle.erlangen.proofs.BytesLaws.{bytes-length}
use Rattle.erlangen.proofs.ReadLaws.{bytes_back, position-length, position_printable, reading_checked, reading_carried}
use Rattle.erlangen.proofs.WriteLaws.{bytes_accepted, says_back}

-- ---- what an answer tells

module _ (base : ℕ) (s : List ℕ) where
  pub accepted_by : (r : Reading) (coasting : Bool) → read_erlangen base s ≡ Ok (r, coasting) → (fault_in base s ≡ no_fault) × (reading_of base s ≡ r) × (coasting_said s ≡ coasting)
  unfolding read_erlangen
  accepted_by r coasting e = told_of (fault_in base s) (reading_of base s) r (coasting_said s) coasting e

  pub told_as : fault_in base s ≡ no_fault → read_erlangen base s ≡ Ok ((reading_of base s), (coasting_said s))
  unfolding read_erlangen
  told_as e = rw e

-- ---- write, read

module _ (base : ℕ) (r : Reading) (coasting : Bool) (position : List ℕ) where
  pub bytes_read : (room : ℕ) → write_fault base r position room ≡ no_fault
      → (read_erlangen base (bytes_of r coasting position) ≡ Ok (r, coasting)) × (position_bytes (bytes_of r coasting position) ≡ position)
  bytes_read room e =
      let p = carried_is base r position room e in
      let s = bytes_of r coasting position in
      let b = says_back base r coasting position room p in
      let good = is_accepted base s (bytes_accepted base r coasting position room p) in
      (told_as base s good ∙ rw (b.0, b.1), b.2)

  module _ (buffer : List ℕ) where
    -- what the writer answers, and what the buffer holds then
    abbrev verdict : Verdict
    verdict = write_fault base r position (length buffer)

    abbrev after : List ℕ
    after = filled verdict (bytes_of r coasting position) buffer

    written_is : verdict ≡ no_fault → after ≡ bytes_of r coasting position ++ drop size buffer
    written_is e = rw (e, bytes-length r coasting position (carried_is base r position (length buffer) e).size_is)

    -- "demand 2's reading back, from any start": what was written reads as what was given
    pub written_reads : (n : ℕ) → written_of verdict size ≡ Ok n
        → (n ≡ size) × (read_erlangen base (take n after) ≡ Ok (r, coasting)) × (position_bytes (take n after) ≡ position)
    written_reads n e =
        let a = length_is verdict size n e in
        let l = bytes-length r coasting position (carried_is base r position (length buffer) a.0).size_is in
        let s : take n after ≡ bytes_of r coasting position =
        rw (written_is a.0, a.1) (take_at (bytes_of r coasting position) (drop size buffer) size l) in
        let b = bytes_read (length buffer) a.0 in
        (a.1, rw s b.0, rw s b.1)

    -- "writes the format's bytes from the start of the buffer and no others"
    pub rest-untouched : (n : ℕ) → written_of verdict size ≡ Ok n → drop n after ≡ drop n buffer
    rest-untouched n e =
        let a = length_is verdict size n e in
        let l = bytes-length r coasting position (carried_is base r position (length buffer) a.0).size_is in
        rw (written_is a.0, a.1) (drop_at (bytes_of r coasting position) (drop size buffer) size l)

    -- "A refusal leaves all lent memory untouched"
    pub refused_untouched : (x : Refusal) → written_of verdict size ≡ Err x → after ≡ buffer
    refused_untouched = untouched verdict size (bytes_of r coasting position) buffer

-- ---- read, write

module _ (base : ℕ) (s : List ℕ) (r : Reading) (coasting : Bool) (told : read_erlangen base s ≡ Ok (r, coasting)) where
  facts : Accepted base s
  facts = accepted_is base s (accepted_by base s r coasting told).0

  -- "Uni Erlangen, 68 bytes"
  pub accepted-length : length s ≡ size
  accepted-length = facts.size_is

  -- "what you read writes back to the same bytes", from a buffer with room
  pub read_writes : (room : ℕ) → size ≤ room → (write_fault base r (position_bytes s) room ≡ no_fault) × (bytes_of r coasting (position_bytes s) ≡ s)
  read_writes room h =
      let a = accepted_by base s r coasting told in
      let c = is_carried base (reading_of base s) (position_bytes s) room (reading_carried base s facts room h) in
      (rw (← a.1) c, rw (← a.1, ← a.2) (bytes_back base s facts))

  pub read_rewrites : (buffer : List ℕ) → size ≤ length buffer
      → (written_of (write_fault base r (position_bytes s) (length buffer)) size ≡ Ok size)
      × (filled (write_fault base r (position_bytes s) (length buffer)) (bytes_of r coasting (position_bytes s)) buffer ≡ s ++ drop size buffer)
  read_rewrites buffer h =
      let w = read_writes (length buffer) h in
      rw (w.0, w.1, facts.size_is) (refl, refl)

  -- an accepted reading passes the checks of a reading
  pub accepted_checked : checked_of base r ≡ no_fault
  accepted_checked = rw (← (accepted_by base s r coasting told).1) (reading_checked base s facts)

  -- so that stamping it "refuses it by 12 alone"
  pub stamped_or_12 : (x : Refusal) → stamp_of base r ≡ Err x → x ≡ number OutsideYears
  stamped_or_12 x e = go (has_stamp (utc_of r).date.year) refl
    where
      go : (b : Bool) → has_stamp (utc_of r).date.year ≡ b → x ≡ number OutsideYears
      go true h =
          let a = is_stamp base r (stamp_number (utc_of r) r.second) (record { checked = accepted_checked; year = h; value = refl }) in
          let z : ◌≡◌ {A = ℕ} 0 1 = cc in
          clash z
      go false h = let a = refused_by_12 base r accepted_checked h in cc

  -- "The position bytes are printable", and there are 26
  pub position_good : (length (position_bytes s) ≡ position_size) × (printables (position_bytes s) ≡ position_size)
  position_good =
      let l = position-length base s facts in
      (l, position_printable base s facts ∙ l)

-- no two strings with one position part say the same time
pub one_string : (base : ℕ) (s t : List ℕ) (r : Reading) (coasting : Bool) → read_erlangen base s ≡ Ok (r, coasting) → read_erlangen base t ≡ Ok (r, coasting)
    → position_bytes s ≡ position_bytes t → s ≡ t
one_string base s t r coasting a b e =
    let v = read_writes base s r coasting a size (omega arith) in
    let w = read_writes base t r coasting b size (omega arith) in
    sym v.1 ∙ rw e w.1

-- ---- accepted exactly if written

-- accepted are just the strings that the writer writes for some reading, coasting mark and position part
pub exactly : (base : ℕ) (s : List ℕ)
    → ((r : Reading) × (coasting : Bool) × (read_erlangen base s ≡ Ok (r, coasting)))
    ↔ ((r : Reading) × (coasting : Bool) × (position : List ℕ) × (write_fault base r position size ≡ no_fault) × (bytes_of r coasting position ≡ s))
exactly base s = (there, back)
  where
    there : (r : Reading) × (coasting : Bool) × (read_erlangen base s ≡ Ok (r, coasting))
        → (r : Reading) × (coasting : Bool) × (position : List ℕ) × (write_fault base r position size ≡ no_fault) × (bytes_of r coasting position ≡ s)
    there a = let w = read_writes base s a.0 a.1 a.2 size (omega arith) in (a.0, a.1, position_bytes s, w.0, w.1)

    back : (r : Reading) × (coasting : Bool) × (position : List ℕ) × (write_fault base r position size ≡ no_fault) × (bytes_of r coasting position ≡ s)
        → (r : Reading) × (coasting : Bool) × (read_erlangen base s ≡ Ok (r, coasting))
    back a = (a.0, a.1, rw (← a.4) (bytes_read base a.0 a.1 a.2 size a.3).0)

-- ---- "for code 2 it is the lowest bad place"

pub lowest_place : (base : ℕ) (s : List ℕ) (k : ℕ) → length s ≡ size → is_base base ≡ true → good_places layout s ≡ k → k < size
    → (fault_in base s ≡ Err (Byte k)) × (allowed_at layout s k ≡ false) × ((i : ℕ) → i < k → allowed_at layout s i ≡ true)
unfolding fault_in
lowest_place base s k l d e h =
    let b = first_bad layout s k e (omega (arith, layout-length)) (omega arith) in
    (rw (eq-eqb (length s) size l, d, e, lt-ltb k size h), b.0, b.1)

pub lowest_bad_byte : (base : ℕ) (s : List ℕ) → length s ≡ size → is_base base ≡ true → (k : ℕ) → k < size → allowed_at layout s k ≡ false
    → ((i : ℕ) → i < k → allowed_at layout s i ≡ true) → read_erlangen base s ≡ Err (number (Byte k))
lowest_bad_byte base s l d k h e f =
    let n = first_bad_is layout s k (omega (arith, layout-length)) (omega arith) e f in
    sym (refused base s (Byte k) (sym (lowest_place base s k l d n h).0))

-- "printable (2, place within it)": the writer tells the lowest place of the position part whose byte is not
pub lowest_unprintable : (base : ℕ) (r : Reading) (position : List ℕ) (room k : ℕ) → size ≤ room → is_base base ≡ true → length position ≡ position_size → k < position_size
    → printable_at position k ≡ false → ((i : ℕ) → i < k → printable_at position i ≡ true) → write_fault base r position room ≡ Err (Byte k)
unfolding write_fault length_bad
lowest_unprintable base r position room k h d l b e f =
    let n = first_unprintable_is position k (omega arith) e f in
    rw (le-ltb room size h, eq-eqb (length position) position_size l, d, n, lt-ltb k position_size b)
