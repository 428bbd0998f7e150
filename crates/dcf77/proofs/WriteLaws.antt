-- What a writer that refuses nothing has found, and what it leaves in the buffer.
use Rattle.reading.specs.declared.Fault.TheVariants.{Length}
use Rattle.reading.specs.Faults.{first, Verdict, no_fault}
use Rattle.std.specs.Prelude.{Err, Ok}
use mathlib.Core.Bool.{Bool, true, false, not, ◌&&◌, ◌||◌}
use mathlib.Core.List.{List, ◌++◌}
use mathlib.Core.Path.{◌≡◌, refl, sym, ◌∙◌}
use Prim.Native.Nat.{ℕ, ◌<◌, ◌≤◌}
use native.Mathlib.Omega.{arith}
use borrow.Author.Tests.{ltb-true, ltb-false, lt-ltb, le-ltb, eqb-true, eq-eqb, not-false}
use lib.Dec.{T, eqb, ltb, eqb_refl}
use lib.IntN.{ℤ, pos, negsuc}
use lib.ListN.{length, drop}
use Rattle.laws.proofs.Bools.{both, or_true, holds, is_true}
use Rattle.laws.specs.Tests.{same}
use Rattle.laws.proofs.Signed.{same_is}
use Rattle.reading.specs.declared.Reading.{Reading}
use Rattle.reading.specs.Years.{is_base}
use Rattle.reading.specs.Checks.{time_bad, date_bad, quality_bad, sound_of, checked_of}
use Rattle.reading.specs.Writing.{and_then, filled}
use Rattle.reading.proofs.CheckLaws.{first_good, clash}
use Rattle.reading.proofs.WrittenLaws.{then_good}
use Rattle.pulses.specs.Row.{row, laid}
use Rattle.pulses.proofs.RowLaws.{length-row, enough}
use Rattle.dcf77_table.specs.Table.{minute_marks}
use Rattle.dcf77_table.proofs.TableLaws.{marks-length}
use Rattle.dcf77.specs.Zones.{offset_in}
use Rattle.dcf77.specs.Forms.{short_length, long_length, length_of, due_long}
use Rattle.dcf77.specs.Writer.{plain_of, with_parity, values_of, bytes_of, head_bad, checked_with, not_carried, carry_fault, is_good, needed, room_fault, write_fault}

-- ---- the marks and their length

pub length_of_marks : (long : Bool) → length (minute_marks long) ≡ length_of long
unfolding length_of
length_of_marks long = marks-length long

pub length-bytes : (r : Reading) (h : ℕ) → length (bytes_of r h) ≡ length_of (due_long r)
unfolding bytes_of
length-bytes r h = length-row (minute_marks (due_long r)) (values_of r h) ∙ length_of_marks (due_long r)

pub bytes_are : (r : Reading) (h : ℕ) → bytes_of r h ≡ row (minute_marks (due_long r)) (values_of r h)
unfolding bytes_of
bytes_are r h = refl

-- ---- a reading and a head that the format carries

pub record Carried (base : ℕ) (r : Reading) (h : ℕ) : Type 0 where
  pub checked : checked_of base r ≡ no_fault
  pub head : h ≤ 32767
  pub second : r.second ≡ 0
  pub quality : r.quality ≡ 0
  pub offset : r.offset.0 ≡ offset_in r.summer

or_false : (b : Bool) → (b || false) ≡ b
or_false true = refl
or_false false = refl

same_self : (z : ℤ) → T (same z z)
same_self (pos n) = eqb_refl n
same_self (negsuc n) = eqb_refl n

module _ (base : ℕ) (r : Reading) (h : ℕ) where
  -- the head is good and so are the shared checks
  head_checked : (b : Bool) → head_bad h ≡ b → checked_with base r h ≡ no_fault → (b ≡ false) × (checked_of base r ≡ no_fault)
  unfolding checked_with checked_of sound_of
  head_checked false p e = (refl, rw (p, or_false (quality_bad r.quality)) at e)
  head_checked true p e =
      let g = first_good (not (is_base base)) _ _ e in
      let a = first_good (time_bad r) _ _ g.1 in
      let b = first_good (date_bad base r) _ _ a.1 in
      let c = first_good (quality_bad r.quality || head_bad h) _ _ b.1 in
      let d : true ≡ false = sym (rw p (or_true (quality_bad r.quality))) ∙ c.0 in
      let z : ◌≡◌ {A = ℕ} 0 1 = cc in clash z

  carried_rest : not_carried r ≡ false → (r.second ≡ 0) × (r.quality ≡ 0) × (r.offset.0 ≡ offset_in r.summer)
  unfolding not_carried
  carried_rest e =
      let z = same r.offset.0 (offset_in r.summer) in
      let a = both (eqb r.second 0) (eqb r.quality 0 && z) (not-false (eqb r.second 0 && (eqb r.quality 0 && z)) e) in
      let b = both (eqb r.quality 0) z a.1 in
      (eqb-true r.second 0 a.0, eqb-true r.quality 0 b.0, same_is r.offset.0 (offset_in r.summer) (holds z b.1))

  head_small : head_bad h ≡ false → h ≤ 32767
  unfolding head_bad
  head_small e = ltb-false 32767 h e

  pub carried : carry_fault base r h ≡ no_fault → Carried base r h
  unfolding carry_fault
  carried e =
      let a = then_good (checked_with base r h) _ e in
      let b = head_checked (head_bad h) refl a.0 in
      let c = carried_rest (first_good (not_carried r) _ _ a.1).0 in
      record { checked = b.1; head = head_small b.0; second = c.0; quality = c.1; offset = c.2 }

  checked_so : Carried base r h → checked_with base r h ≡ no_fault
  unfolding checked_with checked_of sound_of head_bad
  checked_so p = rw (le-ltb 32767 h p.head, or_false (quality_bad r.quality)) p.checked

  carried_so : Carried base r h → not_carried r ≡ false
  unfolding not_carried
  carried_so p =
      let o : same r.offset.0 (offset_in r.summer) ≡ true = rw p.offset (is_true _ (same_self (offset_in r.summer))) in
      rw (eq-eqb r.second 0 p.second, eq-eqb r.quality 0 p.quality, o)

  pub is_carried : Carried base r h → carry_fault base r h ≡ no_fault
  unfolding carry_fault
  is_carried p = rw (checked_so p, carried_so p)

-- ---- a writer that refuses nothing

module _ (base : ℕ) (r : Reading) (h room : ℕ) where
  pub accepted : write_fault base r h room ≡ no_fault → (carry_fault base r h ≡ no_fault) × (length_of (due_long r) ≤ room)
  unfolding write_fault room_fault needed
  accepted e =
      let a = first_good (ltb room (length_of (is_good (carry_fault base r h) && due_long r))) _ _ e in
      (a.1, rw a.1 at (ltb-false room _ a.0))

  pub is_accepted : carry_fault base r h ≡ no_fault → length_of (due_long r) ≤ room → write_fault base r h room ≡ no_fault
  unfolding write_fault room_fault needed
  is_accepted e k = rw (e, le-ltb room (length_of (due_long r)) k)

-- ---- the checks in the order in which the code makes them

-- the room for a reading that is refused stands before its fault, and the room for a long minute behind it
room_parted : (v : Verdict) (long : Bool) (room : ℕ)
    → room_fault v long room ≡ first (ltb room short_length) Length (and_then v (first (ltb room (length_of long)) Length no_fault))
unfolding room_fault needed length_of
room_parted (Err x) long room = refl
room_parted (Ok done) false room = twice (ltb room short_length)
  where
    twice : (b : Bool) → first b Length no_fault ≡ first b Length (first b Length no_fault)
    twice true = refl
    twice false = refl
room_parted (Ok done) true room = by (ltb room short_length) refl
  where
    by : (b : Bool) → ltb room short_length ≡ b → first (ltb room long_length) Length no_fault ≡ first b Length (first (ltb room long_length) Length no_fault)
    by true e = let few : room < long_length = omega (arith, ltb-true room short_length e) in rw (lt-ltb room long_length few)
    by false e = refl

pub in_steps : (base : ℕ) (r : Reading) (h room : ℕ)
    → write_fault base r h room
    ≡ first (ltb room short_length) Length (and_then (carry_fault base r h) (first (ltb room (length_of (due_long r))) Length no_fault))
unfolding write_fault
in_steps base r h room = room_parted (carry_fault base r h) (due_long r) room

-- ---- what is left in the buffer

module _ (base : ℕ) (r : Reading) (h : ℕ) (out : List ℕ) where
  abbrev verdict : Verdict
  verdict = write_fault base r h (length out)

  stored : verdict ≡ no_fault → laid (minute_marks (due_long r)) (values_of r h) out ≡ bytes_of r h ++ drop (length (bytes_of r h)) out
  stored e =
      let t = minute_marks (due_long r) in
      let k = (accepted base r h (length out) e).1 in
      (enough t (values_of r h) out (omega (arith, length_of_marks (due_long r)))).1 ∙ rw (bytes_are r h, length-row t (values_of r h))

  -- the marks that are laid where nothing is refused
  pub left : verdict ≡ no_fault
      → laid (minute_marks (due_long r)) (with_parity (plain_of r h) (row (minute_marks false) (plain_of r h))) out ≡ filled verdict (bytes_of r h) out
  unfolding values_of
  left e = stored e ∙ rw e
