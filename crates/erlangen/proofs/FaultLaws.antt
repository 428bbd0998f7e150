-- What the verdict on a string, or on what a writer is given, tells: its length, its bytes, and the reading.
use Rattle.std.specs.Prelude.{Err}
use mathlib.Core.Bool.{true, false, not}
use mathlib.Core.List.{List}
use mathlib.Core.Path.{◌≡◌, refl, sym}
use Prim.Native.Nat.{ℕ, ◌≤◌}
use native.Mathlib.Omega.{arith}
use lib.Dec.{eqb, ltb}
use lib.ListN.{length}
use borrow.Author.Tests.{not-false, ltb-false, le-ltb, eqb-true, eq-eqb}
use Rattle.laws.proofs.Bools.{neither}
use Rattle.wire.specs.Layout.{good_places, printables}
use Rattle.wire.proofs.LayoutLaws.{good_within, printables_within}
use Rattle.reading.specs.declared.Reading.{Reading}
use Rattle.reading.specs.declared.Fault.{Fault}
use Rattle.reading.specs.declared.Fault.TheVariants.{OtherBase}
use Rattle.reading.specs.Faults.{number, no_fault}
use Rattle.reading.specs.Years.{is_base}
use Rattle.reading.specs.Checks.{sound_of, checked_of}
use Rattle.reading.proofs.CheckLaws.{first_good, base_and_sound, sound_checked}
use Rattle.reading.proofs.WrittenLaws.{then_good}
use Rattle.strings.proofs.CheckLaws.{Sound, sound, faultless}
use Rattle.erlangen.specs.Layout.{size, position_size, layout}
use Rattle.erlangen.specs.Meaning.{places, weekday_said, offset_wrong, mark_wrong, reading_of, fault_in, read_erlangen}
use Rattle.erlangen.specs.Writing.{not_carried, length_bad, carried_of, write_fault}

pub layout-length : length layout ≡ size
unfolding layout
layout-length = refl

-- ---- the fault that another base is, and the answer that goes with a fault

module _ (base : ℕ) (s : List ℕ) where
  pub other_base_lem : length s ≡ size → is_base base ≡ false → Err OtherBase ≡ fault_in base s
  unfolding fault_in
  other_base_lem l b = rw (eq-eqb (length s) size l, b)

  pub refused : (x : Fault) → Err x ≡ fault_in base s → Err (number x) ≡ read_erlangen base s
  unfolding read_erlangen
  refused x e = rw (← e)

-- ---- a string

pub record Accepted (base : ℕ) (s : List ℕ) : Type 0 where
  pub size_is : length s ≡ size
  pub base_good : is_base base ≡ true
  pub bytes : good_places layout s ≡ length s
  pub sounds : Sound (reading_of base s) (weekday_said s) (offset_wrong s) (mark_wrong s)

module _ (base : ℕ) (s : List ℕ) where
  pub accepted_is : fault_in base s ≡ no_fault → Accepted base s
  unfolding fault_in
  accepted_is e =
      let a = first_good (not (eqb (length s) size)) _ _ e in
      let d = first_good (not (is_base base)) _ _ a.1 in
      let b = first_good (ltb (good_places layout s) size) _ _ d.1 in
      let l = eqb-true (length s) size (not-false _ a.0) in
      let g = ltb-false (good_places layout s) size b.0 in
      record {
        size_is = l;
        base_good = not-false _ d.0;
        bytes = omega (arith, good_within layout s);
        sounds = sound _ _ _ _ places b.1;
      }

  pub is_accepted : Accepted base s → fault_in base s ≡ no_fault
  unfolding fault_in
  is_accepted p =
      let g : size ≤ good_places layout s = omega (arith, p.bytes, p.size_is) in
      rw (eq-eqb (length s) size p.size_is, p.base_good, le-ltb (good_places layout s) size g) (faultless _ _ _ _ places p.sounds)

-- ---- what a writer is given

pub record Carried (base : ℕ) (r : Reading) (position : List ℕ) (room : ℕ) : Type 0 where
  pub roomy : size ≤ room
  pub size_is : length position ≡ position_size
  pub printing : printables position ≡ length position
  pub checked : checked_of base r ≡ no_fault
  pub quality : not_carried r.quality ≡ false

module _ (base : ℕ) (r : Reading) (position : List ℕ) (room : ℕ) where
  pub carried_is : write_fault base r position room ≡ no_fault → Carried base r position room
  unfolding write_fault length_bad carried_of
  carried_is e =
      let a = first_good (length_bad position room) _ _ e in
      let k = first_good (not (is_base base)) _ _ a.1 in
      let b = first_good (ltb (printables position) position_size) _ _ k.1 in
      let d = then_good (sound_of base r) _ b.1 in
      let f = first_good (not_carried r.quality) _ _ d.1 in
      let n = neither (ltb room size) (not (eqb (length position) position_size)) a.0 in
      let l = eqb-true (length position) position_size (not-false _ n.1) in
      let g = ltb-false (printables position) position_size b.0 in
      record {
        roomy = ltb-false room size n.0;
        size_is = l;
        printing = omega (arith, printables_within position);
        checked = sound_checked base r (not-false _ k.0) d.0;
        quality = f.0;
      }

  -- what laying the text asks for
  pub given_size : no_fault ≡ write_fault base r position room → length position ≡ position_size
  given_size e = (carried_is (sym e)).size_is

  pub given_room : no_fault ≡ write_fault base r position room → size ≤ room
  given_room e = (carried_is (sym e)).roomy

  pub is_carried : Carried base r position room → write_fault base r position room ≡ no_fault
  unfolding write_fault length_bad carried_of
  is_carried p =
      let g : position_size ≤ printables position = omega (arith, p.size_is, p.printing) in
      let k = base_and_sound base r p.checked in
      rw (
        le-ltb room size p.roomy,
        eq-eqb (length position) position_size p.size_is,
        k.0,
        le-ltb (printables position) position_size g,
        k.1,
        p.quality,
      )

-- "any other base .. is 19, straight after 1": where room and position part have their lengths, whatever stands in the part, and whatever the reading
pub other_base_refused : (base : ℕ) (r : Reading) (position : List ℕ) (room : ℕ) → length_bad position room ≡ false → is_base base ≡ false
    → write_fault base r position room ≡ Err OtherBase
unfolding write_fault
other_base_refused base r position room e g = rw (e, g)
