-- When a reading is written: what a verdict without a fault tells, and back; and what is then stored.
use Rattle.reading.specs.Faults.{no_fault}
use Rattle.std.specs.Prelude.{Err}
use native.Mathlib.Omega.{arith}
use mathlib.Core.List.{List}
use mathlib.Core.Bool.{Bool, true, false, not, ◌&&◌, ◌||◌}
use mathlib.Core.Path.{◌≡◌, refl, sym}
use Prim.Native.Nat.{ℕ, ◌≤◌}
use lib.Dec.{ltb, leb}
use lib.ListN.{length}
use borrow.Author.Tests.{le-ltb, ltb-false, not-false}
use Rattle.reading.proofs.BaseLaws.{other_base_checked}
use Rattle.reading.specs.Years.{is_base}
use Rattle.reading.specs.declared.Fault.TheVariants.{OtherBase}
use Rattle.laws.proofs.Bools.{neither}
use Rattle.reading.specs.declared.Reading.{Reading}
use Rattle.reading.specs.Checks.{checked_of}
use Rattle.reading.proofs.CheckLaws.{first_good}
use Rattle.reading.proofs.WrittenLaws.{then_good}
use Rattle.reading.specs.Writing.{filled}
use Rattle.wire.specs.Put.{stored}
use Rattle.wire.proofs.StoreLaws.{stored_first}
use Rattle.meinberg.specs.Layout.{text_length}
use Rattle.meinberg.specs.Zones.{zone_carried}
use Rattle.meinberg.specs.Writing.{bytes_of, not_carried, write_fault}

pub record Carried (r : Reading) : Type 0 where
  pub zone : zone_carried r.offset.0 r.summer ≡ true
  pub announced : (r.change && r.leap) ≡ false
  pub quality : (leb 1 r.quality && leb r.quality 14) ≡ false

pub record Writable (base : ℕ) (r : Reading) (room : ℕ) : Type 0 where
  pub enough : text_length ≤ room
  pub checked : checked_of base r ≡ no_fault
  pub carried : Carried r

pub carried_is : (r : Reading) → not_carried r ≡ false → Carried r
unfolding not_carried
carried_is r e =
    let zone = not (zone_carried r.offset.0 r.summer) in
    let both = r.change && r.leap in
    let between = leb 1 r.quality && leb r.quality 14 in
    let p = neither (zone || both) between e in
    let q = neither zone both p.0 in
    record { zone = not-false (zone_carried r.offset.0 r.summer) q.0; announced = q.1; quality = p.1 }

pub is_carried : (r : Reading) → Carried r → not_carried r ≡ false
unfolding not_carried
is_carried r p = rw (p.zone, p.announced, p.quality)

module _ (base : ℕ) (r : Reading) (room : ℕ) where
  pub writable : write_fault base r room ≡ no_fault → Writable base r room
  unfolding write_fault
  writable e =
      let p = first_good (ltb room text_length) _ _ e in
      let q = then_good (checked_of base r) _ p.1 in
      let n = first_good (not_carried r) _ _ q.1 in
      record { enough = ltb-false room text_length p.0; checked = q.0; carried = carried_is r n.0 }

  pub is_writable : Writable base r room → write_fault base r room ≡ no_fault
  unfolding write_fault
  is_writable p = rw (le-ltb room text_length p.enough, p.checked, is_carried r p.carried)

-- "any other base .. is 19, straight after 1": where there is room, whatever the reading
pub other_base_refused : (base : ℕ) (r : Reading) (room : ℕ) → text_length ≤ room → is_base base ≡ false → write_fault base r room ≡ Err OtherBase
unfolding write_fault
other_base_refused base r room h g = rw (le-ltb room text_length h, other_base_checked base r g)

pub bytes-length : (r : Reading) (coasting : Bool) → length (bytes_of r coasting) ≡ text_length
unfolding bytes_of
bytes-length r coasting = refl

-- where nothing is wrong, the text at the start of the buffer is all that is owed
pub stored_text : (base : ℕ) (r : Reading) (coasting : Bool) (buffer : List ℕ) → no_fault ≡ write_fault base r (length buffer)
    → stored 0 (bytes_of r coasting) buffer ≡ filled (write_fault base r (length buffer)) (bytes_of r coasting) buffer
stored_text base r coasting buffer e =
    let enough = (writable base r (length buffer) (sym e)).enough in
    rw (sym e) (stored_first (bytes_of r coasting) buffer (omega (arith, bytes-length r coasting)))
