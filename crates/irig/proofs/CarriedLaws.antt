-- What a frame carries: a reading that passes the checks that every writer shares, at no odd quarter.
use Rattle.reading.specs.Faults.{no_fault}
use mathlib.Core.Bool.{false}
use mathlib.Core.Path.{◌≡◌}
use Prim.Native.Nat.{ℕ}
use Rattle.reading.specs.declared.Reading.{Reading}
use Rattle.reading.specs.Checks.{checked_of}
use Rattle.reading.proofs.CheckLaws.{Checked, checked_is, is_checked, first_good}
use Rattle.reading.proofs.WrittenLaws.{then_good}
use Rattle.irig.specs.Offset.{odd_quarter}
use Rattle.irig.specs.Writing.{carried_of}

pub record Carried (base : ℕ) (r : Reading) : Type 0 where
  pub checked : Checked base r
  pub even : odd_quarter r.offset.0 ≡ false

module _ (base : ℕ) (r : Reading) where
  -- its two parts, as they are tested
  pub carried_parts : carried_of base r ≡ no_fault → (checked_of base r ≡ no_fault) × (odd_quarter r.offset.0 ≡ false)
  unfolding carried_of
  carried_parts e =
      let p = then_good (checked_of base r) _ e in
      (p.0, (first_good (odd_quarter r.offset.0) _ _ p.1).0)

  pub parts_carried : checked_of base r ≡ no_fault → odd_quarter r.offset.0 ≡ false → carried_of base r ≡ no_fault
  unfolding carried_of
  parts_carried e f = rw (e, f)

  pub carried_is : carried_of base r ≡ no_fault → Carried base r
  carried_is e = let p = carried_parts e in record { checked = checked_is base r p.0; even = p.1 }

  pub is_carried : Carried base r → carried_of base r ≡ no_fault
  is_carried p = parts_carried (is_checked base r p.checked) p.even
