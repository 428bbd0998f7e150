-- The reading that goes over: quality 15 where the coasting mark stands and the way is L7's, else the string's own. All else is 01's, and
-- so it passes the checks that every writer shares.
use Rattle.reading.specs.Faults.{no_fault}
use mathlib.Core.Bool.{Bool, true, false}
use mathlib.Core.Logic.{◌⊎◌, inl, inr, ◌↔◌}
use mathlib.Core.Path.{◌≡◌, refl, ap, ◌∙◌}
use Prim.Native.Nat.{ℕ, ◌≤◌}
use native.Mathlib.Omega.{arith}
use Rattle.laws.proofs.Bools.{never}
use Rattle.reading.specs.declared.Reading.{Reading}
use Rattle.reading.specs.Universal.{utc_of}
use Rattle.reading.specs.Checks.{checked_of}
use Rattle.reading.proofs.CheckLaws.{Checked, checked_is, is_checked}
use Rattle.irig.specs.Offset.{odd_quarter}
use Rattle.bridge.specs.declared.Coasting.{Coasting}
use Rattle.bridge.specs.declared.Coasting.TheVariants.{Worse, Dropped}
use Rattle.bridge.specs.Bridge.{pending_of, quality_by, graded, carried_by}
use Rattle.bridge.proofs.PendingLaws.{pending_checked}

-- ---- what goes over, way by way

module _ (r : Reading) where
  -- "coasting dropped": what goes over is 01's, mark or no mark
  pub dropped : (coasting : Bool) → carried_by Dropped coasting r ≡ pending_of r
  unfolding carried_by graded quality_by pending_of
  dropped coasting = refl

  -- without the mark nothing changes, whichever way
  pub unmarked : (way : Coasting) → carried_by way false r ≡ pending_of r
  unfolding carried_by graded quality_by pending_of
  unmarked Worse = refl
  unmarked Dropped = refl

  -- "gets quality 15", whatever its own
  pub worse : carried_by Worse true r ≡ graded 15 (pending_of r)
  unfolding carried_by quality_by
  worse = refl

  module _ (way : Coasting) (coasting : Bool) where
    -- but for the quality all of it is 01's
    pub else-as-01 : graded r.quality (carried_by way coasting r) ≡ pending_of r
    unfolding carried_by graded pending_of
    else-as-01 = refl

    pub quality-carried : (carried_by way coasting r).quality ≡ quality_by way coasting r.quality
    unfolding carried_by graded
    quality-carried = refl

    -- the string's own offset, so that what is an odd quarter stays one
    pub quarter-carried : odd_quarter (carried_by way coasting r).offset.0 ≡ odd_quarter r.offset.0
    unfolding carried_by graded pending_of
    quarter-carried = refl

abbrev is_worse : Coasting → Bool
is_worse Worse = true
is_worse Dropped = false

-- 15 exactly where the mark stands and the way is L7's, or where the string says so of itself
pub fifteen_exactly : (way : Coasting) (coasting : Bool) (own : ℕ)
    → (quality_by way coasting own ≡ 15) ↔ (((way ≡ Worse) × (coasting ≡ true)) ⊎ (own ≡ 15))
unfolding quality_by
fifteen_exactly Worse true own = (λ e. inl (refl, refl), λ p. refl)
fifteen_exactly Worse false own = (λ e. inr e, own-said)
  where
    own-said : ((Worse ≡ Worse) × (false ≡ true)) ⊎ (own ≡ 15) → own ≡ 15
    own-said (inl p) = never p.1
    own-said (inr e) = e
fifteen_exactly Dropped coasting own = (λ e. inr e, own-said)
  where
    own-said : ((Dropped ≡ Worse) × (coasting ≡ true)) ⊎ (own ≡ 15) → own ≡ 15
    own-said (inl p) = never (ap is_worse p.0)
    own-said (inr e) = e

-- whichever way, no frame says better of its clock than the string does
pub never_better : (way : Coasting) (coasting : Bool) (own : ℕ) → own ≤ 15 → own ≤ quality_by way coasting own
unfolding quality_by
never_better Worse true own h = h
never_better Worse false own h = omega arith
never_better Dropped coasting own h = omega arith

-- ---- the checks that every writer shares

-- UTC does not look at the quality
utc_graded : (q : ℕ) (r : Reading) → utc_of (graded q r) ≡ utc_of r
unfolding utc_of graded
utc_graded q r = refl

graded_checked : (base q : ℕ) (r : Reading) → q ≤ 15 → Checked base r → Checked base (graded q r)
unfolding graded
graded_checked base q r h c =
    record {
      base_good = c.base_good;
      hour = c.hour;
      minute = c.minute;
      second = c.second;
      year = c.year;
      date = c.date;
      quality = h;
      offset = c.offset;
      leap = rw (utc_graded q r) c.leap;
    }

within_fifteen : (way : Coasting) (coasting : Bool) (own : ℕ) → own ≤ 15 → quality_by way coasting own ≤ 15
unfolding quality_by
within_fifteen Worse true own h = omega arith
within_fifteen Worse false own h = h
within_fifteen Dropped coasting own h = h

-- a good reading stays good, whichever way it goes over
pub carried_good : (base : ℕ) (way : Coasting) (coasting : Bool) (r : Reading) → checked_of base r ≡ no_fault → checked_of base (carried_by way coasting r) ≡ no_fault
unfolding carried_by
carried_good base way coasting r e =
    let c = checked_is base (pending_of r) (pending_checked base r ∙ e) in
    is_checked base (carried_by way coasting r)
    (graded_checked base (quality_by way coasting r.quality) (pending_of r) (within_fifteen way coasting r.quality (checked_is base r e).quality) c)
