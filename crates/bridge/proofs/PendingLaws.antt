-- A reading with its announcements made pending bits, and all else as it was: it passes the same checks, and the bits are set exactly
-- in their windows. What goes over differs from it by the quality alone (`CarriedLaws.else-as-01`).
use mathlib.Core.Bool.{true}
use mathlib.Core.Path.{◌≡◌, refl}
use Prim.Native.Nat.{ℕ, ◌≤◌}
use lib.Dec.{eqb, leb}
use borrow.Author.Tests.{eqb-true, leb-true}
use Rattle.laws.proofs.Bools.{both}
use Rattle.reading.specs.declared.Reading.{Reading}
use Rattle.reading.specs.Universal.{utc_of}
use Rattle.reading.specs.Leap.{last_minute, closes_with_leap, leap_minute, within_minute, leap_window, change_window}
use Rattle.reading.specs.Checks.{time_bad, date_bad, sound_of, checked_of}
use Rattle.bridge.specs.Bridge.{pending_of}

-- UTC does not look at the announcements
pub utc_pending : (r : Reading) → utc_of (pending_of r) ≡ utc_of r
unfolding utc_of pending_of
utc_pending r = refl

-- nor do the checks that every writer shares
pub pending_checked : (base : ℕ) (r : Reading) → checked_of base (pending_of r) ≡ checked_of base r
unfolding checked_of sound_of time_bad date_bad pending_of
pending_checked base r = rw (utc_pending r)

-- ---- what is pending

within : (s : ℕ) → within_minute s ≡ true → (1 ≤ s) × (s ≤ 59)
unfolding within_minute
within s e =
    let p = both (leb 1 s) (leb s 59) e in
    (leb-true 1 s p.0, leb-true s 59 p.1)

module _ (r : Reading) where
  -- a leap second is pending only where it is announced, "UTC is 23:59:01..23:59:59" and it may close the day
  pub leap_pending_lem : (pending_of r).leap ≡ true
      → (r.leap ≡ true) × ((utc_of r).minute ≡ last_minute) × (closes_with_leap (utc_of r).date ≡ true) × (1 ≤ r.second) × (r.second ≤ 59)
  unfolding pending_of leap_window leap_minute
  leap_pending_lem e =
      let u = utc_of r in
      let p = both r.leap (leap_window u r.second) e in
      let q = both (leap_minute u) (within_minute r.second) p.1 in
      let m = both (eqb u.minute last_minute) (closes_with_leap u.date) q.0 in
      let w = within r.second q.1 in
      (p.0, eqb-true u.minute last_minute m.0, m.1, w.0, w.1)

  -- and wherever that is so
  pub leap_kept : r.leap ≡ true → leap_window (utc_of r) r.second ≡ true → (pending_of r).leap ≡ true
  unfolding pending_of
  leap_kept e w = rw (w, e)

  -- a change is pending only where it is announced and "local minute is 59, second 1..59"
  pub change_pending_lem : (pending_of r).change ≡ true → (r.change ≡ true) × (r.minute ≡ 59) × (1 ≤ r.second) × (r.second ≤ 59)
  unfolding pending_of change_window
  change_pending_lem e =
      let p = both r.change (change_window r.minute r.second) e in
      let q = both (eqb r.minute 59) (within_minute r.second) p.1 in
      let w = within r.second q.1 in
      (p.0, eqb-true r.minute 59 q.0, w.0, w.1)

  -- and wherever that is so
  pub change_kept : r.change ≡ true → change_window r.minute r.second ≡ true → (pending_of r).change ≡ true
  unfolding pending_of
  change_kept e w = rw (w, e)
