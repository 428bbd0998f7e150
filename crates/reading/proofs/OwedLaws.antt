-- The code and place of a refusal by the checks that every writer shares, and by stamping.
use Rattle.std.specs.Prelude.{Err, Ok}
use mathlib.Core.Bool.{Bool, true, false, cond, not}
use mathlib.Core.List.{List, []}
use mathlib.Core.Path.{◌≡◌, refl, sym, ap, ◌∙◌}
use Prim.Native.Nat.{ℕ}
use lib.IntN.{ℤ}
use Rattle.laws.specs.Tests.{among}
use Rattle.laws.proofs.Bools.{never}
use Rattle.reading.specs.declared.Reading.{Reading}
use Rattle.reading.specs.declared.Refusal.{Refusal}
use Rattle.reading.specs.declared.Fault.{Fault}
use Rattle.reading.specs.declared.Fault.TheVariants.{OutsideYears, OtherBase}
use Rattle.reading.specs.Faults.{code_of, number, first, Verdict, no_fault}
use Rattle.reading.specs.Writing.{and_then, written_of}
use Rattle.reading.specs.Years.{is_base}
use Rattle.reading.specs.Universal.{utc_of}
use Rattle.reading.specs.Checks.{sound_of, checked_of}
use Rattle.reading.specs.Stamps.{has_stamp, stamp_number, stamp_is, stamp_at, unless_bad, stamp_of}
use Rattle.reading.specs.Refusals.{Objection, Owed}
use Rattle.reading.specs.Objections.{check_objections, sound_objections, reading_objections, stamp_objections, stamp_codes, StampOwed, WrittenOwed}
use Rattle.reading.proofs.RefusalLaws.{Through, none, judged, one_then_other, always_at_0, VerdictOwed, verdict_owed}
use Rattle.reading.proofs.OneDue.{owed_one}

pub sound_through : (base : ℕ) (r : Reading) → Through (sound_objections base r) (sound_of base r)
unfolding sound_objections check_objections sound_of
sound_through base r = search (judged, none) depth 10

pub checked_through : (base : ℕ) (r : Reading) → Through (reading_objections base r) (checked_of base r)
unfolding reading_objections checked_of
checked_through base r = judged (not (is_base base)) OtherBase 19 0 (sound_objections base r) (sound_of base r) refl refl (sound_through base r)

-- they refuse nothing by 11, which is each format's own
pub checks_not_11 : (base : ℕ) (r : Reading) (x : Fault) → checked_of base r ≡ Err x → code_of x ≡ 11 → ⊥
unfolding reading_objections sound_objections check_objections number
checks_not_11 base r x e c =
    let owed : VerdictOwed (reading_objections base r) stamp_codes (Err x) = rw e at (verdict_owed stamp_codes (checked_through base r) refl refl) in
    never (ap (λ (code : ℕ). among code stamp_codes) (sym c) ∙ owed.1)

-- what is promised of a verdict is promised of the writer that found it
pub written_owed : (l : List Objection) (codes : List ℕ) (v : Verdict) (n : ℕ) → VerdictOwed l codes v → WrittenOwed l codes (written_of v n)
written_owed l codes (Ok done) n p = p
written_owed l codes (Err x) n p = p

stamped_owed : (l : List Objection) (codes : List ℕ) (v : Verdict) (b : Bool) (n : ℤ)
    → VerdictOwed l codes (and_then v (first (not b) OutsideYears no_fault))
    → StampOwed l codes (unless_bad v (cond b (stamp_is n) (Err (number OutsideYears))))
stamped_owed l codes (Ok done) true n p = p
stamped_owed l codes (Ok done) false n p = p
stamped_owed l codes (Err x) b n p = p

-- "Stamping takes any reading and refuses it by .. alone"
pub stamp_owed : (base : ℕ) (r : Reading) → StampOwed (stamp_objections base r) stamp_codes (stamp_of base r)
unfolding stamp_of stamp_at stamp_objections reading_objections sound_objections check_objections
stamp_owed base r =
    stamped_owed (stamp_objections base r) stamp_codes (checked_of base r) (has_stamp (utc_of r).date.year) (stamp_number (utc_of r) r.second)
    (verdict_owed stamp_codes (one_then_other (checked_through base r) (judged (not (has_stamp (utc_of r).date.year)) OutsideYears 12 0 [] no_fault refl refl none)) refl refl)

-- which fixes the refusal, at place 0
pub stamp_one : (base : ℕ) (r : Reading) (x y : Refusal) → Owed (stamp_objections base r) stamp_codes x → Owed (stamp_objections base r) stamp_codes y → x ≡ y
stamp_one base r x y = owed_one (stamp_objections base r) stamp_codes x y refl

pub stamp_at_0 : (base : ℕ) (r : Reading) (x : Refusal) → Owed (stamp_objections base r) stamp_codes x → x.place ≡ 0
unfolding stamp_objections reading_objections sound_objections check_objections
stamp_at_0 base r x = always_at_0 (stamp_objections base r) stamp_codes x refl refl
