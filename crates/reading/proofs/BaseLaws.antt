-- "any other base .. is 19, straight after 1": of stamping, which has no length, before everything else; and 19 is given to nothing else.
use Rattle.std.specs.Prelude.{Err}
use mathlib.Core.Bool.{Bool, true, false}
use mathlib.Core.List.{[], ◌∷◌}
use mathlib.Core.Logic.{◌↔◌}
use mathlib.Core.Path.{◌≡◌, refl}
use Prim.Native.Nat.{ℕ}
use Rattle.laws.proofs.Bools.{never}
use Rattle.reading.specs.declared.Reading.{Reading}
use Rattle.reading.specs.declared.Fault.TheVariants.{OtherBase}
use Rattle.reading.specs.Years.{is_base}
use Rattle.reading.specs.Faults.{number}
use Rattle.reading.specs.Checks.{checked_of}
use Rattle.reading.specs.Stamps.{stamp_of}
use Rattle.reading.specs.Refusals.{Owed}
use Rattle.reading.specs.Objections.{base_objection, check_objections, sound_objections, reading_objections, stamp_objections, stamp_codes}
use Rattle.reading.proofs.RefusalLaws.{coded_later}
use Rattle.reading.proofs.StampLaws.{refused_by_fault}
use Rattle.reading.proofs.OwedLaws.{stamp_owed}

-- a base that is none is found before anything of the reading
pub other_base_checked : (base : ℕ) (r : Reading) → is_base base ≡ false → checked_of base r ≡ Err OtherBase
unfolding checked_of
other_base_checked base r g = rw g

pub stamp_other_base : (base : ℕ) (r : Reading) → is_base base ≡ false → stamp_of base r ≡ Err (number OtherBase)
stamp_other_base base r g = refused_by_fault base r OtherBase (other_base_checked base r g)

-- and stamping answers 19 to nothing else
pub stamp_19_exactly : (base : ℕ) (r : Reading) → (stamp_of base r ≡ Err (number OtherBase)) ↔ (is_base base ≡ false)
unfolding stamp_objections reading_objections sound_objections check_objections number
stamp_19_exactly base r = (λ e. go (is_base base) refl (rw e at (stamp_owed base r)), stamp_other_base base r)
  where
    go : (g : Bool) → is_base base ≡ g → Owed (stamp_objections base r) stamp_codes (number OtherBase) → is_base base ≡ false
    go false g w = g
    go true g w = never (coded_later (15 ∷ 16 ∷ 17 ∷ 8 ∷ 9 ∷ 12 ∷ []) (base_objection base) _ (number OtherBase) (rw g) refl w.0)
