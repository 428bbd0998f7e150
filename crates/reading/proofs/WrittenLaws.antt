-- What a writer's answer tells of the verdict behind it, and of the lent buffer; and what a verdict made of two tells of each.
use Rattle.reading.specs.Faults.{Verdict, no_fault}
use Rattle.std.specs.Prelude.{Err, Ok}
use mathlib.Core.List.{List}
use mathlib.Core.Path.{◌≡◌, refl}
use Prim.Native.Nat.{ℕ}
use Rattle.reading.specs.declared.Refusal.{Refusal}
use Rattle.reading.specs.Writing.{and_then, written_of, filled}
use Rattle.reading.proofs.CheckLaws.{clash}

-- a length is answered where nothing is at fault, and it is the format's
pub length_is : (v : Verdict) (m n : ℕ) → written_of v m ≡ Ok n → (v ≡ no_fault) × (n ≡ m)
length_is (Ok done) m n e = (refl, cc)
length_is (Err x) m n e = let z : ◌≡◌ {A = ℕ} 0 1 = cc in clash z

-- checks and what comes after them are both good
pub then_good : (v w : Verdict) → and_then v w ≡ no_fault → (v ≡ no_fault) × (w ≡ no_fault)
then_good (Ok done) w e = (refl, e)
then_good (Err x) w e = let z : ◌≡◌ {A = ℕ} 0 1 = cc in clash z

-- a refusal "leaves all lent memory untouched"
pub untouched : (v : Verdict) (m : ℕ) (bytes out : List ℕ) (x : Refusal) → written_of v m ≡ Err x → filled v bytes out ≡ out
untouched (Err fault) m bytes out x e = refl
untouched (Ok done) m bytes out x e = let z : ◌≡◌ {A = ℕ} 0 1 = cc in clash z
