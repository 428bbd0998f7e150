-- A loop over two slices side by side: the pair of a turn stands at the place that the turns before it number, and the loop ends with the
-- shorter of the two.
use denote.Ref.{Bor}
use mathlib.Core.Path.{◌≡◌}
use mathlib.Core.List.{List, [], ◌∷◌, ◌++◌}
use Prim.Native.Nat.{ℕ, ◌+◌, ◌<◌}
use lib.ListN.{length, get_or, length-append}
use Rattle.std.proofs.iter.Yields.{fronts}
use Rattle.std.proofs.lemmas.Iterator.{zips}
use Rattle.std.proofs.lemmas.Slice.Zip.{zip_turn}
use Rattle.std.specs.Iterator.{Yields}
use Rattle.std.specs.Iterator.Adapters.{zip_first, zip_second}
use Rattle.std.proofs.Common.{Option, Some}
use Rattle.std.specs.Slice.Iter.{iter_rest}
use Rattle.std.specs.declared.iter.Zip.{Zip}
use Rattle.std.specs.declared.slice.Iter.{Iter}

-- after i turns the numbers k and v of two lists follow, which makes n turns
pub record Turn (ks vs : List ℕ) (i n k v : ℕ) : Type 0 where
  pub left : i < length ks
  pub right : i < length vs
  pub more : n ≡ i + 1
  pub first : k ≡ get_or ks i 0
  pub second : v ≡ get_or vs i 0

pub turn_at : (ks vs : List ℕ) (xs : List (Bor ℕ × Bor ℕ)) (s t u : Zip (Iter ℕ) (Iter ℕ)) (r : Option (Bor ℕ × Bor ℕ)) (p : Bor ℕ × Bor ℕ)
    → iter_rest (zip_first s) ≡ ks → iter_rest (zip_second s) ≡ vs → Yields (zips fronts fronts) s xs t
    → r ≡ Some p → zips fronts fronts t r u → Turn ks vs (length xs) (length (xs ++ (p ∷ []))) p.0.now p.1.now
turn_at ks vs xs s t u r p first second y is step =
    let z = zip_turn ks vs xs s t u r first second y p is step in
    record { left = z.0; right = z.1; more = length-append xs (p ∷ []); first = z.2 0; second = z.3 0 }
