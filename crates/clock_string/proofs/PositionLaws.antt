-- The position part: bytes 41..66 of an accepted Uni Erlangen string, and of no other string any.
use Rattle.strings.specs.Checks.{Answer as Said}
use Rattle.std.specs.Prelude.{Err, Ok}
use mathlib.Core.Bool.{Bool, false}
use mathlib.Core.List.{List, []}
use mathlib.Core.Path.{◌≡◌, refl}
use Prim.Native.Nat.{ℕ}
use lib.ListN.{length}
use mathlib.Core.Logic.{inr}
use Rattle.reading.specs.Years.{is_base}
use Rattle.wire.specs.Layout.{printables}
use Rattle.reading.specs.declared.Reading.{Reading}
use Rattle.reading.specs.declared.Refusal.{Refusal}
use Rattle.meinberg.specs.Layout.{text_length}
use Rattle.meinberg.specs.Meaning.{read_meinberg}
use Rattle.erlangen.specs.Layout.{position_at, position_size}
use Rattle.erlangen.specs.Meaning.{read_erlangen, position_bytes}
use Rattle.erlangen.proofs.Promises.{position_good as bytes_Good}
use Rattle.clock_string.specs.declared.Told.TheVariants.{Meinberg, Erlangen}
use Rattle.clock_string.specs.Reader.{as_meinberg, read_string}
use Rattle.clock_string.specs.Position.{position_for, start_for, position_of}
use Rattle.clock_string.proofs.ReadLaws.{at_32, Way, meinberg, erlangen, neither, way, is_erlangen, erlangen_told, other_base_lem}

module _ (base : ℕ) (s : List ℕ) where
  pub position_of_erlangen : (r : Reading) (coasting : Bool) → read_string base s ≡ Ok (Erlangen r coasting) → position_of base s ≡ position_bytes s
  unfolding position_of
  position_of_erlangen r coasting e = rw e

  pub position_of_meinberg : (r : Reading) (coasting : Bool) → read_string base s ≡ Ok (Meinberg r coasting) → position_of base s ≡ []
  unfolding position_of
  position_of_meinberg r coasting e = rw e

  -- "an empty part for a refused string"
  pub position_of_refused : (x : Refusal) → read_string base s ≡ Err x → position_of base s ≡ []
  unfolding position_of
  position_of_refused x e = rw e

  -- "The position bytes are printable", and there are 26, so that a writer takes them
  pub position_good : (r : Reading) (coasting : Bool) → read_string base s ≡ Ok (Erlangen r coasting)
      → (length (position_of base s) ≡ position_size) × (printables (position_of base s) ≡ position_size)
  position_good r coasting e = rw (position_of_erlangen r coasting e) (bytes_Good base s r coasting (is_erlangen base s r coasting e).1)

-- ---- no part, at the string's own start

abbrev pub NoPart : ℕ → List ℕ → Type 0
NoPart base s = ([] ≡ position_of base s) × (start_for (read_string base s) ≡ 0)

module _ (base : ℕ) (s : List ℕ) where
  -- "A 32-byte string's position part is empty", be it accepted or not
  pub no_part_of_32 : length s ≡ text_length → NoPart base s
  unfolding position_of
  no_part_of_32 h = rw (at_32 base s h) (go (read_meinberg base s))
    where
      go : (a : Said) → ([] ≡ position_for (as_meinberg a) s) × (start_for (as_meinberg a) ≡ 0)
      go (Ok (r, coasting)) = (refl, refl)
      go (Err x) = (refl, refl)

  -- nor has any string one that is refused as Uni Erlangen's
  pub no_part_of_refused : (x : Refusal) → read_erlangen base s ≡ Err x → NoPart base s
  unfolding position_of
  no_part_of_refused x e = go (way base s)
    where
      go : Way base s → NoPart base s
      go (meinberg h w) = no_part_of_32 h
      go (erlangen h w) = rw (w, e) (refl, refl)
      go (neither w) = rw w (refl, refl)

  -- one that is accepted as such has its bytes 41..66
  pub part_of_accepted : (r : Reading) (coasting : Bool) → read_erlangen base s ≡ Ok (r, coasting)
      → (position_bytes s ≡ position_of base s) × (start_for (read_string base s) ≡ position_at)
  unfolding position_of
  part_of_accepted r coasting e = rw (erlangen_told base s r coasting e) (refl, refl)

  -- and with another base than the two no string has one
  pub no_part_of_other_base : is_base base ≡ false → NoPart base s
  unfolding position_of
  no_part_of_other_base g = go (way base s)
    where
      go : Way base s → NoPart base s
      go (meinberg h w) = no_part_of_32 h
      go (erlangen h w) = rw (other_base_lem base s (inr h) g) (refl, refl)
      go (neither w) = rw w (refl, refl)
