-- "in the book the kind still fixes the length", and so which string a body is: of kind 1 Meinberg's, of kind 2 Uni Erlangen's; and that another
-- base than the two refuses every whole body by 19.
use Rattle.std.specs.Prelude.{Some}
use mathlib.Core.Bool.{false}
use mathlib.Core.List.{List}
use mathlib.Core.Path.{◌≡◌, ap, ◌∙◌}
use Prim.Native.Nat.{ℕ, ◌+◌}
use native.Mathlib.Omega.{arith}
use lib.ListN.{length, drop, length-drop}
use lib.Seq.{length-take-le}
use Rattle.reading.specs.declared.Fault.TheVariants.{OtherBase}
use Rattle.reading.specs.Faults.{number}
use Rattle.reading.specs.Years.{is_base}
use Rattle.meinberg.specs.Meaning.{read_meinberg}
use Rattle.erlangen.specs.Meaning.{read_erlangen}
use Rattle.clock_string.specs.Reader.{as_meinberg, as_erlangen, read_string}
use Rattle.clock_string.proofs.ReadLaws.{at_32, at_68}
use Rattle.book.specs.Body.{Said, body_length, record_of, refused}
use Rattle.book.specs.Book.{kind_at, length_at, body_at, record_at}
use Rattle.book.proofs.PlaceLaws.{Whole, whole_there}
use Rattle.book.proofs.BodyLaws.{other_base_body}

pub kind_fixes_length : (b : List ℕ) (at : ℕ) → Whole b at → length (body_at b at) ≡ length_at b at
kind_fixes_length b at w = length-take-le (length_at b at) (drop (at + 1) b) (omega (arith, length-drop (at + 1) b, w.room))

-- the answer to a body, a refusal too, is that of the kind's own string, under its name
module _ (base : ℕ) (b : List ℕ) (at : ℕ) (w : Whole b at) where
  pub kind_1_is_meinberg : kind_at b at ≡ 1 → read_string base (body_at b at) ≡ as_meinberg (read_meinberg base (body_at b at))
  unfolding body_length
  kind_1_is_meinberg k = at_32 base (body_at b at) (kind_fixes_length b at w ∙ ap body_length k)

  pub kind_2_is_erlangen : kind_at b at ≡ 2 → read_string base (body_at b at) ≡ as_erlangen (read_erlangen base (body_at b at))
  unfolding body_length
  kind_2_is_erlangen k = at_68 base (body_at b at) (kind_fixes_length b at w ∙ ap body_length k)

  -- a whole body of any kind, with a base that is neither 1990 nor 2000
  pub other_base_there : is_base base ≡ false → record_at base b at ≡ Some (refused (kind_at b at) (number OtherBase))
  other_base_there g =
      whole_there base b at w
      ∙ ap (λ (a : Said). Some (record_of (kind_at b at) a)) (other_base_body base (kind_at b at) (body_at b at) g w.known (kind_fixes_length b at w))
