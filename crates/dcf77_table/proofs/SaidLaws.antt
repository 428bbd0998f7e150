-- What the parts of a minute say: part 21 is the upper digits of group 3; and that by them is laid what the table lays.
use mathlib.Core.Bool.{Bool, true, false}
use mathlib.Core.List.{List}
use mathlib.Core.Path.{◌≡◌, refl}
use Prim.Native.Nat.{ℕ, ◌/◌}
use native.Mathlib.Omega.{arith}
use lib.Dec.{T}
use lib.ListN.{length, get_or, set}
use Rattle.laws.specs.Tests.{below}
use Rattle.pulses.specs.Row.{group_of, weight_of, fits_in, laid}
use Rattle.pulses.specs.Tags.{total, part_of, digit_at, tag_of}
use Rattle.pulses.specs.Laying.{tags_fit, tags_laid}
use Rattle.pulses.proofs.LayingLaws.{Says, itself, unshifted, for_part, whole_says, part_says, own_tag, tags-laid}
use Rattle.dcf77_table.specs.Table.{shared_marks, last_marks, minute_marks}
use Rattle.dcf77_table.specs.Tags.{tags}
use Rattle.dcf77_table.proofs.TagLaws.{tags-length}

abbrev pub home : ℕ → ℕ
home = for_part 21 3 itself

abbrev pub shift : ℕ → ℕ
shift = for_part 21 8 unshifted

abbrev pub said : List ℕ → List ℕ
said v = set v 21 (get_or v 3 0 / 256)

pub says : (v : List ℕ) → length v ≡ 32 → Says v (said v) home shift
says v l = part_says v v itself unshifted 21 3 8 (whole_says v) (omega arith) refl refl

-- ---- the tags of both forms are those of their tables

tested : (long : Bool) → T (below (own_tag home shift (minute_marks long) (tags long)) (length (minute_marks long)))
unfolding tags tag_of part_of digit_at total shared_marks last_marks minute_marks group_of weight_of
tested true = tt
tested false = tt

-- who lays what the parts say by the tags lays what the table does
pub marks_laid : (long : Bool) (v : List ℕ) → length v ≡ 32 → (out : List ℕ) (r : Bool) (now : List ℕ)
    → (r ≡ tags_fit (tags long) out) × (now ≡ tags_laid (tags long) (said v) out) → (r ≡ fits_in (minute_marks long) out) × (now ≡ laid (minute_marks long) v out)
marks_laid long v l = tags-laid home shift (minute_marks long) (tags long) (tested long) (tags-length long) v (said v) (says v l)
