-- What the parts of a frame say: parts 24 and 25 are the upper digits of group 23.
use mathlib.Core.List.{List}
use mathlib.Core.Path.{◌≡◌, refl}
use Prim.Native.Nat.{ℕ, ◌/◌}
use native.Mathlib.Omega.{arith}
use lib.ListN.{length, get_or, set, length-set}
use Rattle.pulses.proofs.LayingLaws.{Says, itself, unshifted, for_part, whole_says, part_says}

abbrev pub home : ℕ → ℕ
home = for_part 25 23 (for_part 24 23 itself)

abbrev pub shift : ℕ → ℕ
shift = for_part 25 16 (for_part 24 8 unshifted)

abbrev middle : List ℕ → List ℕ
middle v = set v 24 (get_or v 23 0 / 256)

abbrev pub said : List ℕ → List ℕ
said v = set (middle v) 25 (get_or (middle v) 23 0 / 65536)

pub says : (v : List ℕ) → length v ≡ 32 → Says v (said v) home shift
says v l =
    part_says v (middle v) (for_part 24 23 itself) (for_part 24 8 unshifted) 25 23 16
    (part_says v v itself unshifted 24 23 8 (whole_says v) (omega arith) refl refl)
    (omega (arith, length-set v 24 (get_or v 23 0 / 256))) refl refl
