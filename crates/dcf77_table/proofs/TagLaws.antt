-- The tags of a minute are its table's, each by one test that antt computes over its marks; and so its groups' sums are the parts', joined.
use mathlib.Core.Path.{◌≡◌, refl, ◌∙◌}
use mathlib.Core.Bool.{Bool, true, false}
use mathlib.Core.List.{List, map}
use Prim.Native.Nat.{ℕ, ◌<◌, ◌≤◌, min}
use native.Mathlib.Omega.{arith}
use lib.Dec.{T}
use lib.ListN.{length, get_or, length-map}
use Rattle.laws.specs.Tests.{below}
use Rattle.pulses.specs.Row.{groups, group_of, weight_of, good_pulses, sums_of}
use Rattle.pulses.specs.Tags.{total, part_of, digit_at, tag_of, entry_of, tag_sums}
use Rattle.pulses.proofs.TagLaws.{same_tags, tags_good}
use Rattle.pulses.proofs.CellLaws.{sums_small}
use Rattle.pulses.proofs.BoardLaws.{tag_part, tag_weight, own_tags, tags-sums}
use Rattle.pulses.proofs.PartLaws.{joined_part, joined_weight, joined, sums_joined, same_entry, parts-sums}
use Rattle.dcf77_table.specs.Table.{head, shared_marks, last_marks, minute_marks}
use Rattle.dcf77_table.specs.Tags.{upper_part, tags}
use Rattle.dcf77_table.proofs.ValueLaws.{few}

pub tags-length : (long : Bool) → length (tags long) ≡ length (minute_marks long)
unfolding tags
tags-length long = length-map (minute_marks long) (tag_of upper_part)

asked : (long : Bool) → T (same_tags (minute_marks long) (tags long))
unfolding same_tags tags tag_of part_of digit_at total shared_marks last_marks minute_marks group_of weight_of
asked true = tt
asked false = tt

own : (long : Bool) → T (own_tags (tags long))
unfolding own_tags tags tag_of part_of digit_at total shared_marks last_marks minute_marks group_of weight_of
own true = tt
own false = tt

pub marks_good : (long : Bool) (s : List ℕ) (n : ℕ) → n ≡ good_pulses (map entry_of (tags long)) s → n ≡ good_pulses (minute_marks long) s
marks_good long s n e = e ∙ tags_good (minute_marks long) (tags long) s (asked long)

-- with the upper part joined to the head
entries : (long : Bool)
    → T (below (same_entry (minute_marks long) (joined_part upper_part head (tag_part (tags long))) (joined_weight upper_part 256 (tag_part (tags long)) (tag_weight (tags long)))) (length (minute_marks long)))
unfolding tags tag_of part_of digit_at total shared_marks last_marks minute_marks group_of weight_of
entries true = tt
entries false = tt

pub marks_sums : (long : Bool) (s v : List ℕ) → v ≡ tag_sums (tags long) s → joined upper_part head 256 v ≡ sums_of (minute_marks long) s
marks_sums long s v e =
    let n = min (length (tags long)) (length s) in
    let m : n ≡ min (length (minute_marks long)) (length s) = omega (arith, tags-length long) in
    sums_joined upper_part head 256 (λ z. omega arith) (tag_part (tags long)) (tag_weight (tags long)) s n v (e ∙ tags-sums (tags long) s (own long) n refl) (omega arith) (omega arith)
    ∙ parts-sums (minute_marks long) _ _ (entries long) s n m (few long)

part_small : (long : Bool) (s v : List ℕ) → v ≡ tag_sums (tags long) s → (k : ℕ) → k < groups → get_or v k 0 ≤ 255
part_small long s v e k h = rw e (sums_small (tags long) s k h)

-- the head's own part and its upper one say no more than a byte
pub two_small : (long : Bool) (s v : List ℕ) → v ≡ tag_sums (tags long) s → (get_or v head 0 ≤ 255) × (get_or v upper_part 0 ≤ 255)
two_small long s v e = (part_small long s v e head (omega arith), part_small long s v e upper_part (omega arith))
