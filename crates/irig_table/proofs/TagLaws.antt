-- The tags of a frame are its table's, each by one test that antt computes over its hundred pulses; and so its groups' sums are the parts', joined.
use mathlib.Core.Path.{◌≡◌, refl, ap, ◌∙◌}
use mathlib.Core.List.{List, map}
use Prim.Native.Nat.{ℕ, ◌+◌, ◌*◌, ◌<◌, ◌≤◌, min}
use native.Mathlib.Omega.{arith}
use lib.Dec.{T}
use lib.ListN.{length, get_or, set, length-map}
use lib.Seq.{get_or-set_same, get_or-set_other}
use Rattle.laws.specs.Tests.{below}
use Rattle.pulses.specs.Row.{groups, group_of, weight_of, good_pulses, sums_of}
use Rattle.pulses.specs.Tags.{total, part_of, digit_at, tag_of, entry_of, tag_sums}
use Rattle.pulses.proofs.TagLaws.{same_tags, tags_good}
use Rattle.pulses.proofs.CellLaws.{sums_small, sums_long}
use Rattle.pulses.proofs.BoardLaws.{tag_part, tag_weight, own_tags, tags-sums}
use Rattle.pulses.proofs.PartLaws.{joined_part, joined_weight, joined, sums_joined, same_entry, parts-sums}
use Rattle.irig_table.specs.declared.tags.TheConstants.{TAGS}
use Rattle.irig_table.specs.Table.{frame_pulses, second_of_day}
use Rattle.irig_table.specs.Tags.{upper_part, top_part, tags}
use Rattle.irig_table.proofs.TableLaws.{frame_length_lem}

tags-length : length tags ≡ 100
unfolding tags
tags-length = length-map frame_pulses (tag_of upper_part) ∙ frame_length_lem

asked : T (same_tags frame_pulses tags)
unfolding same_tags tags tag_of part_of digit_at total frame_pulses group_of weight_of
asked = tt

own : T (own_tags tags)
unfolding own_tags tags tag_of part_of digit_at total frame_pulses group_of weight_of
own = tt

pub frame_good : (s : List ℕ) (n : ℕ) → n ≡ good_pulses (map entry_of tags) s → n ≡ good_pulses frame_pulses s
frame_good s n e = e ∙ tags_good frame_pulses tags s asked

-- ---- with both parts joined to the second of the day

upper_joined : ℕ → ℕ
upper_joined = joined_part upper_part second_of_day (tag_part tags)

upper_weight : ℕ → ℕ
upper_weight = joined_weight upper_part 256 (tag_part tags) (tag_weight tags)

entries : T (below (same_entry frame_pulses (joined_part top_part second_of_day upper_joined) (joined_weight top_part 65536 upper_joined upper_weight)) (length frame_pulses))
unfolding upper_joined upper_weight tags tag_of part_of digit_at total frame_pulses group_of weight_of
entries = tt

pub frame_sums : (s v : List ℕ) → v ≡ tag_sums tags s → joined top_part second_of_day 65536 (joined upper_part second_of_day 256 v) ≡ sums_of frame_pulses s
unfolding upper_joined upper_weight
frame_sums s v e =
    let n = min (length tags) (length s) in
    let m : n ≡ min (length frame_pulses) (length s) = omega (arith, tags-length, frame_length_lem) in
    let upper =
    sums_joined upper_part second_of_day 256 (λ z. omega arith) (tag_part tags) (tag_weight tags) s n v (e ∙ tags-sums tags s own n refl) (omega arith) (omega arith) in
    sums_joined top_part second_of_day 65536 (λ z. omega arith) upper_joined upper_weight s n (joined upper_part second_of_day 256 v) upper (omega arith) (omega arith)
    ∙ parts-sums frame_pulses _ _ entries s n m (omega (arith, frame_length_lem))

-- ---- the same of the column in the code

pub column : TAGS ≡ tags
unfolding tags tag_of part_of digit_at total frame_pulses group_of weight_of
column = refl

pub column_good : (s : List ℕ) (n : ℕ) → n ≡ good_pulses (map entry_of TAGS) s → n ≡ good_pulses frame_pulses s
column_good s n e = frame_good s n (e ∙ ap (λ (t : List ℕ). good_pulses (map entry_of t) s) column)

pub column_sums : (s v : List ℕ) → v ≡ tag_sums TAGS s
    → joined top_part second_of_day 65536 (joined upper_part second_of_day 256 v) ≡ sums_of frame_pulses s
column_sums s v e = frame_sums s v (e ∙ ap (λ (t : List ℕ). tag_sums t s) column)

-- ---- the numbers on the way

-- the parts of the second of the day are bytes; and the first one joined leaves the other one, and what it was joined to holds the sum
pub record Summed (v : List ℕ) : Type 0 where
  pub own : get_or v second_of_day 0 ≤ 255
  pub upper : get_or v upper_part 0 ≤ 255
  pub top : get_or v top_part 0 ≤ 255
  pub kept : get_or (joined upper_part second_of_day 256 v) top_part 0 ≡ get_or v top_part 0
  pub both : get_or (joined upper_part second_of_day 256 v) second_of_day 0 ≡ get_or v second_of_day 0 + 256 * get_or v upper_part 0

pub summed : (s v : List ℕ) → v ≡ tag_sums TAGS s → Summed v
summed s v k =
    let e : v ≡ tag_sums tags s = k ∙ ap (λ (t : List ℕ). tag_sums t s) column in
    let x : ℕ = get_or v second_of_day 0 + 256 * get_or v upper_part 0 in
    let small : (k : ℕ) → k < groups → get_or v k 0 ≤ 255 = λ k h. rw e (sums_small tags s k h) in
    let h : second_of_day < length v = omega (arith, ap length e, sums_long tags s) in record {
      own = small second_of_day (omega arith);
      upper = small upper_part (omega arith);
      top = small top_part (omega arith);
      kept = get_or-set_other (set v second_of_day x) upper_part top_part 0 0 (λ z. omega arith) ∙ get_or-set_other v second_of_day top_part x 0 (λ z. omega arith);
      both = get_or-set_other (set v second_of_day x) upper_part second_of_day 0 0 (λ z. omega arith) ∙ get_or-set_same v second_of_day x 0 h;
    }
