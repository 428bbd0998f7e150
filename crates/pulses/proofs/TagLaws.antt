-- What a tag asks of a pulse is what its table asks, and pulses that are looked at sixteen at a time are all looked at.
use mathlib.Core.Path.{◌≡◌, refl, sym, ap, subst, ◌∙◌}
use mathlib.Core.Bool.{Bool, true, false, cond, ◌&&◌}
use mathlib.Core.List.{List, [], ◌∷◌, map}
use Prim.Native.Nat.{ℕ, zero, suc, ◌+◌, ◌-◌, ◌*◌, ◌/◌, ◌%◌, ◌<◌, ◌≤◌, min}
use native.Mathlib.Nat.{sub-zero, zero-add, add-zero}
use native.Mathlib.Numerals.{add-one}
use native.Mathlib.Decide.{dec_lt}
use native.Mathlib.Omega.{arith}
use borrow.Author.Tests.{lt-ltb, le-ltb, ltb-true, ltb-false}
use lib.Dec.{T, eqb, eqb→eq, ltb, leb, leb→le}
use lib.ListN.{length, get_or, take, drop, length-drop, length-map, get_or-map}
use lib.Seq.{take_all}
use Rattle.std.proofs.lemmas.List.{length-take-le, drop-map}
use Rattle.std.specs.Prelude.{slice_range}
use Rattle.std.specs.List.{prefix_len, zip}
use Rattle.std.proofs.lemmas.List.Edits.{length-between, get_or-between}
use Rattle.laws.specs.Tests.{below}
use Rattle.laws.proofs.Bools.{both, holds, is_true, never}
use Rattle.laws.proofs.Tested.{at, and_left, and_right}
use Rattle.pulses.specs.Row.{groups, first_data, group_of, is_fixed, pulse_allowed, good_pulses}
use Rattle.pulses.specs.Tags.{entry_of, fit_from, blocks_fit, CountedTo, total, cells_say}
use Rattle.pulses.proofs.EntryLaws.{fixed_allowed, data_allowed}
use Rattle.pulses.proofs.ZipLaws.{Turn}
use Rattle.pulses.proofs.GoodLaws.{allowed_at, Counted, counted-more, counted-ends, good_from, good_in_table, good_in_row}

-- ---- one tag

module _ (c b : ℕ) where
  pub tag_group : group_of (entry_of c) ≡ c % groups
  unfolding group_of entry_of
  tag_group = omega arith

  pub tag_fixed : c % groups < first_data → eqb b (c % groups) ≡ pulse_allowed (entry_of c) b
  tag_fixed h = sym (fixed_allowed (entry_of c) b (omega (arith, tag_group)) ∙ ap (eqb b) tag_group)

  pub tag_data : first_data ≤ c % groups → ltb b 2 ≡ pulse_allowed (entry_of c) b
  tag_data h = sym (data_allowed (entry_of c) b (omega (arith, tag_group)))

-- ---- pulses in a row

below_same : (f g : ℕ → Bool) (n : ℕ) → ((i : ℕ) → i < n → f i ≡ g i) → below f n ≡ below g n
below_same f g zero h = refl
below_same f g (suc n) h = rw (h n (omega arith), below_same f g n (λ i l. h i (omega arith)))

module _ (tags s : List ℕ) where
  -- what the tag at place i asks
  pub tag_at : (i : ℕ) → allowed_at (map entry_of tags) s i ≡ pulse_allowed (entry_of (get_or tags i 0)) (get_or s i 0)
  unfolding entry_of
  tag_at i = ap (λ (e : ℕ). pulse_allowed e (get_or s i 0)) (get_or-map entry_of tags i 0)

  pub fit_none : (a : ℕ) → true ≡ fit_from tags s a 0
  unfolding fit_from
  fit_none a = refl

  -- the next of two rows side by side is judged too
  pub fit_next : (i n c b : ℕ) (f g : Bool) → Turn tags s i n c b → g ≡ fit_from tags s 0 i → f ≡ pulse_allowed (entry_of c) b
      → (f && g) ≡ fit_from tags s 0 n
  unfolding fit_from
  fit_next i n c b f g z p q = rw (z.more, add-one, zero-add i, p, q, z.first, z.second)

  -- the same, where the part that is judged is cut out of both
  pub fit_part : (a b : ℕ) → a ≤ b → b ≤ length tags → b ≤ length s → (let t = slice_range tags a b in let r = slice_range s a b in
      fit_from t r 0 (min (length t) (length r)) ≡ fit_from tags s a (b - a))
  unfolding fit_from
  fit_part a b h k l =
      let e : min (length (slice_range tags a b)) (length (slice_range s a b)) ≡ b - a = omega (arith, length-between tags a b k, length-between s a b l) in
      rw e (below_same _ _ (b - a) (λ i m. rw (zero-add i, get_or-between tags a b i 0 (omega arith), get_or-between s a b i 0 (omega arith))))

  fit_front : (n : ℕ) → n ≤ length tags → n ≤ length s → (let t = take n tags in let r = take n s in
      fit_from t r 0 (min (length t) (length r)) ≡ fit_from tags s 0 n)
  fit_front n k l = rw sub-zero at (fit_part 0 n (omega arith) k l)

  pub too_few : (n : ℕ) → n < 16 → false ≡ blocks_fit tags s n
  unfolding blocks_fit
  too_few n h = rw (lt-ltb n 16 h)

  -- as many sixteens as there are, and the last sixteen
  pub enough : (n : ℕ) (most last : Bool) → n ≡ length tags → length tags ≡ length s → 16 ≤ n
      → (let t = take (n / 16 * 16) tags in let r = take (n / 16 * 16) s in most ≡ fit_from t r 0 (min (length t) (length r)))
      → (let t = slice_range tags (n - 16) (length tags) in let r = slice_range s (n - 16) (length s) in last ≡ fit_from t r 0 (min (length t) (length r)))
      → (most && last) ≡ blocks_fit tags s n
  unfolding blocks_fit
  enough n most last e l h p q =
      let d : n - (n - 16) ≡ 16 = omega arith in
      let k : length s ≡ n = omega arith in
      let f : last ≡ fit_from tags s (n - 16) 16 = rw (← e, k) at q
      ∙ fit_part (n - 16) n (omega arith) (omega arith) (omega arith) ∙ ap (fit_from tags s (n - 16)) d in
      rw (le-ltb n 16 h, f, p ∙ fit_front (n / 16 * 16) (omega arith) (omega arith))

  fit_each : (a n : ℕ) → fit_from tags s a n ≡ true → (i : ℕ) → i < n → allowed_at (map entry_of tags) s (a + i) ≡ true
  unfolding fit_from
  fit_each a n e i h =
      tag_at (a + i) ∙ is_true _ (at (λ i. pulse_allowed (entry_of (get_or tags (a + i) 0)) (get_or s (a + i) 0)) n (holds _ e) i h)

  -- the next n are counted, where all of them are good
  counted_on : (a n : ℕ) → a + n ≤ length tags → a + n ≤ length s → fit_from tags s a n ≡ true → CountedTo tags s a → CountedTo tags s (a + n)
  counted_on a n h k e c = go n (omega arith)
    where
      go : (i : ℕ) → i ≤ n → Counted (map entry_of tags) s (a + i)
      go zero l = rw (add-zero a) c
      go (suc i) l =
          let m = length-map tags entry_of in
          let z : a + suc i ≡ a + i + 1 = omega arith in
          rw z (counted-more (map entry_of tags) s (a + i) (go i (omega arith)) (omega arith) (omega arith) (fit_each a n e i l))

  -- the next part is counted, where it is cut out and judged
  pub counted_part : (a b m : ℕ) (f : Bool) → a ≤ b → b ≤ length tags → b ≤ length s → b ≡ m
      → (let t = slice_range tags a b in let r = slice_range s a b in f ≡ fit_from t r 0 (min (length t) (length r))) → f ≡ true
      → CountedTo tags s a → CountedTo tags s m
  counted_part a b m f h k l e p q c =
      let z : a + (b - a) ≡ m = omega arith in
      subst (λ (n : ℕ). CountedTo tags s n) z
      (counted_on a (b - a) (omega arith) (omega arith) (sym (p ∙ fit_part a b h k l) ∙ q) c)

  blocks_each : (n : ℕ) → blocks_fit tags s n ≡ true → (i : ℕ) → i < n → allowed_at (map entry_of tags) s i ≡ true
  unfolding blocks_fit
  blocks_each n e i h = elim (dec_lt n 16) [
    | yes k ↦ never (rw (lt-ltb n 16 k) at e)
    | no k ↦
        let f = both (fit_from tags s 0 (n / 16 * 16)) (fit_from tags s (n - 16) 16) (rw (le-ltb n 16 (omega arith)) at e) in
        elim (dec_lt i (n / 16 * 16)) [
          | yes l ↦ rw (zero-add i) at (fit_each 0 (n / 16 * 16) f.0 i l)
          | no l ↦
              let p : n - 16 + (i - (n - 16)) ≡ i = omega arith in
              rw p at (fit_each (n - 16) 16 f.1 (i - (n - 16)) (omega arith))
        ]
  ]

  -- all are good
  blocks_good : (n : ℕ) → n ≡ min (length tags) (length s) → blocks_fit tags s n ≡ true → n ≡ good_pulses (map entry_of tags) s
  blocks_good n m e =
      let l = length-map tags entry_of in
      counted-ends (map entry_of tags) s n
      (good_from (map entry_of tags) s n (omega arith) (omega arith) (blocks_each n e)) (omega arith)

-- one by one: the pairs from the start that fit
pub good_prefix : (tags s : List ℕ) → prefix_len (λ (e : ℕ × ℕ). pulse_allowed (entry_of e.0) e.1) (zip tags s) ≡ good_pulses (map entry_of tags) s
unfolding good_pulses
good_prefix [] s = refl
good_prefix (c ∷ tags) [] = refl
good_prefix (c ∷ tags) (b ∷ s) =
    let next : 1 + good_pulses (map entry_of tags) s ≡ suc (good_pulses (map entry_of tags) s) = omega arith in
    rw (good_prefix tags s, next)

-- ---- up to the end of the shorter

front_good : (t s : List ℕ) (n : ℕ) → n ≡ min (length t) (length s) → good_pulses (map entry_of (take n t)) (take n s) ≡ good_pulses (map entry_of t) s
unfolding good_pulses
front_good [] s n m = let e : n ≡ 0 = omega arith in rw e
front_good (c ∷ t) [] n m = let e : n ≡ 0 = omega arith in rw e
front_good (c ∷ t) (b ∷ s) zero m = absurd (omega arith)
front_good (c ∷ t) (b ∷ s) (suc n) m = rw (front_good t s n (omega arith))

-- the first a are good, and what is left is counted by itself
rest_good : (t s : List ℕ) (a : ℕ) → CountedTo t s a
    → a + good_pulses (map entry_of (slice_range t a (length t))) (slice_range s a (length s)) ≡ good_pulses (map entry_of t) s
rest_good t s a c =
    let k : length (drop a t) ≤ length t - a = omega (arith, length-drop a t) in
    let l : length (drop a s) ≤ length s - a = omega (arith, length-drop a s) in
    rw (take_all (length t - a) (drop a t) k, take_all (length s - a) (drop a s) l, ← drop-map entry_of a t) c

module _ (tags s : List ℕ) (n : ℕ) (m : n ≡ min (length tags) (length s)) where
  abbrev shown : List ℕ
  shown = take n tags

  abbrev sent : List ℕ
  sent = take n s

  pub all_good : (f : Bool) → f ≡ blocks_fit shown sent (length shown) → f ≡ true → n ≡ good_pulses (map entry_of tags) s
  all_good f p q =
      let k : length shown ≡ n = length-take-le n tags (omega arith) in
      let l : length sent ≡ n = length-take-le n s (omega arith) in
      sym k ∙ blocks_good shown sent (length shown) (omega (arith, k, l)) (sym p ∙ q) ∙ front_good tags s n m

  pub good_on : (a r : ℕ) → CountedTo shown sent a → r ≡ good_pulses (map entry_of (slice_range shown a (length shown))) (slice_range sent a (length sent))
      → a + r ≡ good_pulses (map entry_of tags) s
  good_on a r c e = rw e (rest_good shown sent a c) ∙ front_good tags s n m

  pub good_small : (a r : ℕ) → a + r ≡ good_pulses (map entry_of tags) s → a + r ≤ n
  good_small a r e =
      omega (arith, e, good_in_table (map entry_of tags) s, good_in_row (map entry_of tags) s, length-map tags entry_of)

-- ---- what eight cells say

pub octet_is : (cells : List ℕ) (k : ℕ) → (let x : ℕ → ℕ = λ n. get_or cells (n + k) 0 % 2 in
    ((((((x 224 * 2 + x 192) * 2 + x 160) * 2 + x 128) * 2 + x 96) * 2 + x 64) * 2 + x 32) * 2 + get_or cells k 0 % 2) ≡ cells_say cells k
unfolding cells_say total
octet_is cells k = rw (zero-add k) (omega arith)

-- ---- the tags of a table

-- the tag c asks of a pulse what the entry e asks
abbrev pub same_tag : ℕ → ℕ → Bool
same_tag e c = cond (is_fixed e) (eqb (group_of e) (c % groups)) (leb first_data (c % groups))

unfoldable pub same_tags : List ℕ → List ℕ → Bool
same_tags [] [] = true
same_tags [] (c ∷ tags) = false
same_tags (e ∷ t) [] = false
same_tags (e ∷ t) (c ∷ tags) = same_tag e c && same_tags t tags

asks_same : (e c b : ℕ) (a : Bool) → is_fixed e ≡ a → T (cond a (eqb (group_of e) (c % groups)) (leb first_data (c % groups)))
    → pulse_allowed (entry_of c) b ≡ pulse_allowed e b
asks_same e c b true p h =
    let q = eqb→eq (group_of e) (c % groups) h in
    let f = ltb-true (group_of e) first_data p in
    sym (tag_fixed c b (omega arith)) ∙ ap (eqb b) (sym q) ∙ sym (fixed_allowed e b f)
asks_same e c b false p h = sym (tag_data c b (leb→le first_data (c % groups) h)) ∙ sym (data_allowed e b (ltb-false (group_of e) first_data p))

pub tags_good : (t tags s : List ℕ) → T (same_tags t tags) → good_pulses (map entry_of tags) s ≡ good_pulses t s
unfolding same_tags good_pulses
tags_good [] [] s h = refl
tags_good [] (c ∷ tags) s h = absurd h
tags_good (e ∷ t) [] s h = absurd h
tags_good (e ∷ t) (c ∷ tags) [] h = refl
tags_good (e ∷ t) (c ∷ tags) (b ∷ s) h =
    rw (
      asks_same e c b (is_fixed e) refl (and_left (same_tag e c) (same_tags t tags) h),
      tags_good t tags s (and_right (same_tag e c) (same_tags t tags) h),
    )
