-- A row laid by tags: its bytes turn by turn, and that it is the row that the table lays, by one test over the table's entries.
use mathlib.Core.Path.{◌≡◌, refl, sym, ap, ◌∙◌}
use mathlib.Core.Bool.{Bool, true, false, cond, ◌&&◌}
use mathlib.Core.List.{List}
use Prim.Native.Nat.{ℕ, ◌+◌, ◌-◌, ◌*◌, ◌/◌, ◌%◌, ◌^◌, ◌<◌, ◌≤◌}
use native.Mathlib.Nat.{div-one}
use native.Mathlib.Decide.{dec_lt, ℕ_discrete}
use native.Mathlib.Omega.{arith}
use borrow.Author.Tests.{eq-eqb, ne_eqb, lt-leb, le-leb, lt-ltb, le-ltb, ltb-true, ltb-false}
use lib.Dec.{T, eqb, eqb→eq, leb, leb→le, ltb, ltb→lt}
use lib.ListN.{length, get_or, set}
use lib.Pow.{shr-shr, field, mod-mod-pow}
use lib.Seq.{ext_get_or, get_or-set_same, get_or-set_other}
use Rattle.std.specs.Prelude.{slice_range}
use Rattle.std.proofs.lemmas.List.Edits.{length-between, get_or-between}
use borrow.Rule.Slice.PartMut.{put_mid}
use Rattle.laws.specs.Tests.{below}
use Rattle.laws.proofs.Tested.{at, and_left, and_right}
use Rattle.pulses.specs.Row.{groups, first_data, group_of, is_fixed, weight_of, pulse_for, row, fits_in, laid, up_to}
use Rattle.pulses.specs.Laying.{
  tag_count,
  low_byte,
  digit_in,
  cell_digit,
  cell_of,
  cells_of,
  picked,
  tags_fit,
  tags_row,
  tags_laid,
}
use Rattle.pulses.proofs.EntryLaws.{fixed_pulse, pulse_data}
use Rattle.pulses.proofs.FillLaws.{filled_to, filled_none, filled_next, filled_part, filled-length, filled_at, filled_past}
use Rattle.pulses.proofs.RowLaws.{length-row, pulse_at_lem}
use Rattle.pulses.proofs.SumLaws.{length_up_to, up_to_at}

-- a list by its places
by_places : (f : ℕ → ℕ) (n : ℕ) (l : List ℕ) → length l ≡ n → ((i : ℕ) → i < n → f i ≡ get_or l i 0) → up_to f n ≡ l
by_places f n l e h =
    ext_get_or 0 (up_to f n) l (length_up_to f n ∙ sym e)
    (λ i k. let b : i < n = omega (arith, length_up_to f n) in up_to_at f n i b ∙ h i b)

-- ---- the board

-- the lowest byte has the first eight digits
low_digit : (x k : ℕ) → k < 8 → x % 256 / 2 ^ k % 2 ≡ x / 2 ^ k % 2
low_digit x k h =
    let j : ℕ = 7 - k in
    let e : 8 ≡ j + 1 + k = omega arith in
    let f : x % 256 / 2 ^ k ≡ x / 2 ^ k % 2 ^ (j + 1) = ap (λ (n : ℕ). x % 2 ^ n / 2 ^ k) e ∙ field x (j + 1) k in
    rw f (mod-mod-pow (x / 2 ^ k) j 1)

-- the digit k of byte i stands in row k
pub row_digit : (low : List ℕ) (k i : ℕ) → i < groups → digit_in low k i ≡ cell_digit low (32 * k + i)
unfolding cell_digit
row_digit low k i h =
    let p : (32 * k + i) % 32 ≡ i = omega arith in
    let q : (32 * k + i) / 32 ≡ k = omega arith in
    rw (p, q)

-- the fixed pulses are their own tags
abbrev own : ℕ → ℕ
own c = c

three_stored : (l : List ℕ) → first_data ≤ length l → set (set (set l 0 0) 1 1) 2 2 ≡ filled_to own l first_data
three_stored l h =
    let one = filled_next own l l 0 (filled_none own l) (omega arith) 0 refl in
    let two = filled_next own l (set l 0 0) 1 one (omega arith) 1 refl in
    filled_next own l (set (set l 0 0) 1 1) 2 two (omega arith) 2 refl

module _ (v : List ℕ) where
  abbrev low : List ℕ
  low = up_to (low_byte v) groups

  same_digit : (c : ℕ) → c < tag_count → cell_digit low c ≡ cell_digit v c
  unfolding cell_digit
  same_digit c h = rw (up_to_at (low_byte v) groups (c % groups) (omega arith)) (low_digit (get_or v (c % groups) 0) (c / groups) (omega arith))

  -- all the digits, and then the fixed pulses
  board : filled_to own (up_to (cell_digit low) tag_count) first_data ≡ cells_of v
  unfolding cells_of cell_of
  board =
      sym (by_places (cell_of v) tag_count cells (filled-length own digits first_data (omega (arith, long)) ∙ long) (λ c h. place c h (dec_lt c first_data)))
    where
      digits : List ℕ
      digits = up_to (cell_digit low) tag_count

      long : length digits ≡ tag_count
      long = length_up_to (cell_digit low) tag_count

      cells : List ℕ
      cells = filled_to own digits first_data

      place : (c : ℕ) → c < tag_count → Dec (c < first_data) → cell_of v c ≡ get_or cells c 0
      place c h (yes k) = rw (lt-ltb c first_data k) (sym (filled_at own digits first_data c k))
      place c h (no k) =
          rw (le-ltb c first_data (omega arith))
          (sym (filled_past own digits first_data c (omega arith) ∙ up_to_at (cell_digit low) tag_count c h ∙ same_digit c h))

  pub board_made : (bytes cells : List ℕ) → bytes ≡ low → cells ≡ up_to (cell_digit bytes) tag_count → set (set (set cells 0 0) 1 1) 2 2 ≡ cells_of v
  board_made bytes cells e q =
      let d : cells ≡ up_to (cell_digit low) tag_count = q ∙ ap (λ (l : List ℕ). up_to (cell_digit l) tag_count) e in
      three_stored cells (omega (arith, ap length d, length_up_to (cell_digit low) tag_count)) ∙ ap (λ (l : List ℕ). filled_to own l first_data) d ∙ board

-- the pulses of a part of the tags, picked by themselves, stand after those before
pub picked_on : (tags cells out now part : List ℕ) (a b n : ℕ) → now ≡ filled_to (picked tags cells) out a
    → part ≡ up_to (picked (slice_range tags a b) cells) (length (slice_range tags a b)) → a ≤ b → b ≡ n → b ≤ length tags → b ≤ length out
    → put_mid a (b - a) now part ≡ filled_to (picked tags cells) out n
picked_on tags cells out now part a b n e p h q k l =
    let z : a + (b - a) ≡ n = omega arith in
    filled_part (picked tags cells) out now part a (b - a) (b - a) _ e (rw (length-between tags a b k) at p) refl (omega arith)
    (λ i m. rw (get_or-between tags a b i 0 (omega arith)))
    ∙ ap (filled_to (picked tags cells) out) z

-- ---- the bytes laid

module _ (tags v out : List ℕ) where
  pub no_room : length out < length tags → (false ≡ tags_fit tags out) × (out ≡ tags_laid tags v out)
  unfolding tags_fit tags_laid
  no_room h = let e = lt-leb (length tags) (length out) h in (sym e, rw e)

  pub all_laid : length tags ≤ length out → (cells now : List ℕ) (n : ℕ) → cells ≡ cells_of v → now ≡ filled_to (picked tags cells) out n
      → n ≡ length tags → (true ≡ tags_fit tags out) × (now ≡ tags_laid tags v out)
  unfolding tags_fit tags_laid tags_row
  all_laid h cells now n c q e = let fit = le-leb (length tags) (length out) h in (sym fit, q ∙ rw (fit, e, c))

-- ---- the parts of a group

-- the values u say of every part what its group says in v, from its lowest digit on
abbrev pub Says : List ℕ → List ℕ → (ℕ → ℕ) → (ℕ → ℕ) → Type 0
Says v u home shift = (p : ℕ) → get_or u p 0 ≡ get_or v (home p) 0 / 2 ^ shift p

-- every group is a part by itself, from digit 0 on
abbrev pub itself : ℕ → ℕ
itself p = p

abbrev pub unshifted : ℕ → ℕ
unshifted p = 0

-- for part a it is x: its group, or the digit that it begins at
abbrev pub for_part : ℕ → ℕ → (ℕ → ℕ) → ℕ → ℕ
for_part a x f p = cond (eqb p a) x (f p)

pub whole_says : (v : List ℕ) → Says v v itself unshifted
whole_says v p = sym (div-one (get_or v p 0))

-- what group g says from digit k on, stored as part a
pub part_says : (v u : List ℕ) (home shift : ℕ → ℕ) (a g k : ℕ) → Says v u home shift → a < length u → home g ≡ g → shift g ≡ 0
    → Says v (set u a (get_or u g 0 / 2 ^ k)) (for_part a g home) (for_part a k shift)
part_says v u home shift a g k says h own low p = elim (ℕ_discrete p a) [
  | yes e ↦
      let q : get_or u g 0 ≡ get_or v g 0 = says g ∙ rw (own, low) (div-one (get_or v g 0)) in
      rw (eq-eqb p a e, e, get_or-set_same u a (get_or u g 0 / 2 ^ k) 0 h, q)
  | no d ↦ rw (ne_eqb p a d, get_or-set_other u a p (get_or u g 0 / 2 ^ k) 0 d) (says p)
]

-- ---- the tags are the table's own

module _ (home shift : ℕ → ℕ) where
  abbrev part : ℕ → ℕ
  part c = c % groups

  -- which digit of the part's group tag c is
  abbrev digit : ℕ → ℕ
  digit c = shift (part c) + c / groups

  -- tag c of data is that of the entry e
  abbrev pub same_data : ℕ → ℕ → Bool
  same_data e c = leb first_data (part c) && eqb (group_of e) (home (part c)) && eqb (weight_of e) (2 ^ digit c) && ltb c tag_count

  -- tag c is that of the entry e
  abbrev pub same_tag : ℕ → ℕ → Bool
  same_tag e c = cond (is_fixed e) (eqb c (group_of e)) (same_data e c)

  module _ (v u : List ℕ) (says : Says v u home shift) (e c : ℕ) where
    fixed_same : group_of e < first_data → c ≡ group_of e → get_or (cells_of u) c 0 ≡ pulse_for e v
    unfolding cells_of cell_of pulse_for
    fixed_same f q =
        up_to_at (cell_of u) tag_count c (omega arith) ∙ rw (lt-ltb c first_data (omega arith)) (q ∙ sym (fixed_pulse e (get_or v (group_of e) 0) f))

    data-same : first_data ≤ group_of e → first_data ≤ part c → group_of e ≡ home (part c) → weight_of e ≡ 2 ^ digit c → c < tag_count
        → get_or (cells_of u) c 0 ≡ pulse_for e v
    unfolding cells_of cell_of cell_digit
    data-same f d q r b =
        up_to_at (cell_of u) tag_count c b
        ∙ rw (le-ltb c first_data (omega arith), says (part c), shr-shr (get_or v (home (part c)) 0) (shift (part c)) (c / groups), ← q)
        (sym (pulse_data e v (digit c) f r))

    tag_same : (f : Bool) → is_fixed e ≡ f → T (cond f (eqb c (group_of e)) (same_data e c)) → get_or (cells_of u) c 0 ≡ pulse_for e v
    tag_same true f h = fixed_same (ltb-true (group_of e) first_data f) (eqb→eq c (group_of e) h)
    tag_same false f h =
        let p = leb first_data (part c) in
        let q = eqb (group_of e) (home (part c)) in
        let r = eqb (weight_of e) (2 ^ digit c) in
        let s = ltb c tag_count in
        let i = and_left (p && q && r) s h in
        let j = and_left (p && q) r i in
        data-same (ltb-false (group_of e) first_data f) (leb→le first_data (part c) (and_left p q j)) (eqb→eq (group_of e) (home (part c)) (and_right p q j))
        (eqb→eq (weight_of e) (2 ^ digit c) (and_right (p && q) r i)) (ltb→lt c tag_count (and_right (p && q && r) s h))

  module _ (t tags : List ℕ) where
    -- the tag at place i is that of the table's entry
    abbrev pub own_tag : ℕ → Bool
    own_tag i = same_tag (get_or t i 0) (get_or tags i 0)

    module _ (test : T (below own_tag (length t))) (l : length tags ≡ length t) (v u : List ℕ) (says : Says v u home shift) where
      pub tags-row : tags_row tags u ≡ row t v
      unfolding tags_row
      tags-row =
          rw l
          (by_places (picked tags (cells_of u)) (length t) (row t v) (length-row t v)
          (λ i h.
          tag_same v u says (get_or t i 0) (get_or tags i 0) (is_fixed (get_or t i 0)) refl (at own_tag (length t) test i h)
          ∙ sym (pulse_at_lem t v i h)))

      -- who lays by the tags lays what the table does: r and now are what was answered and left
      pub tags-laid : (out : List ℕ) (r : Bool) (now : List ℕ) → (r ≡ tags_fit tags out) × (now ≡ tags_laid tags u out)
          → (r ≡ fits_in t out) × (now ≡ laid t v out)
      unfolding tags_laid tags_fit laid fits_in
      tags-laid out r now q = (q.0 ∙ rw l, q.1 ∙ rw (l, tags-row))
