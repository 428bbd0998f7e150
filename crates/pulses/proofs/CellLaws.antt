-- The board of cells, pulse by pulse: how long it is, and what a cell holds where no two pulses have its tag.
use mathlib.Core.Path.{◌≡◌, refl, ap, ◌∙◌}
use mathlib.Core.Bool.{Bool, true, false, cond}
use mathlib.Core.List.{List}
use Prim.Native.Nat.{ℕ, zero, suc, ◌+◌, ◌-◌, ◌<◌, ◌≤◌, min}
use native.Mathlib.Nat.{add-zero, add-suc}
use native.Mathlib.Numerals.{add-one}
use native.Mathlib.Omega.{arith}
use lib.Dec.{ltb}
use lib.ListN.{length, get_or, set, replicate, length-set, length-replicate}
use Rattle.pulses.specs.Row.{groups, first_data, up_to}
use Rattle.std.specs.Prelude.{slice_range}
use Rattle.std.proofs.lemmas.List.Edits.{length-between, get_or-between}
use Rattle.pulses.proofs.ZipLaws.{Turn}
use Rattle.pulses.specs.Tags.{total, cells_put, cells_after, cells_say, tag_sums}
use Rattle.pulses.proofs.SumLaws.{length_up_to, up_to_at}
use Rattle.pulses.proofs.TotalLaws.{up_to_same}

module _ (tags s : List ℕ) where
  pub cells_none : replicate 256 0 ≡ cells_after tags s 0
  unfolding cells_put cells_after
  cells_none = refl

  pub cells_long : (i : ℕ) → length (cells_after tags s i) ≡ 256
  unfolding cells_put cells_after
  cells_long zero = length-replicate {A = ℕ} 256 0
  cells_long (suc i) = length-set (cells_after tags s i) (get_or tags i 0) (get_or s i 0) ∙ cells_long i

-- ---- pulses put into their cells

module _ (cells tags s : List ℕ) where
  pub put_none : cells ≡ cells_put cells tags s 0
  unfolding cells_put
  put_none = refl

  pub put_next : (now : List ℕ) (i n c b : ℕ) → Turn tags s i n c b → now ≡ cells_put cells tags s i
      → set now c b ≡ cells_put cells tags s n
  unfolding cells_put
  put_next now i n c b z e = rw (z.more, add-one, e, z.first, z.second)

-- a part of a row goes on from where the cells stand
pub put_part : (tags s cells : List ℕ) (a b : ℕ) → a ≤ b → b ≤ length tags → b ≤ length s → cells ≡ cells_after tags s a
    → (let t = slice_range tags a b in let r = slice_range s a b in
    cells_put cells t r (min (length t) (length r)) ≡ cells_after tags s b)
unfolding cells_put cells_after
put_part tags s cells a b h k l e =
    let m : min (length (slice_range tags a b)) (length (slice_range s a b)) ≡ b - a = omega (arith, length-between tags a b k, length-between s a b l) in
    let z : a + (b - a) ≡ b = omega arith in
    rw m (go (b - a) (omega arith) ∙ ap (cells_after tags s) z)
  where
    go : (n : ℕ) → n ≤ b - a → cells_put cells (slice_range tags a b) (slice_range s a b) n ≡ cells_after tags s (a + n)
    go zero m = rw add-zero e
    go (suc n) m = rw (go n (omega arith), add-suc, get_or-between tags a b n 0 (omega arith), get_or-between s a b n 0 (omega arith))

-- the cells, what they say, and the values of it
pub all_said : (tags s : List ℕ) (n : ℕ) (cells said v : List ℕ) → n ≡ min (length tags) (length s) → cells ≡ cells_after tags s n
    → said ≡ up_to (cells_say cells) groups → v ≡ up_to (λ k. cond (ltb k first_data) 0 (get_or said k 0)) groups → v ≡ tag_sums tags s
unfolding tag_sums
all_said tags s n cells said v m p q r =
    r
    ∙ up_to_same (λ k. cond (ltb k first_data) 0 (get_or said k 0)) (λ k. cond (ltb k first_data) 0 (cells_say (cells_after tags s (min (length tags) (length s))) k)) groups
    (λ k h. ap (cond (ltb k first_data) 0) (rw (q, up_to_at (cells_say cells) groups k h, p, m)))

-- ---- what eight cells say is a byte

say_small : (cells : List ℕ) (k : ℕ) → cells_say cells k ≤ 255
unfolding cells_say total
say_small cells k = omega arith

pub sums_small : (tags s : List ℕ) (k : ℕ) → k < groups → get_or (tag_sums tags s) k 0 ≤ 255
unfolding tag_sums
sums_small tags s k h =
    let cells = cells_after tags s (min (length tags) (length s)) in
    rw (up_to_at (λ k. cond (ltb k first_data) 0 (cells_say cells k)) groups k h) (either (ltb k first_data) (say_small cells k))
  where
    either : (a : Bool) {n : ℕ} → n ≤ 255 → cond a 0 n ≤ 255
    either true h = omega arith
    either false h = h

pub sums_long : (tags s : List ℕ) → length (tag_sums tags s) ≡ groups
unfolding tag_sums
sums_long tags s = length_up_to _ groups
