-- What a reader of frames says of its ring meets its contract: where an end of the window is no mark, it has no outline.
use Rattle.std.specs.Prelude.{None}
use mathlib.Core.List.{List}
use mathlib.Core.Path.{◌≡◌, refl, sym, ap, ◌∙◌}
use Prim.Native.Nat.{ℕ, ◌+◌, ◌<◌, min}
use native.Mathlib.Omega.{arith}
use borrow.Author.Rules.{rules}
use lib.ListN.{length, get_or}
use Rattle.pulses.specs.Row.{marks, group_of}
use Rattle.irig_table.specs.Table.{frame_pulses}
use Rattle.streams.specs.Stream.{place_of, unrolled}
use Rattle.streams.proofs.RingLaws.{newest, oldest, unrolled_place, unrolled_min}
use Rattle.irig_stream.specs.Said.{kept, say_of, Said}
use Rattle.irig_stream.specs.Due.{first_is_mark, lacks_mark}
use Rattle.irig_stream.proofs.FramesFormat100.say.Goals as goal

last_is_mark : group_of (get_or frame_pulses 99 0) ≡ marks
unfolding group_of frame_pulses
last_is_mark = refl

module _ (base : ℕ) (w : List ℕ) (l : length w ≡ kept) where
  newest_unmarked : (k : ℕ) → k < kept → (get_or w k 0 ≡ 2 → ⊥) → None ≡ say_of base (unrolled w (k + 1))
  unfolding say_of
  newest_unmarked k h d =
      let e : get_or (unrolled w (k + 1)) 99 0 ≡ get_or w k 0 = ap (λ (n : ℕ). get_or (unrolled w (k + 1)) n 0) (omega arith) ∙ newest w k (omega arith) in
      rw (lacks_mark (unrolled w (k + 1)) 99 (omega arith) last_is_mark (λ m. d (sym e ∙ m)))

  oldest_unmarked : (k : ℕ) → k < kept → (get_or w k 0 ≡ 2 → ⊥) → None ≡ say_of base (unrolled w k)
  unfolding say_of
  oldest_unmarked k h d = rw (lacks_mark (unrolled w k) 0 (omega arith) first_is_mark (λ m. d (sym (oldest w k (omega arith)) ∙ m)))

  -- the oldest stands at the place after the newest
  told : (newest oldest : ℕ) (said : Said) → newest < kept → oldest ≡ place_of kept (newest + 1) → said ≡ say_of base (unrolled w oldest) → said ≡ say_of base (unrolled w (newest + 1))
  told newest oldest said h e s = s ∙ ap (say_of base) (rw e (unrolled_place kept w (newest + 1) l (omega arith)))

  -- a number past the ring stands for its last place
  within : (newest place : ℕ) (said : Said) → place ≡ min newest 99 → said ≡ say_of base (unrolled w (place + 1))
      → said ≡ say_of base (unrolled w (newest + 1))
  within newest place said e s = s ∙ ap (say_of base) (rw e (unrolled_min kept w newest l (omega arith)))

pub returns-then-ring-newest-ne2 : goal.returns-then-ring-newest-ne2
returns-then-ring-newest-ne2 c =
    let a = c.args in
    let place = c.min-newest.result in
    let e : place ≡ min a.newest 99 = search rules in
    within a.base a.ring.now (search rules) a.newest place None e
    (newest_unmarked a.base a.ring.now (search rules) place (search rules) c.if-ring-newest-ne2.true)

pub returns-then-ring-oldest-ne2 : goal.returns-then-ring-oldest-ne2
returns-then-ring-oldest-ne2 c =
    let a = c.args in
    let p = c.place_of-oldest in
    let place = c.min-newest.result in
    let e : place ≡ min a.newest 99 = search rules in
    within a.base a.ring.now (search rules) a.newest place None e
    (told a.base a.ring.now (search rules) place p.result None (search rules) p.ensures.place
    (oldest_unmarked a.base a.ring.now (search rules) p.result (search rules) c.if-ring-oldest-ne2.true))

pub returns : goal.returns
returns c =
    let a = c.args in
    let place = c.min-newest.result in
    let e : place ≡ min a.newest 99 = search rules in
    let s = c.say.ensures ∙ ap (say_of a.base) c.unrolled.ensures in
    within a.base a.ring.now (search rules) a.newest place c.say.result e
    (told a.base a.ring.now (search rules) place _ c.say.result (search rules) refl s)
