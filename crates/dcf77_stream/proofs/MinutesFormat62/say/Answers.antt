-- What a reader of minutes says of its ring meets its contract: where the newest symbol is no gap, there is no outline.
use Rattle.std.specs.Prelude.{None}
use mathlib.Core.List.{List, ◌++◌}
use mathlib.Core.Path.{◌≡◌, refl, ap, ◌∙◌}
use Prim.Native.Nat.{ℕ, ◌+◌, ◌<◌, min}
use native.Mathlib.Omega.{arith}
use borrow.Author.Rules.{rules}
use lib.ListN.{length, get_or, take, drop}
use Rattle.streams.specs.Stream.{place_of, unrolled}
use Rattle.streams.proofs.RingLaws.{unrolled_newest, unrolled_place, unrolled_min}
use Rattle.dcf77_stream.specs.Said.{kept, say_of, Said}
use Rattle.dcf77_stream.proofs.SymbolLaws.{unclosed, unclosed_after}
use Rattle.dcf77_stream.proofs.MinutesFormat62.say.Goals as goal

module _ (base : ℕ) (w : List ℕ) (l : length w ≡ kept) where
  newest_no_gap : (k : ℕ) → k < kept → (get_or w k 0 ≡ 2 → ⊥) → None ≡ say_of base (unrolled w (k + 1))
  unfolding say_of
  newest_no_gap k h d =
      let v = drop (k + 1) w ++ take k w in
      rw (unrolled_newest w k (omega arith), unclosed (get_or w k 0) d v, unclosed_after (get_or w k 0) d v)

  -- the oldest stands at the place after the newest
  told : (newest oldest : ℕ) (said : Said) → newest < kept → oldest ≡ place_of kept (newest + 1) → said ≡ say_of base (unrolled w oldest) → said ≡ say_of base (unrolled w (newest + 1))
  told newest oldest said h e s = s ∙ ap (say_of base) (rw e (unrolled_place kept w (newest + 1) l (omega arith)))

  -- a number past the ring stands for its last place
  within : (newest place : ℕ) (said : Said) → place ≡ min newest 61 → said ≡ say_of base (unrolled w (place + 1))
      → said ≡ say_of base (unrolled w (newest + 1))
  within newest place said e s = s ∙ ap (say_of base) (rw e (unrolled_min kept w newest l (omega arith)))

pub returns-then-ring-newest-ne2 : goal.returns-then-ring-newest-ne2
returns-then-ring-newest-ne2 c =
    let a = c.args in
    let place = c.min-newest.result in
    let e : place ≡ min a.newest 61 = search rules in
    within a.base a.ring.now (search rules) a.newest place None e
    (newest_no_gap a.base a.ring.now (search rules) place (search rules) c.if-ring-newest-ne2.true)

pub returns : goal.returns
returns c =
    let a = c.args in
    let place = c.min-newest.result in
    let e : place ≡ min a.newest 61 = search rules in
    let s = c.say.ensures ∙ ap (say_of a.base) c.unrolled.ensures in
    within a.base a.ring.now (search rules) a.newest place c.say.result e
    (told a.base a.ring.now (search rules) place _ c.say.result (search rules) refl s)
