-- What is said of the window that a fresh reader keeps is what is owed to the pulses that came: where too few have come, nothing.
use Rattle.std.specs.Prelude.{None}
use mathlib.Core.Bool.{Bool, true, false, cond}
use mathlib.Core.List.{List, []}
use mathlib.Core.Path.{◌≡◌, refl, ap}
use Prim.Native.Nat.{ℕ, ◌<◌}
use native.Mathlib.Omega.{arith}
use lib.Dec.{leb}
use lib.ListN.{length, get_or}
use borrow.Author.Tests.{leb-true, leb-false}
use Rattle.pulses.specs.Row.{marks, group_of}
use Rattle.pulses.specs.Outline.{outline_of}
use Rattle.pulses.proofs.OutlineLaws.{outline_each, outline_mark}
use Rattle.irig_table.specs.Table.{frame_pulses}
use Rattle.irig_table.proofs.TableLaws.{frame_length_lem}
use Rattle.streams.specs.Stream.{last_of, window_of}
use Rattle.streams.specs.Reader.{filler}
use Rattle.streams.proofs.Window.{window_full, window_early}
use Rattle.irig_stream.specs.Said.{kept, say_of, owed}

-- the first place of a frame is a mark
pub first_is_mark : group_of (get_or frame_pulses 0 0) ≡ marks
unfolding group_of frame_pulses
first_is_mark = refl

-- a window that lacks a mark has no outline
pub lacks_mark : (w : List ℕ) (i : ℕ) → i < kept → group_of (get_or frame_pulses i 0) ≡ marks → (get_or w i 0 ≡ 2 → ⊥) → outline_of frame_pulses w ≡ false
lacks_mark w i h g d = go (outline_of frame_pulses w) refl
  where
    go : (b : Bool) → outline_of frame_pulses w ≡ b → b ≡ false
    go false k = refl
    go true k = absurd (d (outline_mark (get_or frame_pulses i 0) (get_or w i 0) g (outline_each frame_pulses w k i (omega (arith, frame_length_lem)))))

-- a window whose oldest is the filler has no outline
no_outline : (w : List ℕ) → get_or w 0 0 ≡ filler → outline_of frame_pulses w ≡ false
no_outline w e = lacks_mark w 0 (omega arith) first_is_mark (λ m. omega arith)

by_test : (base : ℕ) (h : List ℕ) (b : Bool) → leb kept (length h) ≡ b → say_of base (window_of kept filler h) ≡ cond b (say_of base (last_of kept h)) None
unfolding say_of
by_test base h true e = ap (say_of base) (window_full kept filler h (leb-true kept (length h) e))
by_test base h false e = rw (no_outline (window_of kept filler h) (window_early kept filler h (leb-false kept (length h) e)))

pub due : (base : ℕ) (h : List ℕ) → say_of base (window_of kept filler h) ≡ owed base h
unfolding owed
due base h = by_test base h (leb kept (length h)) refl

pub unbegun : (base : ℕ) → owed base [] ≡ None
unfolding owed
unbegun base = refl
