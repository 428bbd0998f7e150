-- What L7 asks of the bridge, and what it leaves: a string that coasts reads back from its frame with quality 15, and where the mark
-- does not stand or is dropped by name, the bridge is what it is without L7, byte for byte.
use Rattle.strings.specs.Checks.{Answer}
use Rattle.std.specs.Prelude.{Err, Ok}
use mathlib.Core.Bool.{Bool, true, false, cond}
use mathlib.Core.List.{List}
use mathlib.Core.Logic.{◌⊎◌, inl, inr, ◌↔◌}
use mathlib.Core.Path.{◌≡◌, refl, sym, ap, ◌∙◌}
use Prim.Native.Nat.{ℕ, ◌≤◌, ◌<◌}
use native.Mathlib.Omega.{arith}
use lib.Dec.{ltb}
use lib.ListN.{length, take}
use Rattle.reading.specs.declared.Reading.{Reading}
use Rattle.clock_string.specs.Reader.{read_string, whichever}
use Rattle.clock_string.proofs.ReadLaws.{Tells}
use Rattle.irig.specs.Offset.{odd_quarter}
use Rattle.irig.specs.Faults.{frame_length, read_frame, Answer as Frame}
use Rattle.bridge.specs.declared.Coasting.{Coasting}
use Rattle.bridge.specs.declared.Coasting.TheVariants.{Worse, Dropped}
use Rattle.bridge.specs.Bridge.{pending_of, quality_by, graded, carried_by, bytes_for, bridge_filled}
use Rattle.bridge.specs.Bridge01.{bytes_for01, filled01}
use Rattle.bridge.proofs.CarriedLaws.{dropped, unmarked, worse, quality-carried, fifteen_exactly}
use Rattle.bridge.proofs.BridgeLaws.{frame-reads-back}

-- the quality that a frame's reader tells
abbrev quality_told : Frame → ℕ
quality_told (Ok r) = r.quality
quality_told (Err x) = 0

module _ (base : ℕ) (s buffer : List ℕ) where
  -- of a time that goes over at all, which an odd quarter does not
  module _ (enough : frame_length ≤ length buffer) (r : Reading) (even : odd_quarter r.offset.0 ≡ false) where
    -- "a bridged string with `*` gets quality 15"
    pub coasting-reads-worse : Tells base s r true → read_frame base (take frame_length (bridge_filled Worse base s buffer)) ≡ Ok (graded 15 (pending_of r))
    coasting-reads-worse e = frame-reads-back base s Worse buffer enough r true e even ∙ ap Ok (worse r)

    module _ (way : Coasting) (coasting : Bool) (tells : Tells base s r coasting) where
      -- and else it goes over as before, with its own quality
      pub else-reads-as-01 : (way ≡ Dropped) ⊎ (coasting ≡ false) → read_frame base (take frame_length (bridge_filled way base s buffer)) ≡ Ok (pending_of r)
      else-reads-as-01 h = frame-reads-back base s way buffer enough r coasting tells even ∙ ap Ok (go h)
        where
          go : (way ≡ Dropped) ⊎ (coasting ≡ false) → carried_by way coasting r ≡ pending_of r
          go (inl e) = rw e (dropped r coasting)
          go (inr e) = rw e (unmarked r way)

      module _ (c : Reading) (read : read_frame base (take frame_length (bridge_filled way base s buffer)) ≡ Ok c) where
        -- the quality that is read back, either way
        pub quality-read-back : c.quality ≡ quality_by way coasting r.quality
        quality-read-back = ap quality_told (sym read ∙ frame-reads-back base s way buffer enough r coasting tells even) ∙ quality-carried r way coasting

        -- it is 15 exactly where the mark stands and the way is L7's, or where the string says 15 of itself
        pub fifteen-read-back : (c.quality ≡ 15) ↔ (((way ≡ Worse) × (coasting ≡ true)) ⊎ (r.quality ≡ 15))
        fifteen-read-back = rw quality-read-back (fifteen_exactly way coasting r.quality)

        -- "a clock with a broken aerial looked locked": L7's way a frame with a better quality than 15 is of no clock that coasts
        pub better-not-coasting : way ≡ Worse → c.quality < 15 → coasting ≡ false
        better-not-coasting e better = go coasting (λ m. let fifteen = fifteen-read-back.1 (inl (e, m)) in omega arith)
          where
            go : (b : Bool) → (b ≡ true → ⊥) → b ≡ false
            go false h = refl
            go true h = absurd (h refl)

  -- "unless the caller asks by name for the old way", which is the bridge without L7, whatever string and buffer are
  pub dropped_is_01 : bridge_filled Dropped base s buffer ≡ filled01 base s buffer
  unfolding bridge_filled filled01
  dropped_is_01 = go (whichever (read_string base s))
    where
      go : (a : Answer) → cond (ltb (length buffer) frame_length) buffer (bytes_for Dropped a buffer)
          ≡ cond (ltb (length buffer) frame_length) buffer (bytes_for01 a buffer)
      go (Ok (r, coasting)) = rw (dropped r coasting)
      go (Err x) = refl

  -- a string without the mark goes over as before, whichever way
  pub unmarked_is_01 : (way : Coasting) (r : Reading) → Tells base s r false → bridge_filled way base s buffer ≡ filled01 base s buffer
  unfolding bridge_filled filled01
  unmarked_is_01 way r e = rw (e, unmarked r way)
