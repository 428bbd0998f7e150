-- What is said of the window that a fresh reader keeps is what is owed to the symbols that came: where too few have come, nothing.
use Rattle.std.specs.Prelude.{None, Some}
use mathlib.Core.Bool.{Bool, true, false, cond, ◌&&◌}
use mathlib.Core.List.{List, [], ◌∷◌, ◌++◌}
use mathlib.Core.Path.{◌≡◌, refl, sym, ap, ◌∙◌}
use Prim.Native.Nat.{ℕ, ◌+◌}
use native.Mathlib.Omega.{arith}
use lib.Dec.{leb}
use lib.ListN.{length, get_or, drop, replicate}
use lib.Seq.{drop-drop}
use borrow.Author.Tests.{leb-true, leb-false}
use Rattle.dcf77.specs.Reader.{read_dcf77}
use Rattle.streams.specs.Stream.{last_of, window_of}
use Rattle.streams.specs.Reader.{filler}
use Rattle.streams.proofs.Window.{window_full, window_early}
use Rattle.dcf77_stream.specs.Said.{kept, between_gaps, say_of, outlined, owed, Said}

-- a window whose oldest is the filler has no gap there
no_gap : (w : List ℕ) → get_or w 0 0 ≡ filler → between_gaps w ≡ false
unfolding between_gaps
no_gap [] e = refl
no_gap (x ∷ w) e = rw e

-- of a window of n: the outline is there exactly where the stream has it, and the same is read
reads_as : (base n : ℕ) (h : List ℕ) (y : Said) (b : Bool) → leb n (length h) ≡ b
    → cond (between_gaps (window_of n filler h)) (Some (read_dcf77 base (drop 1 (window_of n filler h)))) y ≡ cond (b && between_gaps (last_of n h)) (Some (read_dcf77 base (drop 1 (last_of n h)))) y
reads_as base n h y true e = rw (window_full n filler h (leb-true n (length h) e))
reads_as base n h y false e = rw (no_gap (window_of n filler h) (window_early n filler h (leb-false n (length h) e)))

-- the window of 62 without its oldest is that of 61
shorter : (h : List ℕ) → drop 1 (window_of 62 filler h) ≡ window_of 61 filler h
unfolding window_of
shorter h =
    let k : length h + 1 ≡ 1 + length h = omega arith in
    drop-drop 1 (length h) (replicate 62 filler ++ h) ∙ ap (λ (m : ℕ). drop m (replicate 62 filler ++ h)) k ∙ sym (drop-drop (length h) 1 (replicate 62 filler ++ h))

-- the outline of 59 marks, in the window of 62
in_the_last_61 : (base : ℕ) (h : List ℕ) → cond (between_gaps (drop 1 (window_of 62 filler h))) (Some (read_dcf77 base (drop 2 (window_of 62 filler h)))) None ≡ cond (outlined 61 h) (Some (read_dcf77 base (drop 1 (last_of 61 h)))) None
unfolding outlined
in_the_last_61 base h =
    let t : drop 2 (window_of 62 filler h) ≡ drop 1 (window_of 61 filler h) = sym (drop-drop 1 1 (window_of 62 filler h)) ∙ ap (drop 1) (shorter h) in
    rw (t, shorter h) (reads_as base 61 h None (leb 61 (length h)) refl)

pub due : (base : ℕ) (h : List ℕ) → say_of base (window_of kept filler h) ≡ owed base h
unfolding say_of owed outlined
due base h =
    ap (λ (y : Said). cond (between_gaps (window_of 62 filler h)) (Some (read_dcf77 base (drop 1 (window_of 62 filler h)))) y) (in_the_last_61 base h)
    ∙ reads_as base 62 h _ (leb 62 (length h)) refl

pub unbegun : (base : ℕ) → owed base [] ≡ None
unfolding owed outlined
unbegun base = refl
