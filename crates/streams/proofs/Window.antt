-- The window: what one pulse more does to it, what it is once it is full, and what stands first before that.
use mathlib.Core.List.{List, [], ◌∷◌, ◌++◌, append_assoc, append-nil}
use mathlib.Core.Path.{◌≡◌, sym, ap, ◌∙◌}
use Prim.Native.Nat.{ℕ, ◌+◌, ◌-◌, ◌≤◌, ◌<◌}
use native.Mathlib.Nat.{add-zero}
use native.Mathlib.Omega.{arith}
use lib.ListN.{length, drop, get_or, replicate, length-append, length-replicate, get_or-replicate, get_or-append, length-drop}
use lib.Seq.{drop-drop, drop-append-le, drop-append-add, drop-append_seam, get_or-drop}
use Rattle.streams.specs.Stream.{push, last_of, slid, window_of}

-- ---- any window

-- a pulse pushed leaves its length
pub push-length : (w : List ℕ) (p : ℕ) → 1 ≤ length w → length (push w p) ≡ length w
unfolding push
push-length w p one = simp (length-append, length-drop) (omega arith)

-- the newest pulse pushed last
pub slid_push : (w h : List ℕ) (p : ℕ) → 1 ≤ length w → push (slid w h) p ≡ slid w (h ++ (p ∷ []))
unfolding push
slid_push w h p one =
    let l : length (w ++ h) ≡ length w + length h = length-append w h in
    rw (drop-drop, length-append, ← append_assoc) (sym (drop-append-le (length h + 1) (w ++ h) (p ∷ []) (omega arith)))

-- the oldest pulse pushed first
pub push_slid : (w : List ℕ) (p : ℕ) (ps : List ℕ) → 1 ≤ length w → slid (push w p) ps ≡ slid w (p ∷ ps)
unfolding push
push_slid [] p ps one = absurd (omega arith)
push_slid (x ∷ w) p ps one = ap (drop (length ps)) (append_assoc w (p ∷ []) ps)

-- once as many pulses have come as it has, it is the last of them, whatever it was
pub slid_full : (n : ℕ) (w h : List ℕ) → length w ≡ n → n ≤ length h → slid w h ≡ last_of n h
unfolding last_of
slid_full n w h l k =
    let m : length h ≡ length w + (length h - n) = omega arith in
    ap (λ (m : ℕ). drop m (w ++ h)) m ∙ drop-append-add w h (length h - n)

-- ---- that of a fresh reader

module _ (n filler : ℕ) where
  pub window_length : (h : List ℕ) → length (window_of n filler h) ≡ n
  unfolding window_of
  window_length h = simp (length-drop, length-append, length-replicate) (omega arith)

  -- before the first pulse it is full of the filler
  pub window_none : window_of n filler [] ≡ replicate n filler
  unfolding window_of
  window_none = append-nil (replicate n filler)

  pub window_push : (h : List ℕ) (p : ℕ) → 1 ≤ n → push (window_of n filler h) p ≡ window_of n filler (h ++ (p ∷ []))
  unfolding window_of
  window_push h p one = slid_push (replicate n filler) h p (rw length-replicate one)

  -- once n pulses have come the window is the last n of them
  pub window_full : (h : List ℕ) → n ≤ length h → window_of n filler h ≡ last_of n h
  unfolding window_of
  window_full h k = slid_full n (replicate n filler) h (length-replicate n filler) k

  -- before that its oldest is the filler
  pub window_early : (h : List ℕ) → length h < n → get_or (window_of n filler h) 0 0 ≡ filler
  unfolding window_of
  window_early h k =
      let l : length h < length (replicate n filler) = simp length-replicate k in
      get_or-drop (length h) (replicate n filler ++ h) 0 0
      ∙ ap (λ (m : ℕ). get_or (replicate n filler ++ h) m 0) (add-zero (length h))
      ∙ get_or-append (replicate n filler) h 0 (length h) l
      ∙ get_or-replicate n (length h) filler 0 k

-- n pulses that came last are the last n, whatever came before them
pub last_after : (n : ℕ) (h s : List ℕ) → length s ≡ n → last_of n (h ++ s) ≡ s
unfolding last_of
last_after n h s e =
    let m : length (h ++ s) - n ≡ length h = simp length-append (omega arith) in
    ap (λ (m : ℕ). drop m (h ++ s)) m ∙ drop-append_seam h s
