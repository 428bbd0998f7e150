-- The bytes of a string: their number, and that storing them part by part stores the string.
use mathlib.Core.Bool.{Bool}
use mathlib.Core.List.{List, [], ◌∷◌, ◌++◌}
use mathlib.Core.Path.{◌≡◌, refl, ap, ◌∙◌}
use Prim.Native.Nat.{ℕ, ◌+◌, ◌≤◌}
use native.Mathlib.Omega.{arith}
use lib.IntN.{ℤ}
use lib.ListN.{length, drop, length-append}
use Rattle.wire.specs.Put.{stored}
use Rattle.wire.proofs.StoreLaws.{stored_behind, stored_first}
use Rattle.reading.specs.declared.Reading.{Reading}
use Rattle.erlangen.specs.Layout.{size, position_size, etx}
use Rattle.erlangen.specs.Writing.{date_bytes, time_bytes, offset_bytes, flag_bytes, bytes_of}

-- a text that is stored right behind the first ones is one of them
grown : (at : ℕ) (t u l : List ℕ) {m n : List ℕ} → length t ≡ at → at + length u ≤ length l → m ≡ stored 0 t l → n ≡ stored at u m
    → n ≡ stored 0 (t ++ u) l
grown at t u l e h p q =
    let z : 0 + length t ≡ at = omega arith in
    q ∙ rw (p, ← z) (stored_behind 0 t u l (omega arith))

module _ (a b c d p e l : List ℕ) (la : length a ≡ 14) (lb : length b ≡ 10) (lc : length c ≡ 8) (ld : length d ≡ 9) (lp : length p ≡ position_size)
    (le : length e ≡ 1) (room : size ≤ length l) where
  parts : {k m n o v w : List ℕ} → k ≡ stored 0 a l → m ≡ stored 14 b k → n ≡ stored 24 c m → o ≡ stored 32 d n → v ≡ stored 41 p o
      → w ≡ stored 67 e v → w ≡ (a ++ b ++ c ++ d ++ p ++ e) ++ drop size l
  parts e1 e2 e3 e4 e5 e6 =
      let l2 : length (a ++ b) ≡ 24 = simp length-append (omega arith) in
      let l3 : length ((a ++ b) ++ c) ≡ 32 = simp length-append (omega arith) in
      let l4 : length (((a ++ b) ++ c) ++ d) ≡ 41 = simp length-append (omega arith) in
      let l5 : length ((((a ++ b) ++ c) ++ d) ++ p) ≡ 67 = simp length-append (omega arith) in
      let l6 : length (((((a ++ b) ++ c) ++ d) ++ p) ++ e) ≡ size = simp length-append (omega arith) in
      let g2 = grown 14 a b l la (omega arith) e1 e2 in
      let g3 = grown 24 (a ++ b) c l l2 (omega arith) g2 e3 in
      let g4 = grown 32 ((a ++ b) ++ c) d l l3 (omega arith) g3 e4 in
      let g5 = grown 41 (((a ++ b) ++ c) ++ d) p l l4 (omega arith) g4 e5 in
      let g6 = grown 67 ((((a ++ b) ++ c) ++ d) ++ p) e l l5 (omega arith) g5 e6 in
      g6 ∙ stored_first _ l (omega arith) ∙ rw l6

-- ---- the four rows

pub date-length : (r : Reading) → length (date_bytes r) ≡ 14
unfolding date_bytes
date-length r = refl

pub time_length : (r : Reading) → length (time_bytes r) ≡ 10
unfolding time_bytes
time_length r = refl

pub offset-length : (z : ℤ) → length (offset_bytes z) ≡ 8
unfolding offset_bytes
offset-length z = refl

pub flag-length : (r : Reading) (coasting : Bool) → length (flag_bytes r coasting) ≡ 9
unfolding flag_bytes
flag-length r coasting = refl

module _ (r : Reading) (coasting : Bool) (position : List ℕ) (whole : length position ≡ position_size) where
  pub bytes-length : length (bytes_of r coasting position) ≡ size
  unfolding bytes_of
  bytes-length = simp (length-append, date-length, time_length, offset-length, flag-length) (omega arith)

  module _ (l : List ℕ) (room : size ≤ length l) where
    pub laid : {a b c d k m n o v w : List ℕ} → a ≡ date_bytes r → b ≡ time_bytes r → c ≡ offset_bytes r.offset.0 → d ≡ flag_bytes r coasting
        → k ≡ stored 0 a l → m ≡ stored 14 b k → n ≡ stored 24 c m → o ≡ stored 32 d n → v ≡ stored 41 position o → w ≡ stored 67 (etx ∷ []) v
        → w ≡ bytes_of r coasting position ++ drop size l
    unfolding bytes_of
    laid {a} {b} {c} {d} ea eb ec ed e1 e2 e3 e4 e5 e6 =
        parts a b c d position (etx ∷ []) l
        (ap length ea ∙ date-length r) (ap length eb ∙ time_length r) (ap length ec ∙ offset-length r.offset.0) (ap length ed ∙ flag-length r coasting) whole refl room
        e1 e2 e3 e4 e5 e6
        ∙ rw (ea, eb, ec, ed)
