-- Bytes of a payload as numbers of two bytes, and with a sign. Assumes nothing.
use Rattle.std.proofs.Common.{◌≡◌, ℕ, ◌+◌, ◌<◌, ◌≤◌, List, [], ◌∷◌, length, arith, w8, w16, to_z, get_or}
use Rattle.std.specs.Int.{from_le_bytes}
use Rattle.laws.specs.Tests.{same}
use Rattle.laws.proofs.Signed.{same_is}
use Rattle.laws.proofs.Tested.{at}
use lib.ListN.{get_or-eq_default}
use Rattle.payloads.specs.Payload.{pair_at, signed}

-- two bytes that stand one behind the other, the lower first
pub two_bytes : (s : List ℕ) (at : ℕ) → from_le_bytes w16 (get_or s at 0 ∷ get_or s (at + 1) 0 ∷ []) ≡ pair_at s at
unfolding pair_at
two_bytes s at = omega arith

-- behind the end both are 0
pub past_end : (s : List ℕ) (at : ℕ) → length s ≤ at → 0 ≡ pair_at s at
unfolding pair_at
past_end s at h = rw (get_or-eq_default {A = ℕ} s 0 {n = at} h, get_or-eq_default {A = ℕ} s 0 {n = at + 1} (omega arith))

-- a byte with its sign in its highest bit, by a test of each byte
pub two_complement : (b : ℕ) → b < 256 → to_z w8 b ≡ signed b
unfolding signed
two_complement b h = same_is _ _ (at (λ k. same (to_z w8 k) (signed k)) 256 tt b h)
