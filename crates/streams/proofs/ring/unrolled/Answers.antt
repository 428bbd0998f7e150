-- `streams::unrolled` meets its contract: the two parts stored are the ring unrolled.
use Rattle.std.proofs.Common.{◌≡◌, ℕ, ◌-◌, ◌≤◌, List, length, take, drop, replicate, ◌∙◌, arith, rules}
use lib.ListN.{length-replicate}
use Rattle.wire.specs.Put.{stored}
use Rattle.streams.specs.Reader.{filler}
use Rattle.streams.specs.Stream.{unrolled}
use Rattle.streams.proofs.RingLaws.{unrolls}
use Rattle.streams.proofs.ring.unrolled.Goals as goal

-- the two stores leave the window
held : (n : ℕ) (w first out : List ℕ) (k : ℕ) → length w ≡ n → k ≤ n
    → first ≡ stored 0 (take (length w - k) (drop k w)) (replicate n filler) → out ≡ stored (n - k) (take k w) first
    → out ≡ unrolled w k
held n w first out k l h f s =
    let m : n - k ≡ length w - k = omega arith in
    s ∙ rw (f, m) (unrolls w (replicate n filler) k (omega (arith, length-replicate n filler)) (omega arith))

pub returns : goal.returns
returns g c =
    let a = c.args in
    rw (← c.place_of-oldest.ensures.place)
    (held g.row.N a.ring.now c.put_at.new.out c.put_at-2.new.out c.place_of-oldest.result (search rules) c.place_of-oldest.ensures.upper_bound (search rules) (search rules))
