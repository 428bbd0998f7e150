-- One text stored right behind another: there is room for each where there is room for both, and the two are stored as one.
use mathlib.Core.List.{List, [], ◌++◌}
use mathlib.Core.Path.{◌≡◌, refl, sym, ap, ◌∙◌}
use Prim.Native.Nat.{ℕ, ◌+◌, ◌≤◌}
use native.Mathlib.Omega.{arith}
use lib.ListN.{length, length-append}
use Rattle.wire.specs.Put.{stored}
use Rattle.listing.specs.declared.Page.{Page}
use Rattle.listing.specs.Pages.{HasRoom, Writes}
use Rattle.wire.proofs.StoreLaws.{is_fit, stored-length, stored_behind, stored_nothing}
use Rattle.text.specs.Decimal.{decimal, stored_length}
use Rattle.text.proofs.DecimalLaws.{stored-all}

module _ (at : ℕ) (a b l : List ℕ) (room : at + length (a ++ b) ≤ length l) where
  pub first_room : at + length a ≤ length l
  first_room = omega (arith, length-append a b)

  -- r is where the first ends, and m what the buffer then holds
  module _ (r : ℕ) (m : List ℕ) (ends : r ≡ at + length a) (holds : m ≡ stored at a l) where
    pub then-room : r + length b ≤ length m
    then-room = let k : length m ≡ length l = ap length holds ∙ stored-length at a l in omega (arith, length-append a b)

    pub both_end : (q : ℕ) → q ≡ r + length b → q ≡ at + length (a ++ b)
    both_end q e = omega (arith, length-append a b)

    pub both-held : (n : List ℕ) → n ≡ stored r b m → n ≡ stored at (a ++ b) l
    both-held n e = e ∙ rw (ends, holds) (stored_behind at a b l (omega (arith, length-append a b)))

-- a text is written to a page in two parts: there is room for each where there is room for both, and what the two write is that text
module _ (a b : List ℕ) (p : Page) (room : HasRoom (a ++ b) p) where
  pub room_first : HasRoom a p
  room_first = first_room p.end a b p.bytes.now room

  module _ (q : Page) (w : Writes a p q) where
    pub room_behind : HasRoom b q
    room_behind = then-room p.end a b p.bytes.now room q.end q.bytes.now w.ends w.holds

    pub both_written : (r : Page) → Writes b q r → Writes (a ++ b) p r
    both_written r v = record {
      ends = both_end p.end a b p.bytes.now room q.end q.bytes.now w.ends w.holds r.end v.ends;
      holds = both-held p.end a b p.bytes.now room q.end q.bytes.now w.ends w.holds r.bytes.now v.holds;
      same = v.same ∙ w.same;
    }

-- a number's digits are written where there is room for them
pub digits_all : (n : ℕ) (p : Page) → HasRoom (decimal n) p → stored_length p.end (decimal n) p.bytes.now ≡ length (decimal n)
digits_all n p room = stored-all p.end (decimal n) p.bytes.now (is_fit p.end (decimal n) p.bytes.now room)

pub digits_written : (n r : ℕ) (p q : Page) → HasRoom (decimal n) p → r ≡ stored_length p.end (decimal n) p.bytes.now → q.end ≡ p.end + r
    → q.bytes.now ≡ stored p.end (decimal n) p.bytes.now → q.bytes.ghost_name ≡ p.bytes.ghost_name → Writes (decimal n) p q
digits_written n r p q room all ends holds same = record {
  ends = ends ∙ ap (λ (k : ℕ). p.end + k) (all ∙ digits_all n p room);
  holds = holds;
  same = same;
}

-- a page to which nothing is written
pub nothing_written : (p : Page) → Writes [] p p
nothing_written p = record { ends = omega arith; holds = sym (stored_nothing p.end p.bytes.now); same = refl }
