-- The parity marks: a part of a row of marks is even in number exactly where its parity mark evens its data.
use mathlib.Core.Bool.{Bool, true, false}
use mathlib.Core.List.{List, ◌++◌}
use mathlib.Core.Path.{◌≡◌, refl, sym, ap, ◌∙◌}
use Prim.Native.Nat.{ℕ, ◌+◌, ◌-◌, ◌%◌, ◌<◌, ◌≤◌}
use native.Mathlib.Omega.{arith}
use borrow.Author.Tests.{ne_eqb, eqb-false, leb-true}
use lib.Dec.{eqb}
use lib.ListN.{length, get_or, set, drop, length-append, length-set}
use Rattle.pulses.specs.Row.{groups, row, fits_in, laid, ones_from, ones_of, sum_from}
use Rattle.pulses.proofs.RowLaws.{length-row, length-same, enough, laid-set}
use Rattle.pulses.proofs.OnesLaws.{ones_of_part, ones_front, parity_of_sum}
use Rattle.dcf77_table.specs.Table.{minute_parity, hour_parity, date_parity, minute_marks}
use Rattle.dcf77_table.proofs.TableLaws.{long_enough}
use Rattle.dcf77_table.proofs.PartLaws.{Part, SamePlain, part_same, part-ones, part_alone, minute_part, hour_part, date_part}
use Rattle.dcf77.specs.Reader.{odd}
use Rattle.dcf77.specs.Forms.{minute_place, minute_parity_place, hour_place, hour_parity_place, day_place, date_parity_place}
use Rattle.dcf77.specs.Writer.{evened, with_parity}

-- the ones are odd in number exactly where the sum of the marks is odd
pub odd_by_sum : (a b : ℕ) (s : List ℕ) → a ≤ b → b < length s → b < 126 → odd a b s ≡ eqb (sum_from a (b + 1 - a) s % 2) 1
unfolding odd
odd_by_sum a b s h k l =
    rw (ones_of_part a (b + 1 - a) s (omega arith) (omega arith)) (ap (λ (n : ℕ). eqb n 1) (parity_of_sum a (b + 1 - a) s))

module _ {a b g : ℕ} (p : Part a b g) where
  evened_is : (v : List ℕ) → evened a b (row (minute_marks false) v) ≡ ones_from a (b - a) (row (minute_marks false) v) % 2
  unfolding evened
  evened_is v =
      let from = p.from in
      let to = p.to in
      let l = length-row (minute_marks false) v in
      rw (ones_of_part a (b - a) (row (minute_marks false) v) (omega (arith, long_enough false)) (omega arith))

  -- the parity goes by the plain values
  pub evened_same : (v w : List ℕ) → SamePlain v w → evened a b (row (minute_marks false) v) ≡ evened a b (row (minute_marks false) w)
  evened_same v w same = evened_is v ∙ ap (λ (n : ℕ). n % 2) (part_same p false v w same) ∙ sym (evened_is w)

  pub evened_small : (v : List ℕ) → evened a b (row (minute_marks false) v) < 2
  evened_small v = omega (arith, evened_is v)

  -- and is counted in the bytes that the marks are laid in, of either form
  pub evened_laid : (long : Bool) (v out : List ℕ) → length (minute_marks long) ≤ length out
      → evened a b (laid (minute_marks long) v out) ≡ evened a b (row (minute_marks false) v)
  unfolding evened
  evened_laid long v out h =
      let from = p.from in
      let to = p.to in
      let z = row (minute_marks long) v in
      let rest = drop (length (minute_marks long)) out in
      let l = length-row (minute_marks long) v in
      let counted =
      ones_of_part a (b - a) (z ++ rest) (omega (arith, long_enough long, length-append z rest)) (omega arith)
      ∙ ones_front a (b - a) z rest (omega (arith, long_enough long))
      ∙ part_same p long v v (λ g l t. refl) in
      rw (enough (minute_marks long) v out h).1 (ap (λ (n : ℕ). n % 2) counted ∙ sym (evened_is v))

  module _ (long : Bool) (v : List ℕ) (small : get_or v g 0 < 2) where
    ones_in : ones_of a (b + 1 - a) (row (minute_marks long) v) ≡ ones_from a (b - a) (row (minute_marks false) v) + get_or v g 0
    ones_in =
        let from = p.from in
        let to = p.to in
        let l = length-row (minute_marks long) v in
        ones_of_part a (b + 1 - a) (row (minute_marks long) v) (omega (arith, long_enough long)) (omega arith) ∙ part-ones p long v small

    -- in even marks the parity mark evens the data
    pub even-parity : odd a b (row (minute_marks long) v) ≡ false → get_or v g 0 ≡ evened a b (row (minute_marks false) v)
    unfolding odd
    even-parity e =
        let n = ones_of a (b + 1 - a) (row (minute_marks long) v) in
        let d = eqb-false (n % 2) 1 e in
        omega (arith, evened_is v, ones_in)

    -- and marks whose parity mark does are even
    pub parity-even : get_or v g 0 ≡ evened a b (row (minute_marks false) v) → odd a b (row (minute_marks long) v) ≡ false
    unfolding odd
    parity-even e = ne_eqb (ones_of a (b + 1 - a) (row (minute_marks long) v) % 2) 1 (λ q. omega (arith, evened_is v, ones_in))

-- ---- marks laid with the parities 0, and mended

-- bytes too few for the marks stay as they are, whatever the marks say
pub unfit_same : (long : Bool) (v w out : List ℕ) → fits_in (minute_marks long) out ≡ false
    → laid (minute_marks long) v out ≡ laid (minute_marks long) w out
unfolding laid
unfit_same long v w out e = rw e

pub fit_length : (long : Bool) (out : List ℕ) → fits_in (minute_marks long) out ≡ true → length (minute_marks long) ≤ length out
unfolding fits_in
fit_length long out e = leb-true (length (minute_marks long)) (length out) e

-- and they are sixty at least, so that each parity mark has its place
pub room_laid : (fits long : Bool) (v out marks : List ℕ) → fits ≡ fits_in (minute_marks long) out → fits ≡ true
    → marks ≡ laid (minute_marks long) v out → (length (minute_marks long) ≤ length out) × (60 ≤ length marks)
room_laid fits long v out marks e f m =
    let room = fit_length long out (sym e ∙ f) in
    (room, omega (arith, ap length m, length-same (minute_marks long) v out, room, long_enough long))

pub mended : (long : Bool) (v out marks : List ℕ) (m h d : ℕ) → length v ≡ groups → length (minute_marks long) ≤ length out
    → marks ≡ laid (minute_marks long) v out → m ≡ evened minute_place minute_parity_place marks → h ≡ evened hour_place hour_parity_place marks
    → d ≡ evened day_place date_parity_place marks
    → set (set (set marks minute_parity_place m) hour_parity_place h) date_parity_place d
    ≡ laid (minute_marks long) (with_parity v (row (minute_marks false) v)) out
unfolding with_parity
mended long v out marks m h d l fits e p q r =
    let z = row (minute_marks false) v in
    let m' = evened minute_place minute_parity_place z in
    let h' = evened hour_place hour_parity_place z in
    let d' = evened day_place date_parity_place z in
    let v' = set v minute_parity m' in
    let v'' = set v' hour_parity h' in
    let k = length-set v minute_parity m' in
    let k' = length-set v' hour_parity h' in
    rw (
      p,
      q,
      r,
      e,
      evened_laid minute_part long v out fits,
      evened_laid hour_part long v out fits,
      evened_laid date_part long v out fits,
      laid-set (minute_marks long) v out minute_parity minute_parity_place m' (part_alone minute_part long) (omega arith) (evened_small minute_part v) fits,
      laid-set (minute_marks long) v' out hour_parity hour_parity_place h' (part_alone hour_part long) (omega arith) (evened_small hour_part v) fits,
      laid-set (minute_marks long) v'' out date_parity date_parity_place d' (part_alone date_part long) (omega arith) (evened_small date_part v) fits,
    )
