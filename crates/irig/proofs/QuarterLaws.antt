-- What L9 asks of the frame, which counts half hours: its reader tells twice as many quarter hours, its writer refuses an odd quarter
-- by 11, and nothing else by 11, after every other refusal that it has.
use Rattle.std.specs.Prelude.{Err, Ok}
use mathlib.Core.Bool.{Bool, true, false}
use mathlib.Core.List.{List}
use mathlib.Core.Logic.{◌↔◌}
use mathlib.Core.Path.{◌≡◌, refl, sym, ap, subst, ◌∙◌}
use Prim.Native.Nat.{ℕ, ◌+◌, ◌*◌, ◌≤◌}
use native.Mathlib.Omega.{arith}
use borrow.Author.Tests.{ltb-false}
use lib.Dec.{ltb}
use lib.ListN.{length}
use Rattle.laws.proofs.Bools.{never}
use Rattle.reading.specs.declared.Reading.{Reading}
use Rattle.reading.specs.declared.Refusal.{Refusal}
use Rattle.reading.specs.declared.Fault.TheVariants.{Length as Short, NotCarried}
use Rattle.reading.specs.Faults.{number, first, Verdict, no_fault}
use Rattle.reading.specs.Writing.{and_then, written_of, filled, Written}
use Rattle.reading.specs.Offset.{west, east, offset_good}
use Rattle.reading.specs.Checks.{checked_of}
use Rattle.reading.proofs.CheckLaws.{clash, checked_is}
use Rattle.reading.proofs.OwedLaws.{checks_not_11}
use Rattle.pulses.specs.Row.{sums_of}
use Rattle.irig_table.specs.Table.{frame_pulses}
use Rattle.irig.specs.Offset.{odd_quarter}
use Rattle.irig.specs.Meaning.{halves_in}
use Rattle.irig.specs.Faults.{frame_length, read_frame}
use Rattle.irig.specs.Writing.{frame_of, carried_of, write_fault}
use Rattle.irig.proofs.GroupLaws.{sums_fit}
use Rattle.irig.proofs.CarriedLaws.{carried_parts}
use Rattle.irig.proofs.WriteLaws.{odd_fault, refused_untouched}
use Rattle.irig.proofs.AgainLaws.{offset_twice}
use Rattle.irig.proofs.FrameLaws.{accepted}
use Rattle.irig.proofs.RoundTrip.{accepted_carried}

-- ---- the reader

module _ (base : ℕ) (s : List ℕ) (r : Reading) (e : read_frame base s ≡ Ok r) where
  -- its quarter hours, to whichever side of UTC, are twice the half hours that its pulses say
  pub twice_the_half_hours : west r.offset.0 + east r.offset.0 ≡ 2 * halves_in (sums_of frame_pulses s)
  twice_the_half_hours =
      let a = accepted base s r e in
      subst (λ (x : Reading). west x.offset.0 + east x.offset.0 ≡ 2 * halves_in (sums_of frame_pulses s)) a.is
      (offset_twice base (sums_of frame_pulses s) a.base_good (sums_fit s) a.digits a.sound)

  pub never_odd : odd_quarter r.offset.0 ≡ false
  never_odd = (carried_parts base r (accepted_carried base s r e)).1

-- ---- the writer

-- "is 11", and "Writers keep place 0"
abbrev pub eleven : Refusal
eleven = record { code = 11; place = 0 }

abbrev code_in : Written → ℕ
code_in (Ok n) = 0
code_in (Err x) = x.code

module _ (base : ℕ) (r : Reading) (room : ℕ) where
  -- an odd quarter, where nothing else is wrong
  pub odd_refused : frame_length ≤ room → checked_of base r ≡ no_fault → odd_quarter r.offset.0 ≡ true → written_of (write_fault base r room) frame_length ≡ Err eleven
  unfolding number
  odd_refused h e f = rw (odd_fault base r room h e f)

  -- and 11 exactly there
  pub eleven_exactly : (written_of (write_fault base r room) frame_length ≡ Err eleven)
      ↔ ((frame_length ≤ room) × (checked_of base r ≡ no_fault) × (odd_quarter r.offset.0 ≡ true))
  unfolding write_fault carried_of number
  eleven_exactly = (λ e. go (ltb room frame_length) refl (checked_of base r) refl (odd_quarter r.offset.0) refl e, λ p. odd_refused p.0 p.1 p.2)
    where
      go : (short : Bool) → ltb room frame_length ≡ short → (v : Verdict) → checked_of base r ≡ v → (odd : Bool) → odd_quarter r.offset.0 ≡ odd
          → written_of (first short Short (and_then v (first odd NotCarried no_fault))) frame_length ≡ Err eleven
          → (frame_length ≤ room) × (checked_of base r ≡ no_fault) × (odd_quarter r.offset.0 ≡ true)
      go true s v c odd o e = let z : ◌≡◌ {A = ℕ} 1 11 = ap code_in e in absurd (omega arith)
      go false s (Err x) c odd o e = absurd (checks_not_11 base r x c (ap code_in e))
      go false s (Ok done) c false o e = let z : ◌≡◌ {A = ℕ} 0 1 = cc in clash z
      go false s (Ok done) c true o e = (ltb-false room frame_length s, c, o)

  -- "+57 and -49 refused", by 8: an offset out of range is never 11, odd or not
  pub out_of_range_not_11 : offset_good r.offset.0 ≡ false → written_of (write_fault base r room) frame_length ≡ Err eleven → ⊥
  out_of_range_not_11 far e = never (sym far ∙ (checked_is base r (eleven_exactly.0 e).1).offset)

-- "A refusal leaves all lent memory untouched."
pub odd_untouched : (base : ℕ) (r : Reading) (buffer : List ℕ) → frame_length ≤ length buffer → checked_of base r ≡ no_fault → odd_quarter r.offset.0 ≡ true
    → filled (write_fault base r (length buffer)) (frame_of r) buffer ≡ buffer
odd_untouched base r buffer h e f = (refused_untouched base r buffer NotCarried (odd_fault base r (length buffer) h e f)).1
