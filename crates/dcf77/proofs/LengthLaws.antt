-- The two lengths: 61 marks exactly by the leap rule, and how many bytes the writer asks for.
use Rattle.std.specs.Prelude.{Err, Ok}
use mathlib.Core.Bool.{Bool, true, false, not, ◌&&◌}
use mathlib.Core.List.{List}
use mathlib.Core.Path.{◌≡◌, refl, sym, ap, ◌∙◌}
use Prim.Native.Nat.{ℕ, ◌<◌, ◌≤◌}
use native.Mathlib.Omega.{arith}
use borrow.Author.Tests.{lt-ltb, le-ltb}
use lib.Dec.{eqb}
use lib.ListN.{length}
use Rattle.reading.specs.Years.{is_base}
use Rattle.reading.specs.declared.Reading.{Reading}
use Rattle.reading.specs.declared.Fault.{Fault}
use Rattle.reading.specs.declared.Fault.TheVariants.{Length, LeapSecond, OtherBase}
use Rattle.reading.specs.Faults.{number, Verdict, no_fault}
use Rattle.reading.specs.Universal.{utc_of}
use Rattle.reading.specs.Leap.{after_leap}
use Rattle.reading.specs.Checks.{checked_of}
use Rattle.reading.proofs.CheckLaws.{checked_is, clash}
use Rattle.reading.proofs.UtcLaws.{universal}
use Rattle.reading.proofs.LeapLaws.{after_leap_first}
use Rattle.pulses.specs.Row.{row}
use Rattle.dcf77_table.specs.Table.{minute_marks}
use Rattle.dcf77.specs.Forms.{short_length, long_length, length_of, last_of, due_long}
use Rattle.dcf77.specs.Reader.{read_dcf77}
use Rattle.dcf77.specs.Writer.{values_of, carry_fault, is_good, needed, room_fault, write_fault, checked_with}
use Rattle.dcf77.proofs.WriteLaws.{carried, length-bytes}
use Rattle.dcf77.proofs.WrittenBack.{other_form}
use Rattle.dcf77.proofs.RoundTrip.{read_bytes}

-- ---- the length of what is read

length_of_lem : (b : Bool) → (length_of b ≡ long_length → b ≡ true) × (b ≡ true → length_of b ≡ long_length)
unfolding length_of
length_of_lem true = (λ e. refl, λ e. refl)
length_of_lem false = (λ e. absurd (omega arith), λ e. let z : ◌≡◌ {A = ℕ} 0 1 = cc in clash z)

module _ (base : ℕ) (s : List ℕ) (r : Reading) (h : ℕ) (e : read_dcf77 base s ≡ Ok (r, h)) where
  length-due : length s ≡ length_of (due_long r)
  length-due = sym (ap length (read_bytes base s r h e).1) ∙ length-bytes r h

  -- 61 marks exactly where the rule asks for them
  pub long_exactly : (length s ≡ long_length → due_long r ≡ true) × (due_long r ≡ true → length s ≡ long_length)
  long_exactly = (λ k. (length_of_lem (due_long r)).0 (sym length-due ∙ k), λ k. length-due ∙ (length_of_lem (due_long r)).1 k)

  -- and 60 elsewhere: where no leap second is announced
  pub unannounced_short : r.leap ≡ false → length s ≡ short_length
  unfolding due_long length_of
  unannounced_short k = length-due ∙ rw k

  and_false : (b : Bool) → (b && false) ≡ false
  and_false true = refl
  and_false false = refl

  -- and where one is, but at another minute
  pub elsewhere_short : after_leap (utc_of r) ≡ false → length s ≡ short_length
  unfolding due_long length_of
  elsewhere_short k = length-due ∙ rw (k, and_false r.leap)

-- "9 .. for a DCF77 length, the last place": the marks of any reading and head that are carried, right one by one but in the other form,
-- 60 where 61 are due or 61 where 60 are
pub other_form_refused : (base : ℕ) (r : Reading) (h : ℕ) → carry_fault base r h ≡ no_fault
    → read_dcf77 base (row (minute_marks (not (due_long r))) (values_of r h)) ≡ Err (number (LeapSecond (last_of (not (due_long r)))))
other_form_refused base r h e = other_form base r h (carried base r h e)

-- "leap is announced and the named minute is 00:00 UTC of 1 January or 1 July", which by L3 "becomes 00:00 UTC on the first of any
-- month"
pub due_named : (base : ℕ) (r : Reading) → checked_of base r ≡ no_fault
    → due_long r ≡ (r.leap && (eqb (utc_of r).minute 0 && eqb (utc_of r).date.day 1))
unfolding due_long
due_named base r e = rw (after_leap_first (utc_of r) (universal base r (checked_is base r e)).real)

-- ---- the room that the writer asks for

at_least : (b : Bool) → short_length ≤ length_of b
unfolding length_of
at_least true = omega arith
at_least false = omega arith

module _ (long : Bool) (room : ℕ) where
  -- whatever was found, fewer than 60 bytes are too few
  pub room_short : (v : Verdict) → room < short_length → room_fault v long room ≡ Err Length
  unfolding room_fault needed
  room_short v k = rw (lt-ltb room (length_of (is_good v && long)) (omega (arith, at_least (is_good v && long))))

  -- and 60 are enough for a refusal of another code
  pub room_own : (x : Fault) → short_length ≤ room → room_fault (Err x) long room ≡ Err x
  unfolding room_fault needed length_of
  room_own x k = rw (le-ltb room short_length k)

-- and too few for what is good and long
pub room-all : room_fault no_fault true short_length ≡ Err Length
unfolding room_fault needed length_of
room-all = refl

other_base_carried : (base : ℕ) (r : Reading) (h : ℕ) → is_base base ≡ false → carry_fault base r h ≡ Err OtherBase
unfolding carry_fault checked_with
other_base_carried base r h g = rw g

module _ (base : ℕ) (r : Reading) (h : ℕ) where
  -- fewer than 60 bytes are too few for anything
  pub too_few_bytes : (room : ℕ) → room < short_length → write_fault base r h room ≡ Err Length
  unfolding write_fault
  too_few_bytes room k = room_short (due_long r) room (carry_fault base r h) k

  -- 60 bytes are enough for a refusal of another code
  pub own_code : (room : ℕ) (x : Fault) → carry_fault base r h ≡ Err x → short_length ≤ room → write_fault base r h room ≡ Err x
  unfolding write_fault
  own_code room x e k = rw e (room_own (due_long r) room x k)

  -- and too few for a long minute that is accepted
  pub long_needs_all : carry_fault base r h ≡ no_fault → due_long r ≡ true → write_fault base r h short_length ≡ Err Length
  unfolding write_fault
  long_needs_all e k = rw (e, k) room-all

  -- "any other base .. is 19, straight after 1": 60 bytes are enough for it, whatever the reading and the head
  pub other_base_refused : (room : ℕ) → is_base base ≡ false → short_length ≤ room → write_fault base r h room ≡ Err OtherBase
  other_base_refused room g k = own_code room OtherBase (other_base_carried base r h g) k
