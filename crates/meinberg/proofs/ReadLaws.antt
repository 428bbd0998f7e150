-- The faults of a string in their order; when a string is accepted, and what its time then is.
use Rattle.std.specs.Prelude.{Err, Ok}
use mathlib.Core.Bool.{Bool, true, false, not}
use mathlib.Core.List.{List}
use mathlib.Core.Path.{◌≡◌, refl, sym}
use Prim.Native.Nat.{ℕ, ◌≤◌, ◌<◌}
use native.Mathlib.Omega.{arith}
use lib.Dec.{eqb, ltb}
use lib.ListN.{length, get_or}
use borrow.Author.Tests.{eq-eqb, ne_eqb, eqb-true, lt-ltb, le-ltb, ltb-false, not-false}
use Rattle.reading.specs.declared.Reading.{Reading}
use Rattle.reading.specs.declared.Fault.{Fault}
use Rattle.reading.specs.declared.Fault.TheVariants.{Length, Byte, OtherBase}
use Rattle.reading.specs.Faults.{number, no_fault}
use Rattle.reading.specs.Years.{is_base}
use Rattle.reading.proofs.CheckLaws.{first_good}
use Rattle.wire.specs.Digits.{digit}
use Rattle.wire.specs.Layout.{good_places}
use Rattle.wire.proofs.LayoutLaws.{allowed_at, good_within, first_bad_is}
use Rattle.strings.proofs.CheckLaws.{Sound, sound, faultless, told_of}
use Rattle.meinberg.specs.Layout.{text_length, last_place, layout, places}
use Rattle.meinberg.specs.Meaning.{meaning, coasting_in, fault_in, read_meinberg}

pub layout-length : length layout ≡ text_length
unfolding layout
layout-length = refl

-- ---- the faults that come before what a string says

module _ (base : ℕ) (s : List ℕ) where
  pub wrong_length : (length s ≡ text_length → ⊥) → Err Length ≡ fault_in base s
  unfolding fault_in
  wrong_length h = rw (ne_eqb (length s) text_length h)

  pub other_base_lem : length s ≡ text_length → is_base base ≡ false → Err OtherBase ≡ fault_in base s
  unfolding fault_in
  other_base_lem h b = rw (eq-eqb (length s) text_length h, b)

  pub bad_byte : (n : ℕ) → length s ≡ text_length → is_base base ≡ true → n ≡ good_places layout s → n < text_length → Err (Byte n) ≡ fault_in base s
  unfolding fault_in
  bad_byte n h b e k = rw (eq-eqb (length s) text_length h, b, ← e, lt-ltb n text_length k)

  -- the answer that goes with a fault
  pub refused : (x : Fault) → Err x ≡ fault_in base s → Err (number x) ≡ read_meinberg base s
  unfolding read_meinberg
  refused x e = rw (← e)

  -- "wrong input length"
  pub length-refused : (length s ≡ text_length → ⊥) → read_meinberg base s ≡ Err (number Length)
  unfolding read_meinberg
  length-refused h = rw (← wrong_length h)

  -- "for code 2 it is the lowest bad place"
  pub lowest_bad_byte : length s ≡ text_length → is_base base ≡ true → (k : ℕ) → k ≤ last_place → allowed_at layout s k ≡ false
      → ((i : ℕ) → i < k → allowed_at layout s i ≡ true) → read_meinberg base s ≡ Err (number (Byte k))
  unfolding read_meinberg
  lowest_bad_byte h b k l e f =
      let n = first_bad_is layout s k (omega (arith, layout-length)) (omega arith) e f in
      rw (← bad_byte k h b (sym n) (omega arith))

-- ---- a string without a fault

pub record Accepted (base : ℕ) (s : List ℕ) : Type 0 where
  pub whole : length s ≡ text_length
  pub base_good : is_base base ≡ true
  pub bytes : good_places layout s ≡ text_length
  pub says : Sound (meaning base s) (digit (get_or s places.weekday 0)) false false

module _ (base : ℕ) (s : List ℕ) where
  pub accepted : fault_in base s ≡ no_fault → Accepted base s
  unfolding fault_in
  accepted e =
      let a = first_good (not (eqb (length s) text_length)) _ _ e in
      let d = first_good (not (is_base base)) _ _ a.1 in
      let b = first_good (ltb (good_places layout s) text_length) _ _ d.1 in
      let whole = eqb-true (length s) text_length (not-false (eqb (length s) text_length) a.0) in
      let enough = ltb-false (good_places layout s) text_length b.0 in
      record {
        whole = whole;
        base_good = not-false (is_base base) d.0;
        bytes = omega (arith, (good_within layout s).1);
        says = sound (meaning base s) (digit (get_or s places.weekday 0)) false false places b.1;
      }

  pub is_accepted : Accepted base s → fault_in base s ≡ no_fault
  unfolding fault_in
  is_accepted p =
      let enough = le-ltb (good_places layout s) text_length (omega (arith, p.bytes)) in
      rw (eq-eqb (length s) text_length p.whole, p.base_good, enough)
      (faultless (meaning base s) (digit (get_or s places.weekday 0)) false false places p.says)

pub record Told (base : ℕ) (s : List ℕ) (r : Reading) (coasting : Bool) : Type 0 where
  pub good : fault_in base s ≡ no_fault
  pub time : meaning base s ≡ r
  pub coasts : coasting_in s ≡ coasting

module _ (base : ℕ) (s : List ℕ) (r : Reading) (coasting : Bool) where
  pub told_is : read_meinberg base s ≡ Ok (r, coasting) → Told base s r coasting
  unfolding read_meinberg
  told_is e =
      let p = told_of (fault_in base s) (meaning base s) r (coasting_in s) coasting e in
      record { good = p.0; time = p.1; coasts = p.2 }

  pub is_told : Told base s r coasting → read_meinberg base s ≡ Ok (r, coasting)
  unfolding read_meinberg
  is_told p = rw (p.good, p.time, p.coasts)
