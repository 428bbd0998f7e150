-- What marks without a fault say, and what they are.
use Rattle.std.specs.Prelude.{Err, Ok}
use mathlib.Core.Bool.{Bool, true, false, cond, not, ◌||◌}
use mathlib.Core.List.{List}
use mathlib.Core.Path.{◌≡◌, refl, sym, ap, ◌∙◌}
use Prim.Native.Nat.{ℕ, ◌<◌, ◌≤◌}
use native.Mathlib.Omega.{arith}
use native.Mathlib.Nat.{le_antisymm}
use borrow.Author.Tests.{ne_eqb, lt-ltb, le-ltb, ltb-false, eqb-true, not-false}
use lib.Dec.{ltb, eqb}
use lib.ListN.{length, get_or}
use Rattle.reading.specs.declared.Reading.{Reading}
use Rattle.reading.specs.declared.Refusal.{Refusal}
use Rattle.reading.specs.declared.Fault.TheVariants.{Length, Byte, OtherBase}
use Rattle.reading.specs.Faults.{number, first, Verdict, no_fault}
use Rattle.reading.specs.Years.{is_base}
use Rattle.reading.proofs.CheckLaws.{first_good, clash}
use Rattle.pulses.specs.Row.{group_of, pulse_allowed, good_pulses, sums_of}
use Rattle.pulses.proofs.EntryLaws.{fixed_allowed}
use Rattle.pulses.proofs.GoodLaws.{good_in_row, first_bad}
use Rattle.dcf77_table.specs.Table.{head, shared_marks, minute_marks}
use Rattle.dcf77_table.proofs.TableLaws.{marks-length, long_enough}
use Rattle.dcf77.specs.Forms.{short_length, long_length, length_of}
use Rattle.dcf77.specs.Reader.{is_long, table_for, says, reading_of, length_bad, said_fault, read_fault, answer_of, read_dcf77, Answer}
use Rattle.dcf77.proofs.SoundLaws.{Sound, sound, faultless}

-- ---- the form that a length has

pub form_length : (n : ℕ) → length_bad n ≡ false → n ≡ length_of (is_long n)
unfolding length_bad length_of is_long
form_length n e = go (eqb n long_length) refl
  where
    go : (b : Bool) → eqb n long_length ≡ b → n ≡ cond b long_length short_length
    go true p = eqb-true n long_length p
    go false p = eqb-true n short_length (or_left (eqb n short_length) (eqb n long_length) (not-false _ e) p)
      where
        or_left : (a b : Bool) → (a || b) ≡ true → b ≡ false → a ≡ true
        or_left true b q k = refl
        or_left false b q k = sym k ∙ q

form_marks : (long : Bool) → length_of long ≡ length (minute_marks long)
unfolding length_of
form_marks true = sym (marks-length true)
form_marks false = sym (marks-length false)

pub some_marks : (s : List ℕ) → length_bad (length s) ≡ false → 0 < length s
some_marks s e = omega (arith, form_length (length s) e, form_marks (is_long (length s)), long_enough (is_long (length s)))

-- ---- the first mark

begins : (long : Bool) (b : ℕ) → (b ≡ 0 → ⊥) → pulse_allowed (get_or (minute_marks long) 0 0) b ≡ false
unfolding minute_marks shared_marks group_of
begins long b d = fixed_allowed (get_or (minute_marks long) 0 0) b (omega arith) ∙ ne_eqb b 0 d

-- ---- the reader, answer by answer

module _ (base : ℕ) (s : List ℕ) where
  pub wrong_length : (n : Refusal) → length_bad (length s) ≡ true → n ≡ number Length → Err n ≡ read_dcf77 base s
  unfolding read_dcf77 read_fault
  wrong_length n e p = rw (e, p)

  pub other_base_lem : (n : Refusal) → length_bad (length s) ≡ false → is_base base ≡ false → n ≡ number OtherBase → Err n ≡ read_dcf77 base s
  unfolding read_dcf77 read_fault
  other_base_lem n e g p = rw (e, g, p)

  module _ (e : length_bad (length s) ≡ false) (g : is_base base ≡ true) where
    pub wrong-mark : (m : ℕ) (n : Refusal) → m ≡ good_pulses (table_for s) s → m < length s → n ≡ number (Byte m) → Err n ≡ read_dcf77 base s
    unfolding read_dcf77 read_fault
    wrong-mark m n q k p =
        let l : good_pulses (table_for s) s < length s = omega arith in
        rw (e, g, lt-ltb (good_pulses (table_for s) s) (length s) l, p, q)

    -- what is left to ask of the marks, by the table of their form
    pub marks_left : (long : Bool) → long ≡ is_long (length s)
        → read_dcf77 base s
        ≡ (let good = good_pulses (minute_marks long) s in
        let v = sums_of (minute_marks long) s in
        answer_of (first (ltb good (length s)) (Byte good) (said_fault s v (reading_of base v))) (reading_of base v) (get_or v head 0))
    unfolding read_dcf77 read_fault table_for says
    marks_left long f = rw (e, g, f)

    -- the first of all: a minute begins with a 0
    pub no_zero : (n : Refusal) → (get_or s 0 0 ≡ 0 → ⊥) → n ≡ number (Byte 0) → Err n ≡ read_dcf77 base s
    unfolding table_for is_long length_bad
    no_zero n d p =
        let f = form_length (length s) e ∙ form_marks (is_long (length s)) in
        let z = first_bad (table_for s) s 0 (omega (arith, long_enough (is_long (length s)))) (omega (arith, long_enough (is_long (length s)))) (λ j h. absurd (omega arith)) (begins (is_long (length s)) (get_or s 0 0) d) in
        wrong-mark 0 n (sym z) (omega (arith, long_enough (is_long (length s)))) p

    pub marks-told : (v : List ℕ) (r : Reading) (f : Verdict) (a : Answer) → length s ≤ good_pulses (table_for s) s → v ≡ says s
        → r ≡ reading_of base v → f ≡ said_fault s v r → a ≡ answer_of f r (get_or v head 0) → a ≡ read_dcf77 base s
    unfolding read_dcf77 read_fault
    marks-told v r f a k p q t u = rw (e, g, le-ltb (good_pulses (table_for s) s) (length s) k, u, t, q, p)

-- ---- a time, and what it comes from

-- marks of a right length, each of them good, whose values name the reading
pub record Read (base : ℕ) (s : List ℕ) (r : Reading) (h : ℕ) : Type 0 where
  pub long : length s ≡ length_of (is_long (length s))
  pub base_good : is_base base ≡ true
  pub good : good_pulses (table_for s) s ≡ length s
  pub reading : reading_of base (says s) ≡ r
  pub head_is : get_or (says s) head 0 ≡ h
  pub sound_marks : Sound s (says s) r

time_of : (f : Verdict) (q r : Reading) (i h : ℕ) → answer_of f q i ≡ Ok (r, h) → (f ≡ no_fault) × (q ≡ r) × (i ≡ h)
time_of (Ok done) q r i h e =
    let told : (q, i) ≡ (r, h) = cc in (refl, ap (λ (p : Reading × ℕ). p.0) told, ap (λ (p : Reading × ℕ). p.1) told)
time_of (Err x) q r i h e = let z : ◌≡◌ {A = ℕ} 0 1 = cc in clash z

module _ (base : ℕ) (s : List ℕ) (r : Reading) (h : ℕ) where
  pub read_is : read_dcf77 base s ≡ Ok (r, h) → Read base s r h
  unfolding read_dcf77 read_fault
  read_is e =
      let a = time_of (read_fault base s) (reading_of base (says s)) r (get_or (says s) head 0) h e in
      let b = first_good (length_bad (length s)) _ _ a.0 in
      let g = first_good (not (is_base base)) _ _ b.1 in
      let c = first_good (ltb (good_pulses (table_for s) s) (length s)) _ _ g.1 in
      record {
        long = form_length (length s) b.0;
        base_good = not-false _ g.0;
        good = le_antisymm (good_in_row (table_for s) s) (ltb-false (good_pulses (table_for s) s) (length s) c.0);
        reading = a.1;
        head_is = a.2;
        sound_marks = rw a.1 at (sound s (says s) (reading_of base (says s)) c.1);
      }

  pub is_read : length_bad (length s) ≡ false → Read base s r h → read_dcf77 base s ≡ Ok (r, h)
  is_read e p =
      sym (marks-told base s e p.base_good (says s) r no_fault (Ok (r, h)) (omega (arith, p.good)) refl (sym p.reading) (sym (faultless s (says s) r p.sound_marks)) (rw p.head_is))
