-- Demand 2 over the one reader: what either writer writes reads back as its own string, what is read writes back by the writer
-- that the answer names, and nothing else is read. All of it at every base year.
use Rattle.std.specs.Prelude.{Err, Ok}
use mathlib.Core.Bool.{Bool}
use mathlib.Core.List.{List, [], ◌++◌}
use mathlib.Core.Logic.{◌⊎◌, inl, inr, ◌↔◌}
use mathlib.Core.Path.{◌≡◌, refl, sym, ◌∙◌}
use Prim.Native.Nat.{ℕ, ◌≤◌}
use native.Mathlib.Omega.{arith}
use lib.ListN.{length, take, drop}
use Rattle.reading.specs.declared.Reading.{Reading}
use Rattle.reading.specs.declared.Refusal.{Refusal}
use Rattle.reading.specs.declared.Fault.TheVariants.{OutsideYears}
use Rattle.reading.specs.Faults.{number, no_fault}
use Rattle.reading.specs.Stamps.{stamp_of}
use Rattle.reading.specs.Writing.{written_of, filled}
use Rattle.reading.proofs.WrittenLaws.{length_is}
use Rattle.meinberg.specs.Layout.{text_length}
use Rattle.meinberg.specs.Writing.{bytes_of as meinbergBytes, write_fault as meinbergFault}
use Rattle.meinberg.proofs.RoundTrip as meinberg
use Rattle.erlangen.specs.Layout.{size}
use Rattle.erlangen.specs.Writing.{bytes_of as erlangenBytes, write_fault as erlangenFault}
use Rattle.erlangen.proofs.Promises as erlangen
use Rattle.clock_string.specs.declared.Told.TheVariants.{Meinberg, Erlangen}
use Rattle.clock_string.specs.Reader.{read_string}
use Rattle.clock_string.specs.Position.{position_of}
use Rattle.clock_string.proofs.ReadLaws.{is_meinberg, is_erlangen, meinberg_told, erlangen_told, Tells, Named, by_meinberg, by_erlangen, named}
use Rattle.clock_string.proofs.PositionLaws.{position_of_meinberg, position_of_erlangen}

-- ---- "What you write reads back as the same time with the same flags", whatever the buffer held before

module _ (base : ℕ) (r : Reading) (coasting : Bool) (buffer : List ℕ) where
  -- what the buffer holds after the Meinberg writer
  abbrev meinberg_after : List ℕ
  meinberg_after = filled (meinbergFault base r (length buffer)) (meinbergBytes r coasting) buffer

  pub meinberg_written_reads : (n : ℕ) → written_of (meinbergFault base r (length buffer)) text_length ≡ Ok n
      → (n ≡ text_length) × (read_string base (take n meinberg_after) ≡ Ok (Meinberg r coasting)) × (position_of base (take n meinberg_after) ≡ [])
  meinberg_written_reads n e =
      let a = length_is (meinbergFault base r (length buffer)) text_length n e in
      let t = take n meinberg_after in
      let w = rw (sym a.1) at (meinberg.written_reads base r coasting buffer a.0) in
      let told = meinberg_told base t r coasting w in
      (a.1, told, position_of_meinberg base t r coasting told)

  module _ (position : List ℕ) where
    -- and after the Uni Erlangen writer
    abbrev erlangenAfter : List ℕ
    erlangenAfter = filled (erlangenFault base r position (length buffer)) (erlangenBytes r coasting position) buffer

    pub erlangen-written-reads : (n : ℕ) → written_of (erlangenFault base r position (length buffer)) size ≡ Ok n
        → (n ≡ size) × (read_string base (take n erlangenAfter) ≡ Ok (Erlangen r coasting)) × (position_of base (take n erlangenAfter) ≡ position)
    erlangen-written-reads n e =
        let w = erlangen.written_reads base r coasting position buffer n e in
        let t = take n erlangenAfter in
        let told = erlangen_told base t r coasting w.1 in
        (w.0, told, position_of_erlangen base t r coasting told ∙ w.2)

-- ---- "and what you read writes back to the same bytes", by the writer that the answer names

module _ (base : ℕ) (s : List ℕ) (r : Reading) (coasting : Bool) (buffer : List ℕ) where
  pub meinberg_read_writes : read_string base s ≡ Ok (Meinberg r coasting) → text_length ≤ length buffer
      → (written_of (meinbergFault base r (length buffer)) text_length ≡ Ok text_length)
      × (filled (meinbergFault base r (length buffer)) (meinbergBytes r coasting) buffer ≡ s ++ drop text_length buffer)
  meinberg_read_writes e h =
      let p = is_meinberg base s r coasting e in
      let good = meinberg.read_writable base s r coasting p.1 (length buffer) h in
      rw (good, meinberg.read_writes base s r coasting p.1, p.0) (refl, refl)

  pub erlangen_read_writes : read_string base s ≡ Ok (Erlangen r coasting) → size ≤ length buffer
      → (written_of (erlangenFault base r (position_of base s) (length buffer)) size ≡ Ok size)
      × (filled (erlangenFault base r (position_of base s) (length buffer)) (erlangenBytes r coasting (position_of base s)) buffer ≡ s ++ drop size buffer)
  erlangen_read_writes e h =
      rw (position_of_erlangen base s r coasting e) (erlangen.read_rewrites base s r coasting (is_erlangen base s r coasting e).1 buffer h)

-- ---- "Accept exactly the strings that document 01 draws": those that one of the two writers writes for some reading that it carries

module _ (base : ℕ) (s : List ℕ) where
  abbrev pub ByMeinberg : Reading → Bool → Type 0
  ByMeinberg r coasting = (meinbergFault base r text_length ≡ no_fault) × (s ≡ meinbergBytes r coasting)

  abbrev pub ByErlangen : Reading → Bool → List ℕ → Type 0
  ByErlangen r coasting position = (erlangenFault base r position size ≡ no_fault) × (s ≡ erlangenBytes r coasting position)

  pub meinberg_exactly : (r : Reading) (coasting : Bool) → (read_string base s ≡ Ok (Meinberg r coasting)) ↔ ByMeinberg r coasting
  meinberg_exactly r coasting = (
    λ e. (meinberg.exactly base s r coasting).0 (is_meinberg base s r coasting e).1,
    λ w. meinberg_told base s r coasting ((meinberg.exactly base s r coasting).1 w),
  )

  pub erlangen_exactly : (r : Reading) (coasting : Bool) (position : List ℕ)
      → ((read_string base s ≡ Ok (Erlangen r coasting)) × (position_of base s ≡ position)) ↔ ByErlangen r coasting position
  erlangen_exactly r coasting position = (there, back)
    where
      there : (read_string base s ≡ Ok (Erlangen r coasting)) × (position_of base s ≡ position) → ByErlangen r coasting position
      there e =
          let w = erlangen.read_writes base s r coasting (is_erlangen base s r coasting e.0).1 size (omega arith) in
          let p = sym (position_of_erlangen base s r coasting e.0) ∙ e.1 in
          (rw p at w.0, sym (rw p at w.1))

      back : ByErlangen r coasting position → (read_string base s ≡ Ok (Erlangen r coasting)) × (position_of base s ≡ position)
      back w =
          let b = erlangen.bytes_read base r coasting position size w.0 in
          let told = erlangen_told base s r coasting (rw w.1 b.0) in
          (told, position_of_erlangen base s r coasting told ∙ rw w.1 b.1)

  pub exactly : ((r : Reading) × (coasting : Bool) × Tells base s r coasting)
      ↔ (((r : Reading) × (coasting : Bool) × ByMeinberg r coasting) ⊎ ((r : Reading) × (coasting : Bool) × (position : List ℕ) × ByErlangen r coasting position))
  exactly = (there, back)
    where
      by : (r : Reading) (coasting : Bool) → Named base s r coasting
          → ((r : Reading) × (coasting : Bool) × ByMeinberg r coasting) ⊎ ((r : Reading) × (coasting : Bool) × (position : List ℕ) × ByErlangen r coasting position)
      by r coasting (by_meinberg w) = inl (r, coasting, (meinberg_exactly r coasting).0 w)
      by r coasting (by_erlangen w) = inr (r, coasting, position_of base s, (erlangen_exactly r coasting (position_of base s)).0 (w, refl))

      there : (r : Reading) × (coasting : Bool) × Tells base s r coasting
          → ((r : Reading) × (coasting : Bool) × ByMeinberg r coasting) ⊎ ((r : Reading) × (coasting : Bool) × (position : List ℕ) × ByErlangen r coasting position)
      there a = by a.0 a.1 (named base s a.0 a.1 a.2)

      back : ((r : Reading) × (coasting : Bool) × ByMeinberg r coasting) ⊎ ((r : Reading) × (coasting : Bool) × (position : List ℕ) × ByErlangen r coasting position)
          → (r : Reading) × (coasting : Bool) × Tells base s r coasting
      back (inl a) = (a.0, a.1, rw ((meinberg_exactly a.0 a.1).1 a.2))
      back (inr a) = (a.0, a.1, rw ((erlangen_exactly a.0 a.1 a.2).1 a.3).0)

  -- stamping an accepted reading "refuses it by 12 alone"
  pub stamped_or_12 : (r : Reading) (coasting : Bool) → Tells base s r coasting → (x : Refusal) → stamp_of base r ≡ Err x → x ≡ number OutsideYears
  stamped_or_12 r coasting e x = go (named base s r coasting e)
    where
      go : Named base s r coasting → stamp_of base r ≡ Err x → x ≡ number OutsideYears
      go (by_meinberg w) = meinberg.accepted_stamped base s r coasting (is_meinberg base s r coasting w).1 x
      go (by_erlangen w) = erlangen.stamped_or_12 base s r coasting (is_erlangen base s r coasting w).1 x

-- no two strings get the same answer with a time in it, and the same position part
pub one_string : (base : ℕ) (s t : List ℕ) (r : Reading) (coasting : Bool) → Tells base s r coasting → read_string base s ≡ read_string base t
    → position_of base s ≡ position_of base t → s ≡ t
one_string base s t r coasting e same part = go (named base s r coasting e)
  where
    go : Named base s r coasting → s ≡ t
    go (by_meinberg w) = ((meinberg_exactly base s r coasting).0 w).1 ∙ sym ((meinberg_exactly base t r coasting).0 (sym same ∙ w)).1
    go (by_erlangen w) =
        ((erlangen_exactly base s r coasting (position_of base s)).0 (w, refl)).1
        ∙ sym ((erlangen_exactly base t r coasting (position_of base s)).0 (sym same ∙ w, sym part)).1
