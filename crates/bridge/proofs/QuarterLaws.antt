-- What L9 asks of the bridge: "an odd quarter at .. the bridge is 11", and nothing else is; the room's refusal and the string's own go
-- before it. A Meinberg string has no odd quarter, so that it never meets it.
use Rattle.std.specs.Prelude.{Err, Ok}
use mathlib.Core.Bool.{Bool, true, false}
use mathlib.Core.List.{List}
use mathlib.Core.Logic.{inl, inr, ◌↔◌}
use mathlib.Core.Path.{◌≡◌, refl, sym, ap, ◌∙◌}
use Prim.Native.Nat.{ℕ, ◌+◌, ◌%◌, ◌≤◌}
use native.Mathlib.Omega.{arith}
use borrow.Author.Tests.{eq-eqb}
use lib.ListN.{length}
use Rattle.laws.specs.Tests.{among}
use Rattle.laws.proofs.Bools.{never}
use Rattle.reading.specs.declared.Reading.{Reading}
use Rattle.reading.specs.declared.Refusal.{Refusal}
use Rattle.reading.specs.Faults.{number}
use Rattle.reading.specs.Offset.{west, east}
use Rattle.strings.specs.Checks.{AnswerOwed}
use Rattle.clock_string.specs.declared.Told.TheVariants.{Meinberg}
use Rattle.clock_string.specs.Reader.{read_string, whichever}
use Rattle.clock_string.specs.Objections.{read_objections, read_codes}
use Rattle.clock_string.proofs.ReadLaws.{meinberg_whole_hours}
use Rattle.clock_string.proofs.OwedLaws.{read_owed}
use Rattle.irig.specs.Offset.{per_half, odd_quarter}
use Rattle.irig.specs.Faults.{frame_length}
use Rattle.irig.proofs.QuarterLaws.{eleven}
use Rattle.bridge.specs.declared.Coasting.TheVariants.{Worse}
use Rattle.bridge.specs.Bridge.{bridge_answer}
use Rattle.bridge.proofs.BridgeLaws.{TellsAt, RefusedBy, refused_by, odd-not-carried}

module _ (base : ℕ) (s : List ℕ) where
  -- no reader of a string refuses by 11
  string_never_11 : (x : Refusal) → read_string base s ≡ Err x → x.code ≡ 11 → ⊥
  string_never_11 x e c =
      let owed : AnswerOwed (read_objections base s) read_codes (whichever (Err x)) = rw e at (read_owed base s) in
      never (ap (λ (code : ℕ). among code read_codes) (sym c) ∙ owed.1)

  -- 11, at place 0, exactly where there is room and the string says a time at an odd quarter
  pub eleven_exactly : (buffer : List ℕ)
      → (bridge_answer base s (length buffer) ≡ Err eleven) ↔ ((frame_length ≤ length buffer) × TellsAt base s true)
  unfolding number
  eleven_exactly buffer = (
    λ e. there (refused_by base s (length buffer) eleven e),
    λ a. (odd-not-carried base s Worse buffer a.0 a.1.0 a.1.1 a.1.2 a.1.3).0,
  )
    where
      there : RefusedBy base s (length buffer) eleven → (frame_length ≤ length buffer) × TellsAt base s true
      there (inl a) = let z : ◌≡◌ {A = ℕ} 11 1 = ap (λ (x : Refusal). x.code) a.1 in absurd (omega arith)
      there (inr (h, inl a)) = absurd (string_never_11 eleven a refl)
      there (inr (h, inr a)) = (h, a.0)

  -- "x is `U` (offset 0), space (..) or `S` (..)": whole hours from UTC, which no odd quarter is
  pub meinberg_never_odd : (r : Reading) (coasting : Bool) → read_string base s ≡ Ok (Meinberg r coasting) → odd_quarter r.offset.0 ≡ false
  unfolding odd_quarter
  meinberg_never_odd r coasting e =
      let h = meinberg_whole_hours base s r coasting e in
      let w : (west r.offset.0 + east r.offset.0) % per_half ≡ 0 = omega arith in
      rw (eq-eqb ((west r.offset.0 + east r.offset.0) % per_half) 0 w)
