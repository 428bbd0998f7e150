-- Stand-ins for the reader of clock strings that "have to break" its contract: no function that meets it is one of them.
use Rattle.std.specs.Prelude.{Err, Ok}
use mathlib.Core.Bool.{Bool, false}
use mathlib.Core.List.{List}
use mathlib.Core.Path.{◌≡◌, sym, ap, ◌∙◌}
use Prim.Native.Nat.{ℕ}
use native.Mathlib.Omega.{arith}
use Rattle.reading.specs.declared.Reading.{Reading}
use Rattle.reading.specs.declared.Refusal.{Refusal}
use Rattle.reading.specs.Years.{usual_base as base}
use Rattle.meinberg.proofs.Worked.{leap_second, at_leap_second}
use Rattle.meinberg.proofs.StandIns.{leap_second_read}
use Rattle.erlangen.proofs.Worked.{usual, ahead, none, string, hour_ahead, reading, worked_read}
use Rattle.clock_string.specs.declared.Told.TheVariants.{Meinberg, Erlangen}
use Rattle.clock_string.specs.Reader.{read_string, whichever, Answer}
use Rattle.clock_string.proofs.ReadLaws.{meinberg_told, erlangen_told, SameString}

-- `29.02.24; 4; 12:34:56; +01:00`, which is accepted as 68 bytes, as `leap_second` is as 32
abbrev afternoon : List ℕ
afternoon = string usual (ahead 0 1 0 0) none

leap_second_told : read_string base leap_second ≡ Ok (Meinberg at_leap_second false)
leap_second_told = meinberg_told base leap_second at_leap_second false leap_second_read

afternoon_told : read_string base afternoon ≡ Ok (Erlangen (reading hour_ahead) false)
afternoon_told = erlangen_told base afternoon (reading hour_ahead) false worked_read.0

another_year : at_leap_second ≡ reading hour_ahead → ⊥
unfolding reading
another_year e = let z : ◌≡◌ {A = ℕ} 2016 2024 = ap (λ (r : Reading). r.year) e in omega arith

module _ (answer : List ℕ → Answer) (meets : (s : List ℕ) → answer s ≡ read_string base s) where
  -- "a reader that refuses everything", of the one length or of the other
  pub refuses-all_of_32 : (refusal : Refusal) → answer leap_second ≡ Err refusal → ⊥
  refuses-all_of_32 refusal e = let z : ◌≡◌ {A = ℕ} 0 1 = cc (leap_second_told, meets leap_second) in omega arith

  pub refuses-all_of_68 : (refusal : Refusal) → answer afternoon ≡ Err refusal → ⊥
  refuses-all_of_68 refusal e = let z : ◌≡◌ {A = ℕ} 0 1 = cc (afternoon_told, meets afternoon) in omega arith

  -- "one fixed time for all", whichever string it is told of
  pub one_fixed_time : (r : Reading)
      → ((s : List ℕ) (q : Reading) (d : Bool) → whichever (answer s) ≡ Ok (q, d) → q ≡ r) → ⊥
  one_fixed_time r all =
      let a = all leap_second at_leap_second false (ap whichever (meets leap_second ∙ leap_second_told)) in
      let b = all afternoon (reading hour_ahead) false (ap whichever (meets afternoon ∙ afternoon_told)) in
      another_year (a ∙ sym b)

  -- a reader that names one string for all that it accepts
  pub names_one_string : ((s t : List ℕ) (q r : Reading) (c d : Bool) → whichever (answer s) ≡ Ok (q, c) → whichever (answer t) ≡ Ok (r, d)
      → SameString (answer s) (answer t)) → ⊥
  names_one_string all =
      let a = meets leap_second ∙ leap_second_told in
      let b = meets afternoon ∙ afternoon_told in
      rw (a, b) at (all leap_second afternoon at_leap_second (reading hour_ahead) false false (ap whichever a) (ap whichever b))
