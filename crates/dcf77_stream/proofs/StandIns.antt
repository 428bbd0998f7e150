-- Stand-ins for a pulse reader that "have to break" the contract: a fresh reader and a step function that meet the contracts of
-- `fresh` and `step`, as the checker reads them off the source, and are run symbol by symbol, are none of them.
use Rattle.reading.specs.Faults.{no_fault}
use Rattle.std.specs.Prelude.{None, Ok, Some}
use mathlib.Core.List.{List, [], ◌∷◌, ◌++◌}
use mathlib.Core.Path.{◌≡◌, refl, ap, ◌∙◌}
use Prim.Native.Nat.{ℕ}
use mir.Syntax.{Dict}
use Rattle.std.specs.declared.clone.Clone
use native.Mathlib.Omega.{arith}
use lib.ListN.{length, replicate}
use Rattle.reading.specs.declared.Reading.{Reading}
use Rattle.reading.specs.Years.{usual_base as base}
use Rattle.reading.proofs.YearLaws.{usual_base_lem}
use Rattle.dcf77.specs.Writer.{bytes_of, carry_fault}
use Rattle.dcf77.proofs.WriteLaws.{length-bytes}
use Rattle.dcf77.proofs.ShapeLaws.{gap_at_end}
use Rattle.dcf77.proofs.StandIns.{minute_of, good, minute_is, short}
use Rattle.streams.specs.Stream.{answers_of, newest_of}
use Rattle.streams.specs.declared.Stepped as of
use Rattle.streams.specs.StandIns.{SilentEver, RestartsAtTwos, RefusesAll, RepeatsFirst, SilentAfterFirst, SilentBefore}
use Rattle.streams.proofs.Contracts as contracts
use Rattle.dcf77_stream.specs.contracts.Minutes.{the_row as format_row}
use Rattle.dcf77_stream.specs.contracts.MinutesFormat62.TheImpl.{ghosts}
use Rattle.dcf77_stream.proofs.FormatTypes.{fits, format_laws, said_row, said_laws, said_copy}
use Rattle.dcf77_stream.specs.Said.{PulseReader, kept, outlined, owed, Said}
use Rattle.dcf77_stream.specs.Ending.{gapless}
use Rattle.dcf77_stream.specs.Due.{due}
use Rattle.dcf77_stream.proofs.SinceGap.{nothing_at_first_gap}
use Rattle.dcf77_stream.proofs.MinutesTold.{marks_of, minute_told, gap_shared}

-- two times that differ: the first minutes of 2000
abbrev first : Reading
first = minute_of base 0

abbrev second : Reading
second = minute_of base 1

first_good : carry_fault base first 0 ≡ no_fault
first_good = good base usual_base_lem 0 (omega arith)

second_good : carry_fault base second 0 ≡ no_fault
second_good = good base usual_base_lem 1 (omega arith)

different : second ≡ first → ⊥
different e = let z : second.minute ≡ first.minute = ap (λ (r : Reading). r.minute) e in omega (arith, minute_is base usual_base_lem 0, minute_is base usual_base_lem 1)

length-second : length (bytes_of second 0) ≡ 60
length-second = length-bytes second 0 ∙ short base usual_base_lem 1

-- a gap that is none, thirty marks before a minute's opening gap
abbrev stray : List ℕ
stray = 2 ∷ replicate 30 0

-- the answer is the time r, with some head
abbrev pub Tells : Said → Reading → Type 0
Tells said r = (head : ℕ) × (said ≡ Some (Ok (r, head)))

never_both : {said : Said} {r : Reading} → Tells said r → said ≡ None → ⊥
never_both t n =
    let e = t.1 in
    let z : ◌≡◌ {A = ℕ} 0 1 = cc in
    omega arith

too_few : owed base (2 ∷ []) ≡ None
unfolding gapless
too_few = nothing_at_first_gap base [] refl

abbrev pub Stepped : Type 0
Stepped = of.Stepped PulseReader Said

-- what a step function says after the last of the symbols that a reader is fed one by one; nothing where none came
abbrev pub answer_by : PulseReader → (PulseReader → ℕ → Stepped) → List ℕ → Said
answer_by fresh step symbols = newest_of None (answers_of (λ s. s.reader) (λ s. s.said) step fresh symbols)

-- the contracts as they are read for this format, whatever tables of functions the checker hands on with it, which no contract reads
module _ (dict : Dict) (clone : Clone.Ghosts Said) (clone-dict : Dict)
    (fresh : ℕ → PulseReader) (step : PulseReader → ℕ → Stepped)
    (starts : contracts.Starts format_row kept said_row format_laws fits said_laws said_copy ghosts dict clone clone-dict fresh)
    (steps : contracts.Steps format_row kept said_row format_laws fits said_laws said_copy ghosts dict clone clone-dict step) where
  meets : (symbols : List ℕ) → answer_by (fresh base) step symbols ≡ owed base symbols
  unfolding owed outlined
  meets = contracts.says_due format_row kept said_row format_laws fits said_laws said_copy ghosts dict clone clone-dict (omega arith) base (due base) fresh step starts steps

  first_told : Tells (answer_by (fresh base) step (2 ∷ bytes_of first 0)) first
  first_told = (0, meets (2 ∷ bytes_of first 0) ∙ minute_told base first 0 first_good [])

  -- the minute after it, whose opening gap is its closing one
  second_told : Tells (answer_by (fresh base) step ((2 ∷ bytes_of first 0) ++ bytes_of second 0)) second
  second_told = (0, meets ((2 ∷ bytes_of first 0) ++ bytes_of second 0) ∙ gap_shared base second 0 second_good (2 ∷ []) first 0)

  pub silent_ever : SilentEver (answer_by (fresh base) step) None → ⊥
  silent_ever silent = never_both first_told (silent (2 ∷ bytes_of first 0))

  pub refuses-all : RefusesAll (answer_by (fresh base) step) Tells → ⊥
  refuses-all none = none (2 ∷ bytes_of first 0) first first_told

  pub repeats_first : RepeatsFirst (answer_by (fresh base) step) Tells → ⊥
  repeats_first same = different (same (2 ∷ bytes_of first 0) (bytes_of second 0) first second first_told second_told)

  pub silent_after_first : SilentAfterFirst (answer_by (fresh base) step) Tells → ⊥
  silent_after_first none = none (2 ∷ bytes_of first 0) (bytes_of second 0) first second first_told (omega (arith, length-second)) second_told

  -- the gap that closes a minute does not open the next: none before a gap and a whole minute more have come
  pub drops_closing_gap : SilentBefore (answer_by (fresh base) step) Tells 61 → ⊥
  drops_closing_gap none =
      none (2 ∷ bytes_of first 0) (bytes_of second 0) first second first_told (omega (arith, length-second)) (omega (arith, length-second)) second_told

  -- here at each gap
  pub restarts_at_gaps : RestartsAtTwos (answer_by (fresh base) step) → ⊥
  restarts_at_gaps forgets =
      never_both first_told
      (ap (λ (s : List ℕ). answer_by (fresh base) step (2 ∷ s)) (gap_at_end first 0) ∙ forgets (2 ∷ marks_of first 0) [] ∙ meets (2 ∷ []) ∙ too_few)

  -- a stray gap makes it miss the minute that comes after it
  pub misses_after_stray_gap : ((r : Reading) (head : ℕ) → answer_by (fresh base) step (stray ++ (2 ∷ bytes_of r head)) ≡ None) → ⊥
  misses_after_stray_gap misses = never_both (0, meets (stray ++ (2 ∷ bytes_of first 0)) ∙ minute_told base first 0 first_good stray) (misses first 0)
