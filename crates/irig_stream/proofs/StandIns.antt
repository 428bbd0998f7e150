-- Stand-ins for a pulse reader that "have to break" the contract: a fresh reader and a step function that meet the contracts of
-- `fresh` and `step`, as the checker reads them off the source, and are run pulse by pulse, are none of them.
use Rattle.reading.specs.Faults.{no_fault}
use Rattle.std.specs.Prelude.{None, Ok, Some}
use mathlib.Core.List.{List, [], ◌∷◌, ◌++◌}
use mathlib.Core.Path.{◌≡◌, refl, ap, ◌∙◌}
use Prim.Native.Nat.{ℕ}
use mir.Syntax.{Dict}
use Rattle.std.specs.declared.clone.Clone
use native.Mathlib.Omega.{arith}
use lib.IntN.{pos, nat_abs}
use lib.ListN.{length, take, drop, replicate, length-drop}
use Rattle.reading.specs.declared.Reading.{Reading}
use Rattle.reading.specs.Years.{usual_base as base}
use Rattle.reading.specs.Offset.{west, east, offset_good}
use Rattle.irig.specs.Offset.{odd_quarter}
use Rattle.irig.specs.Writing.{frame_of, carried_of}
use Rattle.irig.proofs.Worked.{at_offset, at_offset_carried}
use Rattle.irig.proofs.WriteLaws.{length_frame}
use Rattle.streams.specs.Stream.{answers_of, newest_of}
use Rattle.streams.specs.declared.Stepped as of
use Rattle.streams.specs.StandIns.{SilentEver, RestartsAtTwos, RefusesAll, RepeatsFirst, SilentAfterFirst, SilentBefore}
use Rattle.streams.proofs.Contracts as contracts
use Rattle.irig_stream.specs.contracts.Frames.{the_row as format_row}
use Rattle.irig_stream.specs.contracts.FramesFormat100.TheImpl.{ghosts}
use Rattle.irig_stream.proofs.FormatTypes.{fits, format_laws, said_row, said_laws, said_copy}
use Rattle.irig_stream.specs.Said.{PulseReader, kept, owed, Said}
use Rattle.irig_stream.specs.Due.{due}
use Rattle.irig_stream.proofs.FramesTold.{closes_with_mark, frame_told, mark_shared}

-- two times that differ: one wall-clock time at UTC, and half an hour ahead of it
abbrev first : Reading
first = at_offset (pos 0)

abbrev second : Reading
second = at_offset (pos 2)

first_good : carried_of base first ≡ no_fault
unfolding offset_good west east odd_quarter
first_good = at_offset_carried (pos 0) refl refl

second_good : carried_of base second ≡ no_fault
unfolding offset_good west east odd_quarter
second_good = at_offset_carried (pos 2) refl refl

different : second ≡ first → ⊥
different e = let z : ◌≡◌ {A = ℕ} 2 0 = ap (λ (r : Reading). nat_abs r.offset.0) e in omega arith

-- a mark nine pulses before a frame: it can be the frame's start until the mark at the frame's place 9
abbrev stray : List ℕ
stray = 2 ∷ replicate 8 0

-- the answer is the time r
abbrev pub Tells : Said → Reading → Type 0
Tells said r = said ≡ Some (Ok r)

never_both : {said : Said} {r : Reading} → Tells said r → said ≡ None → ⊥
never_both t n = let z : ◌≡◌ {A = ℕ} 0 1 = cc in omega arith

too_few : owed base (2 ∷ []) ≡ None
unfolding owed
too_few = refl

abbrev pub Stepped : Type 0
Stepped = of.Stepped PulseReader Said

-- what a step function says after the last of the pulses that a reader is fed one by one; nothing where none came
abbrev pub answer_by : PulseReader → (PulseReader → ℕ → Stepped) → List ℕ → Said
answer_by fresh step pulses = newest_of None (answers_of (λ s. s.reader) (λ s. s.said) step fresh pulses)

-- the contracts as they are read for this format, whatever tables of functions the checker hands on with it, which no contract reads
module _ (dict : Dict) (clone : Clone.Ghosts Said) (clone-dict : Dict)
    (fresh : ℕ → PulseReader) (step : PulseReader → ℕ → Stepped)
    (starts : contracts.Starts format_row kept said_row format_laws fits said_laws said_copy ghosts dict clone clone-dict fresh)
    (steps : contracts.Steps format_row kept said_row format_laws fits said_laws said_copy ghosts dict clone clone-dict step) where
  meets : (pulses : List ℕ) → answer_by (fresh base) step pulses ≡ owed base pulses
  unfolding owed
  meets = contracts.says_due format_row kept said_row format_laws fits said_laws said_copy ghosts dict clone clone-dict (omega arith) base (due base) fresh step starts steps

  first_told : Tells (answer_by (fresh base) step (frame_of first)) first
  first_told = meets (frame_of first) ∙ frame_told base first first_good []

  second_told : Tells (answer_by (fresh base) step (frame_of first ++ frame_of second)) second
  second_told = meets (frame_of first ++ frame_of second) ∙ frame_told base second second_good (frame_of first)

  pub silent_ever : SilentEver (answer_by (fresh base) step) None → ⊥
  silent_ever silent = never_both first_told (silent (frame_of first))

  pub refuses-all : RefusesAll (answer_by (fresh base) step) Tells → ⊥
  refuses-all none = none (frame_of first) first first_told

  pub repeats_first : RepeatsFirst (answer_by (fresh base) step) Tells → ⊥
  repeats_first same = different (same (frame_of first) (frame_of second) first second first_told second_told)

  pub silent_after_first : SilentAfterFirst (answer_by (fresh base) step) Tells → ⊥
  silent_after_first none = none (frame_of first) (frame_of second) first second first_told (omega (arith, length_frame second)) second_told

  -- none before a hundred more pulses have come
  pub drops_closing_mark : SilentBefore (answer_by (fresh base) step) Tells kept → ⊥
  drops_closing_mark none =
      let rest = drop 1 (frame_of first) in
      let l : length rest ≡ 99 = length-drop 1 (frame_of first) ∙ simp (length_frame first) in
      let t = meets (frame_of first ++ rest) ∙ mark_shared base first first_good [] first in
      none (frame_of first) rest first first first_told (omega arith) (omega arith) t

  pub restarts_at_marks : RestartsAtTwos (answer_by (fresh base) step) → ⊥
  restarts_at_marks forgets =
      never_both first_told (ap (answer_by (fresh base) step) (closes_with_mark first) ∙ forgets (take 99 (frame_of first)) [] ∙ meets (2 ∷ []) ∙ too_few)

  -- "without keeping the older candidate alive": a stray mark nine pulses before a frame makes it miss that frame
  pub loses_older_candidate : ((r : Reading) → answer_by (fresh base) step (stray ++ frame_of r) ≡ None) → ⊥
  loses_older_candidate misses = never_both (meets (stray ++ frame_of first) ∙ frame_told base first first_good stray) (misses first)
