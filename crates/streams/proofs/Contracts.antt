-- A fresh reader and a step function that meet the contracts of `PulseReader::fresh` and `PulseReader::step`, as the checker reads
-- them off the source for a format, and are run pulse by pulse, say what is owed. T1 is the format's type, T3 that of what it says;
-- what else the checker hands on for these types, the contracts do not read.
use mathlib.Core.List.{List, []}
use mathlib.Core.Path.{◌≡◌, ap, ◌∙◌}
use Prim.Native.Nat.{ℕ, ◌≤◌}
use denote.RattleType.{RattleType}
use denote.Param.Laws.{Laws, IsCopy}
use mir.Val.{Fits}
use mir.Syntax.{w64, Dict}
use Rattle.std.specs.declared.clone.Clone
use Rattle.streams.specs.Stream.{window_of, answers_of, newest_of}
use Rattle.streams.specs.Reader.{filler, unfed, answers}
use Rattle.streams.specs.declared.format.Format
use Rattle.streams.specs.declared.reader.PulseReader.{PulseReader}
use Rattle.streams.specs.declared.reader.Stepped.{Stepped}
use Rattle.streams.proofs.Meets.{Meets}
use Rattle.streams.proofs.Runs.{says_owed}
use Rattle.streams.proofs.Readers.{fresh_says_owed}
use Rattle.streams.proofs.reader.PulseReader.fresh.Kinds as fresh-kinds
use Rattle.streams.proofs.reader.PulseReader.fresh.Reads as fresh-reads
use Rattle.streams.proofs.reader.PulseReader.step.Kinds as step-kinds
use Rattle.streams.proofs.reader.PulseReader.step.Reads as step-reads

module _ (T1 : RattleType) (n : ℕ) (T3 : RattleType) (L1 : Laws T1) (F2 : Fits w64 n) (L3 : Laws T3) (C3 : IsCopy T3)
    (format : Format.Ghosts T1.Denot n T3.Denot) (dict : Dict) (clone : Clone.Ghosts T3.Denot) (clone-dict : Dict) where
  abbrev pub Reader : Type 0
  Reader = PulseReader T1.Denot n

  -- it meets the contract of `fresh`
  abbrev pub Starts : (ℕ → Reader) → Type 0
  Starts fresh =
      Meets 3 (fresh-kinds.ps T1 n T3 L1 F2 L3 C3) (fresh-kinds.r T1 n T3 L1 F2 L3 C3)
      (fresh-reads.Post T1 n T3 L1 F2 L3 C3 format dict clone clone-dict) (λ κs a. fresh a.0)

  -- it meets the contract of `step`
  abbrev pub Steps : (Reader → ℕ → Stepped Reader T3.Denot) → Type 0
  Steps step =
      Meets 3 (step-kinds.ps T1 n T3 L1 F2 L3 C3) (step-kinds.r T1 n T3 L1 F2 L3 C3)
      (step-reads.Post T1 n T3 L1 F2 L3 C3 format dict clone clone-dict) (λ κs a. step a.0 a.1.0)

  module _ (one : 1 ≤ n) (base : ℕ) (due : (h : List ℕ) → format.say_of base (window_of n filler h) ≡ format.owed base h)
      (fresh : ℕ → Reader) (step : Reader → ℕ → Stepped Reader T3.Denot) (starts : Starts fresh) (steps : Steps step) where
    pub says_due : (pulses : List ℕ)
        → newest_of (format.owed base []) (answers_of (λ s. s.reader) (λ s. s.said) step (fresh base) pulses) ≡ format.owed base pulses
    unfolding answers
    says_due pulses =
        ap (λ (reader : Reader). newest_of (format.owed base []) (answers_of (λ s. s.reader) (λ s. s.said) step reader pulses))
        (starts ([], ([], ([], tt))) (base, tt) (base, tt))
        ∙ says_owed (λ s. s.reader) (λ s. s.said) step _ (λ reader pulse. steps ([], ([], ([], tt))) (reader, (pulse, tt)) (reader, (pulse, tt)))
        (format.owed base) (unfed T1.Denot n base) (fresh_says_owed T1.Denot n one format.say_of base (format.owed base) due) pulses
