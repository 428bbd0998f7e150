-- Of each public function of `streams`: any two answers that its contract allows coincide, for every format.
use Prim.Native.Nat.{ℕ}
use denote.RattleType.{RattleType}
use denote.Param.Laws.{Laws, IsCopy}
use mir.Val.{Fits}
use mir.Syntax.{w64, Dict}
use Rattle.std.specs.declared.clone.Clone
use Rattle.laws.proofs.Coincide.{Coincide}
use Rattle.streams.specs.declared.format.Format
use Rattle.streams.proofs.ring.place_of.Kinds as place-of-kinds
use Rattle.streams.proofs.ring.place_of.Reads as place-of-reads
use Rattle.streams.proofs.ring.unrolled.Kinds as unrolled-kinds
use Rattle.streams.proofs.ring.unrolled.Reads as unrolled-reads
use Rattle.streams.proofs.reader.PulseReader.fresh.Kinds as fresh-kinds
use Rattle.streams.proofs.reader.PulseReader.fresh.Reads as fresh-reads
use Rattle.streams.proofs.reader.PulseReader.step.Kinds as step-kinds
use Rattle.streams.proofs.reader.PulseReader.step.Reads as step-reads
use Rattle.streams.proofs.reader.PulseReader.answer_after.Kinds as answer-after-kinds
use Rattle.streams.proofs.reader.PulseReader.answer_after.Reads as answer-after-reads

module _ (T1 : RattleType) (n : ℕ) (T3 : RattleType) (L1 : Laws T1) (F2 : Fits w64 n) (L3 : Laws T3) (C3 : IsCopy T3)
    (format : Format.Ghosts T1.Denot n T3.Denot) (dict : Dict) (clone : Clone.Ghosts T3.Denot) (clone-dict : Dict) where
  pub fresh_one : Coincide 3 (fresh-kinds.ps T1 n T3 L1 F2 L3 C3) (fresh-kinds.r T1 n T3 L1 F2 L3 C3) (fresh-reads.Post T1 n T3 L1 F2 L3 C3 format dict clone clone-dict)
  fresh_one κs a x y e f p q = cc

  pub step_one : Coincide 3 (step-kinds.ps T1 n T3 L1 F2 L3 C3) (step-kinds.r T1 n T3 L1 F2 L3 C3) (step-reads.Post T1 n T3 L1 F2 L3 C3 format dict clone clone-dict)
  step_one κs a x y e f p q = cc

  pub answer_after_one : Coincide 4 (answer-after-kinds.ps T1 n T3 L1 F2 L3 C3) (answer-after-kinds.r T1 n T3 L1 F2 L3 C3) (answer-after-reads.Post T1 n T3 L1 F2 L3 C3 format dict clone clone-dict)
  answer_after_one κs a x y e f p q = cc

module _ (n : ℕ) (F : Fits w64 n) where
  pub place_of_one : Coincide 1 (place-of-kinds.ps n F) (place-of-kinds.r n F) (place-of-reads.Post n F)
  place_of_one κs a x y e f p q = cc

  pub unrolled_one : Coincide 2 (unrolled-kinds.ps n F) (unrolled-kinds.r n F) (unrolled-reads.Post n F)
  unrolled_one κs a x y e f p q = cc
