-- Of `answer_after`, and of `say` and `nothing` of `Frames`: any two answers that its contract allows coincide. Of a reader's `fresh` and
-- `step`: `streams`' Unique, for every format.
use Rattle.laws.proofs.Coincide.{Coincide}
use Rattle.irig_stream.proofs.answer_after.Kinds as answer-after-kinds
use Rattle.irig_stream.proofs.answer_after.Reads as answer-after-reads
use Rattle.irig_stream.proofs.FramesFormat100.nothing.Kinds as nothing-kinds
use Rattle.irig_stream.proofs.FramesFormat100.nothing.Reads as nothing-reads
use Rattle.irig_stream.proofs.FramesFormat100.say.Kinds as say-kinds
use Rattle.irig_stream.proofs.FramesFormat100.say.Reads as say-reads

pub answer_after_one : Coincide 1 answer-after-kinds.ps answer-after-kinds.r answer-after-reads.Post
answer_after_one κs a x y e f p q = cc

pub nothing_one : Coincide 0 nothing-kinds.ps nothing-kinds.r nothing-reads.Post
nothing_one κs a x y e f p q = cc

pub say_one : Coincide 1 say-kinds.ps say-kinds.r say-reads.Post
say_one κs a x y e f p q = cc
