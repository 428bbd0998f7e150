-- Of each public function of `summer`: any two answers that its contract allows coincide.
use Rattle.laws.proofs.Coincide.{Coincide}
use Rattle.summer.proofs.changes.is_summer.Kinds as is-summer-kinds
use Rattle.summer.proofs.changes.is_summer.Reads as is-summer-reads
use Rattle.summer.proofs.changes.announces_change.Kinds as announces-change-kinds
use Rattle.summer.proofs.changes.announces_change.Reads as announces-change-reads
use Rattle.summer.proofs.rules.rule_bad.Kinds as rule-bad-kinds
use Rattle.summer.proofs.rules.rule_bad.Reads as rule-bad-reads

pub is_summer_one : Coincide 0 is-summer-kinds.ps is-summer-kinds.r is-summer-reads.Post
is_summer_one κs a x y e f p q = cc

pub announces_change_one : Coincide 0 announces-change-kinds.ps announces-change-kinds.r announces-change-reads.Post
announces_change_one κs a x y e f p q = cc

pub rule_bad_one : Coincide 0 rule-bad-kinds.ps rule-bad-kinds.r rule-bad-reads.Post
rule_bad_one κs a x y e f p q = cc
