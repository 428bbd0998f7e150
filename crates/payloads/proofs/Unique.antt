-- Any two answers that a public function's contract allows coincide. Over the contracts themselves.
use Rattle.laws.proofs.Coincide.{Coincide}
use Rattle.payloads.proofs.flag_at.Reads as flag-at-reads
use Rattle.payloads.proofs.flag_at.Kinds as flag-at-kinds
use Rattle.payloads.proofs.pair_at.Reads as pair-at-reads
use Rattle.payloads.proofs.pair_at.Kinds as pair-at-kinds
use Rattle.payloads.proofs.reading_in.Reads as reading-in-reads
use Rattle.payloads.proofs.reading_in.Kinds as reading-in-kinds
use Rattle.payloads.proofs.telegrams.rule_in.Reads as rule-in-reads
use Rattle.payloads.proofs.telegrams.rule_in.Kinds as rule-in-kinds
use Rattle.payloads.proofs.telegrams.sent_in.Reads as sent-in-reads
use Rattle.payloads.proofs.telegrams.sent_in.Kinds as sent-in-kinds
use Rattle.payloads.proofs.telegrams.leap_in.Reads as leap-in-reads
use Rattle.payloads.proofs.telegrams.leap_in.Kinds as leap-in-kinds
use Rattle.payloads.proofs.telegrams.sender_in.Reads as sender-in-reads
use Rattle.payloads.proofs.telegrams.sender_in.Kinds as sender-in-kinds
use Rattle.payloads.proofs.way.way_in.Reads as way-in-reads
use Rattle.payloads.proofs.way.way_in.Kinds as way-in-kinds

pub flag_at_one : Coincide 1 flag-at-kinds.ps flag-at-kinds.r flag-at-reads.Post
flag_at_one κs a x y e f p q = cc

pub pair_at_one : Coincide 1 pair-at-kinds.ps pair-at-kinds.r pair-at-reads.Post
pair_at_one κs a x y e f p q = cc

pub reading_in_one : Coincide 1 reading-in-kinds.ps reading-in-kinds.r reading-in-reads.Post
reading_in_one κs a x y e f p q = cc

pub rule_in_one : Coincide 1 rule-in-kinds.ps rule-in-kinds.r rule-in-reads.Post
rule_in_one κs a x y e f p q = cc

pub sent_in_one : Coincide 1 sent-in-kinds.ps sent-in-kinds.r sent-in-reads.Post
sent_in_one κs a x y e f p q = cc

pub leap_in_one : Coincide 1 leap-in-kinds.ps leap-in-kinds.r leap-in-reads.Post
leap_in_one κs a x y e f p q = cc

pub sender_in_one : Coincide 1 sender-in-kinds.ps sender-in-kinds.r sender-in-reads.Post
sender_in_one κs a x y e f p q = cc

pub way_in_one : Coincide 1 way-in-kinds.ps way-in-kinds.r way-in-reads.Post
way_in_one κs a x y e f p q = cc
