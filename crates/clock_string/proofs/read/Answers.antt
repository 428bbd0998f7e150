-- `clock_string::read` meets its contract: what both strings are refused for first, then the length picks the string. Assumes nothing.
use mathlib.Core.Bool.{true, not}
use mathlib.Core.Logic.{◌⊎◌}
use mathlib.Core.Path.{◌≡◌, ap, ◌∙◌}
use lib.ListN.{length}
use Rattle.std.proofs.Common.{rules}
use Rattle.laws.proofs.Bools.{failed, passed}
use Rattle.reading.specs.Years.{is_base}
use Rattle.meinberg.specs.Layout.{text_length}
use Rattle.erlangen.specs.Layout.{size}
use Rattle.clock_string.proofs.ReadLaws.{at_32, at_other, one-length, no_length, other_base_lem, other_start}
use Rattle.clock_string.proofs.read.Goals as goal

pub returns-then-not-is_length : goal.returns-then-not-is_length
returns-then-not-is_length c = rw (no_length c.args.base c.args.s.now (failed c.is_length.ensures (ap not c.if-not-is_length.true))) (search rules)

pub returns-then-not-is_base : goal.returns-then-not-is_base
returns-then-not-is_base c =
    let its-length : let s = c.args.s.now in (length s ≡ text_length) ⊎ (length s ≡ size) = one-length _ (passed c.is_length.ensures (ap not c.if-not-is_length.false)) in
    rw (other_base_lem c.args.base c.args.s.now its-length (failed c.is_base.ensures (ap not c.if-not-is_base.true))) (search rules)

pub returns-then-byte_at-ne-STX : goal.returns-then-byte_at-ne-STX
returns-then-byte_at-ne-STX c =
    let its-length : let s = c.args.s.now in (length s ≡ text_length) ⊎ (length s ≡ size) = one-length _ (passed c.is_length.ensures (ap not c.if-not-is_length.false)) in
    let its-base : is_base c.args.base ≡ true = passed c.is_base.ensures (ap not c.if-not-is_base.false) in
    rw (other_start c.args.base c.args.s.now its-length its-base (λ z. c.if-byte_at-ne-STX.true (c.byte_at.ensures ∙ z))) (search rules)

pub returns-in_err-reading : goal.returns-in_err-reading
returns-in_err-reading c = rw (at_32 c.args.base c.args.s.now c.if-s-eq-LENGTH.true) (search rules)

pub returns-then-s-eq-LENGTH : goal.returns-then-s-eq-LENGTH
returns-then-s-eq-LENGTH c = rw (at_32 c.args.base c.args.s.now c.if-s-eq-LENGTH.true) (search rules)

pub returns-in_err-reading-2 : goal.returns-in_err-reading-2
returns-in_err-reading-2 c =
    let its-length : let s = c.args.s.now in (length s ≡ text_length) ⊎ (length s ≡ size) = one-length _ (passed c.is_length.ensures (ap not c.if-not-is_length.false)) in
    rw (at_other c.args.base c.args.s.now its-length c.if-s-eq-LENGTH.false) (search rules)

pub returns : goal.returns
returns c =
    let its-length : let s = c.args.s.now in (length s ≡ text_length) ⊎ (length s ≡ size) = one-length _ (passed c.is_length.ensures (ap not c.if-not-is_length.false)) in
    rw (at_other c.args.base c.args.s.now its-length c.if-s-eq-LENGTH.false) (search rules)
