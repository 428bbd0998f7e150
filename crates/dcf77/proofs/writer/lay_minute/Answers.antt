-- `dcf77::writer::lay_minute` meets its contract: the three parity marks are stored after the others. Assumes nothing.
use Rattle.std.proofs.Common.{rules, arith}
use mathlib.Core.Path.{◌≡◌, sym, ◌∙◌}
use lib.ListN.{length, length-set}
use Rattle.pulses.specs.Row.{groups}
use Rattle.dcf77.proofs.ParityLaws.{unfit_same, room_laid, mended}
use Rattle.dcf77.proofs.writer.lay_minute.Goals as goal

pub returns-then-not-lay : goal.returns-then-not-lay
returns-then-not-lay c =
    let a = c.args in
    c.lay.ensures.out_after ∙ unfit_same a.long _ _ a.out.now (sym c.lay.ensures.value ∙ c.if-not-lay.true)

pub bounds-out-28 : goal.bounds-out-28
bounds-out-28 c =
    let a = c.args in
    let room = room_laid _ a.long a.plain a.out.now _ c.lay.ensures.value c.if-not-lay.false c.lay.ensures.out_after in
    omega (arith, room.1)

pub bounds-out-35 : goal.bounds-out-35
bounds-out-35 c =
    let a = c.args in
    let room = room_laid _ a.long a.plain a.out.now _ c.lay.ensures.value c.if-not-lay.false c.lay.ensures.out_after in
    simp length-set (omega (arith, room.1))

pub bounds-out-58 : goal.bounds-out-58
bounds-out-58 c =
    let a = c.args in
    let room = room_laid _ a.long a.plain a.out.now _ c.lay.ensures.value c.if-not-lay.false c.lay.ensures.out_after in
    simp length-set (omega (arith, room.1))

pub returns : goal.returns
returns c =
    let a = c.args in
    let room = room_laid _ a.long a.plain a.out.now _ c.lay.ensures.value c.if-not-lay.false c.lay.ensures.out_after in
    let long : length a.plain ≡ groups = search rules in
    mended a.long a.plain a.out.now c.lay.new.out c.evened-minute.result c.evened-hour.result c.evened-date.result
    long room.0 c.lay.ensures.out_after c.evened-minute.ensures c.evened-hour.ensures c.evened-date.ensures
