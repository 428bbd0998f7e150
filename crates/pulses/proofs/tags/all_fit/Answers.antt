-- `pulses::tags::all_fit` meets its contract: after each turn one pulse more is judged. Assumes nothing.
use Rattle.pulses.proofs.TagLaws.{fit_none, fit_next}
use Rattle.pulses.proofs.ZipLaws.{turn_at}
use Rattle.pulses.proofs.tags.all_fit.Goals as goal

pub loop-tag-init : goal.loop-tag-init
loop-tag-init c = fit_none _ _ _

pub loop-tag-preserved : goal.loop-tag-preserved
loop-tag-preserved c =
    let l = c.loop-tag in
    let z = turn_at c.args.tags.now c.args.pulses.now l.yielded c.into_iter-tag-iterator.result l.tag-iterator c.next.new.self c.next.result _
    (cc) (cc) l.yielded_by c.in-Some.is c.next.ensures.steps in
    fit_next _ _ _ _ _ _ _ _ z l.invariant c.fits_tag-good.ensures
