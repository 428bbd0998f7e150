-- `erlangen::writing::lay` meets its contract. Assumes nothing.
use Rattle.erlangen.proofs.BytesLaws.{laid}
use Rattle.erlangen.proofs.writing.lay.Goals as goal

pub returns : goal.returns
returns c =
    laid c.args.r c.args.coasting c.args.position.now c.requires.0 c.args.out.now c.requires.1
    c.date_bytes.ensures c.time_bytes.ensures c.offset_bytes.ensures c.flag_bytes.ensures
    c.put_at.ensures.out_after c.put_at-2.ensures.out_after c.put_at-3.ensures.out_after c.put_at-4.ensures.out_after c.put_at-5.ensures.out_after c.put_at-6.ensures.out_after
