-- A number is written as its digits, and the rest behind them.
use native.Mathlib.Omega.{arith}
use mathlib.Core.Path.{refl, ap, ◌∙◌}
use Prim.Native.Nat.{ℕ, ◌+◌}
use Rattle.text.specs.Decimal.{decimal}
use Rattle.listing.proofs.PutLaws.{room_first, then-room, both_written, digits_all, digits_written}
use Rattle.listing.proofs.Page.put_number.Goals as goal

pub overflow_add-self : goal.overflow_add-self
overflow_add-self c =
    let room = room_first (decimal c.args.number) c.args.behind.now c.args.self.now c.requires in
    let all = c.put_decimal.ensures.value ∙ digits_all c.args.number c.args.self.now room in
    omega arith

pub put-requires : goal.put-requires
put-requires c =
    let digits = decimal c.args.number in
    let behind = c.args.behind.now in
    let page = c.args.self.now in
    let room = room_first digits behind page c.requires in
    let p = c.put_decimal.ensures in
    let all = p.value ∙ digits_all c.args.number page room in
    then-room page.end digits behind page.bytes.now c.requires _ _ (ap (λ (k : ℕ). page.end + k) all) p.out_after

pub returns : goal.returns
returns c =
    let digits = decimal c.args.number in
    let behind = c.args.behind.now in
    let page = c.args.self.now in
    let room = room_first digits behind page c.requires in
    let p = c.put_decimal.ensures in
    both_written digits behind page c.requires _ (digits_written c.args.number _ page _ room p.value refl p.out_after refl) _ c.put.ensures
