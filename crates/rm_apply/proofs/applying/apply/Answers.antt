use Rattle.std.proofs.Common.{◌≡◌, ◌∙◌, List, ap, map, subst, sym}
use Rattle.rm_base.specs.declared.block.Row.{Row}
use Rattle.rm_blocks.specs.File.{File, IsInOrder}
use Rattle.rm_channel.{specs.Applied.{row_of}, proofs.Parts.{parts-ascend, taken-on}}
use Rattle.rm_apply.proofs.applying.apply.Goals as goal

pub apply_in_order-requires-clause-order : goal.apply_in_order-requires-clause-order
apply_in_order-requires-clause-order g c κs lives = parts-ascend c.args.plan.parts c.as_slice.result.now c.requires.order c.as_slice.ensures

pub from_rows-requires : goal.from_rows-requires
from_rows-requires g c =
    let plan = c.args.plan in
    let lent = c.as_mut_slice in
    let is : c.from_vec.result ≡ map row_of plan.parts =
    c.from_vec.ensures ∙ taken-on plan.parts c.as_slice.result.now plan.rows.items lent.result.now c.apply_in_order.new.rows plan.rows.len c.requires.order c.requires.rows c.as_slice.ensures lent.ensures.value lent.ensures.len c.apply_in_order.ensures
    in
    subst IsInOrder (sym is) c.requires.order

pub returns : goal.returns
returns g c =
    let plan = c.args.plan in
    let lent = c.as_mut_slice in
    let is : c.from_vec.result ≡ map row_of plan.parts =
    c.from_vec.ensures ∙ taken-on plan.parts c.as_slice.result.now plan.rows.items lent.result.now c.apply_in_order.new.rows plan.rows.len c.requires.order c.requires.rows c.as_slice.ensures lent.ensures.value lent.ensures.len c.apply_in_order.ensures
    in
    let file : List Row → File = λ rows. record { file = plan.number; inc = c.args.i; checkpoint = c.args.s; rows = rows } in
    c.from_rows.ensures ∙ ap file is
