use Rattle.std.proofs.{Common.{◌≡◌, ◌∙◌, rules, List, ap, filter, not}, lemmas.Fn.{filter_same}}
use Rattle.rm_base.specs.declared.block.BlockId.{BlockId}
use Rattle.rm_machine.specs.BlockRecover.{asks_for}
use Rattle.rm_step_repair.proofs.blocks.take_off.Goals as goal

pub returns : goal.returns
returns c =
    let s = c.args.state.now in
    let form = c.args.form.now in
    let was : c.into_vec-damaged.result.items ≡ s.instance.damaged = search rules in
    let damaged =
    c.from_vec.ensures
    ∙ filter_same _ (λ (x : BlockId). not (asks_for form x)) _ (λ x b q k. search rules) c.into_vec-damaged.result.items c.retain.new.self.items c.retain.ensures.filtered
    ∙ ap (filter (λ (x : BlockId). not (asks_for form x))) was in
    ap (λ (xs : List BlockId). record s { instance = record s.instance { damaged = xs } }) damaged
