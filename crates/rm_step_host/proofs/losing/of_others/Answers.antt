use Rattle.std.proofs.{Common.{rules, ◌∙◌, ◌==◌, List, ap, filter, not}, lemmas.Fn.{filter_same}}
use Rattle.rm_base.specs.declared.block.BlockId.{BlockId}
use Rattle.rm_step_host.proofs.losing.of_others.Goals as goal

pub returns : goal.returns
returns c =
    let f = c.args.file in
    c.from_vec.ensures
    ∙ filter_same _ (λ x. not (x.file == f)) _ (λ x b q k. search rules) c.into_vec-damaged.result.items c.retain.new.self.items c.retain.ensures.filtered
    ∙ ap (λ (xs : List BlockId). filter (λ x. not (x.file == f)) xs) c.into_vec-damaged.ensures
