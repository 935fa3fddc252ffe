use Rattle.std.proofs.{Common.{◌∙◌, rules}, lemmas.List.Sorted.{answers_always}}
use Rattle.rm_base.specs.declared.block.Row.{Row}
use Rattle.rm_plan.proofs.Listed.{listed}
use Rattle.rm_plan.proofs.cover.does_list.Goals as goal

pub returns : goal.returns
returns c =
    let facts = c.binary_search_by_key.ensures in
    let by_key = facts.position (λ (r : Row). r.block) (answers_always _ _ _ (λ f a r g called. search rules)) in
    c.is_ok.ensures.value ∙ listed c.args.rows.now c.requires.ascending c.args.block c.binary_search_by_key.result facts.bound by_key
