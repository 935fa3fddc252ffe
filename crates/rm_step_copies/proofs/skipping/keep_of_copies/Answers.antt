use Rattle.std.proofs.{Common.{◌∙◌, rules, ℕ, List, ap, filter}, lemmas.Fn.{filter_same}}
use Rattle.rm_base.specs.declared.kinds.Bad.{Bad}
use Rattle.rm_step_copies.specs.Skipped.{is_of_copies}
use Rattle.rm_step_copies.proofs.skipping.keep_of_copies.Goals as goal

pub returns : goal.returns
returns c =
    let s = c.args.state.now in
    let tag = c.args.tag.now in
    c.from_vec.ensures
    ∙ filter_same _ (λ x. is_of_copies s tag x.0) _ (λ x b q k. search rules) c.into_vec-kept.result.items c.retain.new.self.items c.retain.ensures.filtered
    ∙ ap (λ (xs : List (ℕ × Bad)). filter (λ x. is_of_copies s tag x.0) xs) c.into_vec-kept.ensures
