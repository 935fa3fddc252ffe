use Rattle.std.{specs.Option.{option_map}, proofs.{Common.{rules, tests, ◌≡◌, ◌∙◌, ℕ, nat_le}, lemmas.Iterator.{YieldsList-from_slice}}}
use Rattle.std.proofs.lemmas.Iterator.Search.{find_from_yields_List}
use Rattle.rm_step_repair.proofs.refusing.absent_block.Goals as goal

pub returns : goal.returns
returns c =
    let copied : c.copied.result ≡ option_map (λ x. x.now) c.find.result = search rules in
    copied ∙ find_from_yields_List (λ (b : ℕ). nat_le c.args.datafile.now.blocks b) _ _ c.find.result c.find.ensures.ran (YieldsList-from_slice c.args.blocks.now cc) (λ x r q k. search (rules, tests))
