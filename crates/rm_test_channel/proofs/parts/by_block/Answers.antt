use Rattle.std.proofs.{Common.{rules}, lemmas.List.Sorted.{IsNonDecreasingBy-from_sort_by_key}}
use Rattle.rm_base.specs.declared.block.Part.{Part}
use Rattle.rm_test_channel.proofs.parts.by_block.Goals as goal

pub returns : goal.returns
returns c = IsNonDecreasingBy-from_sort_by_key (λ (p : Part). p.block) _ c.in_ok-sort_by_key.ensures.sorted (λ a r q k. search rules)
