use Rattle.std.proofs.{Common.{◌∙◌, ap}, lemmas.List.Filters.{dedup_is}}
use Rattle.rm_lang_statement.specs.Named.{in_order}
use Rattle.rm_lang_reading.proofs.InOrder.{in_order-sorted}
use Rattle.rm_lang_reading.proofs.backup.in_order.Goals as goal

pub returns : goal.returns
returns c =
    let once = dedup_is _ _ _ c.dedup.ensures.filtered in
    let sorted = c.sort_unstable.ensures in
    c.from_vec.ensures ∙ once ∙ in_order-sorted _ _ sorted.permutation sorted.sorted ∙ ap in_order c.into_vec-numbers.ensures
