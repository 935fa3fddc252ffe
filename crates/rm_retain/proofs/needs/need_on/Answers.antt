use Rattle.std.proofs.Common.{◌∙◌, List, sym, subst}
use Rattle.rm_retain.{specs.{Chosen.{AscendById}, declared.copies.Backup.{Backup}}, proofs.Ranks.{candidates_ascend}}
use Rattle.rm_retain.proofs.needs.need_on.Goals as goal

pub floor_on-requires : goal.floor_on-requires
floor_on-requires c = record {
  ascend = subst (λ (xs : List Backup). AscendById xs) (sym (c.deref.ensures.value ∙ c.in_ok-among.ensures)) (candidates_ascend c.tree.result.now c.current_of-current.result c.args.policy c.args.start c.args.file c.args.copies.now c.requires.ascend);
}

pub newest_ids-requires : goal.newest_ids-requires
newest_ids-requires c = record {
  ascend = subst (λ (xs : List Backup). AscendById xs) (sym (c.deref-2.ensures.value ∙ c.in_ok-among.ensures)) (candidates_ascend c.tree.result.now c.current_of-current.result c.args.policy c.args.start c.args.file c.args.copies.now c.requires.ascend);
}
