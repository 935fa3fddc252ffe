use Rattle.std.proofs.Common.{◌∙◌, List, sym, subst}
use Rattle.rm_retain.{specs.{Chosen.{Ascend, AscendById}, declared.copies.Backup.{Backup}}, proofs.Ranks.{candidates_ascend}}
use Rattle.rm_retain.proofs.needs.chosen.Goals as goal

pub newest_ids-requires : goal.newest_ids-requires
newest_ids-requires c = record {
  ascend =
      let copies = c.deref.result.now in
      let ascend : Ascend copies = subst (λ (xs : List Backup). Ascend xs) (sym (c.deref.ensures.value ∙ c.in_ok-copies.ensures)) c.requires.ascend in
      subst (λ (xs : List Backup). AscendById xs) (sym (c.deref-2.ensures.value ∙ c.in_ok-among.ensures)) (candidates_ascend c.tree.result.now c.current_of-current.result c.args.policy c.args.start c.args.file copies ascend);
}
