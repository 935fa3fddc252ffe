use Rattle.std.{specs.List.{list_any}, proofs.Common.{◌∙◌, List, sym, subst, ap}}
use Rattle.rm_history.specs.declared.tree.Incarnation.{Incarnation}
use Rattle.rm_retain.specs.{Obsolete.{IsClip}, Needs.{needs_backup}, declared.file_need.FileNeed.{FileNeed}}
use Rattle.rm_retain.proofs.Decisions.{needless_is}
use Rattle.rm_retain.proofs.deciding.is_needless.Goals as goal

pub returns : goal.returns
returns c =
    let b = c.args.copy in
    let x = c.args.needs.now in
    needless_is c.args.catalog.now x c.requires.needs b c.clip-clip.result c.needs_backup.result
    (subst (λ (tree : List Incarnation). IsClip tree x.current b.inc b.high c.clip-clip.result) c.tree.ensures c.clip-clip.ensures)
    (sym (c.needs_backup.ensures ∙ ap (λ (xs : List FileNeed). list_any (needs_backup b.file b.id c.clip-clip.result) xs) c.deref.ensures.value))
