use Rattle.std.{specs.List.{list_any}, proofs.Common.{◌∙◌, List, sym, subst, ap}}
use Rattle.rm_history.specs.declared.tree.Incarnation.{Incarnation}
use Rattle.rm_retain.{specs.{Obsolete.{IsClip}, Needs.{needs_clip}, declared.file_need.FileNeed.{FileNeed}}, proofs.Decisions.{log_is}}
use Rattle.rm_retain.proofs.deciding.is_obsolete_log.Goals as goal

pub returns-then-may_go : goal.returns-then-may_go
returns-then-may_go c =
    let l = c.args.log.now in
    let x = c.args.needs.now in
    log_is c.args.catalog.now x c.requires.needs l.inc l.next c.clip-clip.result l.keep c.needs_log.result
    (subst (λ (tree : List Incarnation). IsClip tree x.current l.inc l.next c.clip-clip.result) c.tree.ensures c.clip-clip.ensures)
    (c.may_go.ensures.0 c.if-may_go.true)
    (sym (c.needs_log.ensures ∙ ap (λ (xs : List FileNeed). list_any (needs_clip c.clip-clip.result) xs) c.deref.ensures.value))
