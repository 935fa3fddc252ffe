use Rattle.std.proofs.{Common.{◌∙◌, List, [], ◌∷◌, ◌++◌, ap, sym}, lemmas.List.{append_assoc, Elements.{All-push}}}
use Rattle.rm_catalog.specs.declared.record.Record.{Record}
use Rattle.rm_catalog_typed.{specs.Kinds.{IsSmall, with_record}, proofs.Takes.{told-more}}
use Rattle.rm_catalog_typed.proofs.loading.sorted.Goals as goal

pub loop-record-preserved : goal.loop-record-preserved
loop-record-preserved c =
    let inv = c.loop-record.invariant in (
      c.in_ok-take.ensures.taken ∙ ap (with_record c.in-Some.record) inv.0 ∙ sym (told-more c.loop-record.yielded c.in-Some.record),
      inv.1 ∙ ap (λ (x : List Record). c.loop-record.yielded ++ x) c.in-Some.ensures.steps.0 ∙ sym (append_assoc c.loop-record.yielded (c.in-Some.record ∷ []) _),
      All-push IsSmall c.loop-record.yielded c.in-Some.record inv.2 c.take.ensures.small,
    )
