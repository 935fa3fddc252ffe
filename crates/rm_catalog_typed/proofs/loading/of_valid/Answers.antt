use Rattle.std.proofs.Common.{◌∙◌, ◌<◌, List, ap, sym, subst, length, slice_get}
use Rattle.rm_history.specs.declared.tree.Incarnation.{Incarnation}
use Rattle.rm_catalog_typed.specs.{Kinds.{Told}, TypedCatalog.{TypedCatalog, records_of}}
use Rattle.rm_catalog_typed.proofs.Wholes.{base-told, records-kept, rules-hold}
use Rattle.rm_catalog_typed.proofs.loading.of_valid.Goals as goal

pub assembled-requires : goal.assembled-requires
assembled-requires c = rules-hold c.args.records.items c.args.tree c.in_ok-kinds.kinds c.in-Some.base c.requires.catalog c.requires.tree c.in_ok-kinds.ensures.told c.in_ok-kinds.ensures.small
    (sym (c.copied.ensures ∙ c.first.ensures.value ∙ ap (λ bs. slice_get bs 0) c.deref.ensures.value ∙ ap (λ (t : Told). slice_get t.bases 0) c.kinds.view_is) ∙ c.in-Some.is)

pub unreachable-requires : goal.unreachable-requires
unreachable-requires c = base-told c.args.records.items c.args.tree c.in_ok-kinds.kinds c.requires.catalog c.requires.tree (subst (λ (t : List Incarnation). 0 < length t) c.tree.view_is c.tree.invariant.some) c.in_ok-kinds.ensures.told
    (sym (c.copied.ensures ∙ c.first.ensures.value ∙ ap (λ bs. slice_get bs 0) c.deref.ensures.value ∙ ap (λ (t : Told). slice_get t.bases 0) c.kinds.view_is) ∙ c.in-None.is)

pub returns : goal.returns
returns c = ap (λ (r : TypedCatalog). records_of r) c.assembled.ensures ∙ records-kept c.args.records.items c.args.tree c.in_ok-kinds.kinds c.in-Some.base c.requires.catalog c.requires.tree c.in_ok-kinds.ensures.told c.in_ok-kinds.ensures.small
    (sym (c.copied.ensures ∙ c.first.ensures.value ∙ ap (λ bs. slice_get bs 0) c.deref.ensures.value ∙ ap (λ (t : Told). slice_get t.bases 0) c.kinds.view_is) ∙ c.in-Some.is)
