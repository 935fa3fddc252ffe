use Rattle.std.proofs.Common.{◌≡◌, ◌∙◌, ap, sym, subst}
use Rattle.rm_catalog.specs.declared.record.BaseEntry.{BaseEntry}
use Rattle.rm_catalog_typed.specs.{Changes.{with_base, with_saved}, Facts.{IsSaved}, Fitting.{FitsBase}, TypedCatalog.{TypedCatalog}}
use Rattle.rm_machine.specs.{Saving.{saved_of}, declared.state.State.{State}}
use Rattle.rm_session.proofs.Sites.{base-drawn, base-is, objects-is, site-fits, site-is, with_ids_drawn}
use Rattle.rm_session.proofs.saving.put_all.Goals as goal

pub set_base-requires : goal.set_base-requires
set_base-requires c =
    let s : State = c.args.state.now in
    record {
      fits = subst (λ (b : BaseEntry). FitsBase s.catalog b) (sym (base-is s c.base.result c.in_ok-parts.parts c.base.ensures.value c.in_ok-parts.ensures)) (base-drawn s c.requires.sound c.requires.ids);
    }

pub set_saved-requires-clause-fits : goal.set_saved-requires-clause-fits
set_saved-requires-clause-fits c =
    let s : State = c.args.state.now in
    let drawn : c.set_base.new.self ≡ with_ids_drawn s = c.in_ok-set_base.ensures.after ∙ ap (with_base s.catalog) (base-is s c.base.result c.in_ok-parts.parts c.base.ensures.value c.in_ok-parts.ensures) in
    let site : c.new.result ≡ saved_of s = site-is s c.new.result c.in_ok-parts.parts c.head_of-head.result c.in_ok-parts.ensures c.new.ensures.parts c.new.ensures.head c.head_of-head.ensures in
    subst (λ (r : TypedCatalog). IsSaved r.ledger c.new.result) (sym drawn) (subst (IsSaved (with_ids_drawn s).ledger) (sym site) (site-fits s c.requires.sound c.requires.ids))

pub returns-clause-objects : goal.returns-clause-objects
returns-clause-objects c = objects-is c.args.state.now c.in_ok-parts.parts c.in_ok-parts.ensures

pub returns-clause-catalog : goal.returns-clause-catalog
returns-clause-catalog c =
    let s : State = c.args.state.now in
    let drawn : c.set_base.new.self ≡ with_ids_drawn s = c.in_ok-set_base.ensures.after ∙ ap (with_base s.catalog) (base-is s c.base.result c.in_ok-parts.parts c.base.ensures.value c.in_ok-parts.ensures) in
    let site : c.new.result ≡ saved_of s = site-is s c.new.result c.in_ok-parts.parts c.head_of-head.result c.in_ok-parts.ensures c.new.ensures.parts c.new.ensures.head c.head_of-head.ensures in
    c.in_ok-set_saved.ensures.after ∙ ap (λ (r : TypedCatalog). with_saved r c.new.result) drawn ∙ ap (with_saved (with_ids_drawn s)) site
