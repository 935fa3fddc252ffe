use Rattle.std.proofs.Common.{◌≡◌, ◌∙◌, List, [], ap}
use Rattle.rm_catalog.specs.{Edits.{after_edits}, declared.record.Edit.{Edit}}
use Rattle.rm_catalog_typed.specs.{Changes.{EditsFollow}, TypedCatalog.{TypedCatalog, records_of}}
use Rattle.rm_machine.specs.{Damage.{without_damaged}, Saving.{with_site}, declared.state.State.{State}}
use Rattle.rm_machine_laws.proofs.Answering.{on-err}
use Rattle.rm_site.proofs.Ending.{err-then, ok-then, puts-site, saves-all, stops-before, stops-saving}
use Rattle.rm_site.proofs.save.save_state.Goals as goal

pub returns-in_err-objects-clause-stopped : goal.returns-in_err-objects-clause-stopped
returns-in_err-objects-clause-stopped g c = on-err _ c.from_residual.result (stops-before (g.D.Store.held c.args.store.now) (g.C.Keeper.kept c.args.keeper.now) c.args.state)

-- the edits of the save lead to the catalog with the saved site
edits : (s : State) (old new made : List Edit) (r : TypedCatalog) → made ≡ new → old ≡ [] → EditsFollow old new s.catalog r → r ≡ with_site (without_damaged s) → after_edits made (records_of s.catalog) ≡ records_of (with_site (without_damaged s))
edits s old new made r is none follow to =
    ap (λ (es : List Edit). after_edits es (records_of s.catalog)) is ∙ follow.lead (records_of s.catalog) (ap (λ (es : List Edit). after_edits es (records_of s.catalog)) none)
    ∙ ap (λ (x : TypedCatalog). records_of x) to

pub returns-clause-saved : goal.returns-clause-saved
returns-clause-saved g c =
    ok-then c.carry_out.result
    (saves-all (g.D.Store.held c.args.store.now) (g.C.Keeper.kept c.args.keeper.now) c.args.state c.requires.unsaved c.requires.ids
    (record { objects = c.in_ok-objects.objects; edits = c.from_vec.result; removes = c.new.result }) c.in_ok-objects.ensures.objects (edits c.args.state _ _ c.from_vec.result _ c.from_vec.ensures c.new-edits.ensures.items c.in_ok-objects.ensures.edits c.in_ok-objects.ensures.catalog) c.new.ensures
    (g.D.Store.held c.carry_out.new.store) (g.C.Keeper.kept c.carry_out.new.keeper))
    c.carry_out.ensures.carried

pub returns-clause-puts : goal.returns-clause-puts
returns-clause-puts g c =
    ok-then c.carry_out.result
    (puts-site (g.D.Store.held c.args.store.now) (g.C.Keeper.kept c.args.keeper.now) c.args.state c.requires.unsaved c.requires.ids
    (record { objects = c.in_ok-objects.objects; edits = c.from_vec.result; removes = c.new.result }) c.in_ok-objects.ensures.objects (edits c.args.state _ _ c.from_vec.result _ c.from_vec.ensures c.new-edits.ensures.items c.in_ok-objects.ensures.edits c.in_ok-objects.ensures.catalog) c.new.ensures
    (g.D.Store.held c.carry_out.new.store) (g.C.Keeper.kept c.carry_out.new.keeper))
    c.carry_out.ensures.carried

pub returns-clause-stopped : goal.returns-clause-stopped
returns-clause-stopped g c =
    err-then c.carry_out.result
    (stops-saving (g.D.Store.held c.args.store.now) (g.C.Keeper.kept c.args.keeper.now) c.args.state c.requires.unsaved c.requires.ids
    (record { objects = c.in_ok-objects.objects; edits = c.from_vec.result; removes = c.new.result }) c.in_ok-objects.ensures.objects (edits c.args.state _ _ c.from_vec.result _ c.from_vec.ensures c.new-edits.ensures.items c.in_ok-objects.ensures.edits c.in_ok-objects.ensures.catalog) c.new.ensures
    (g.D.Store.held c.carry_out.new.store) (g.C.Keeper.kept c.carry_out.new.keeper))
    c.carry_out.ensures.stopped
