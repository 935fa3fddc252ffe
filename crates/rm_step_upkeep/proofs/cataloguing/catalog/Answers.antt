use Rattle.std.{specs.Prelude.{IfNone, IfSome}, proofs.Common.{◌≡◌, ◌∙◌, ◌∷◌, [], ℕ, None, Some, ap, subst, sym}}
use Rattle.rm_machine.specs.{CatalogName.{IsNamed, catalog_by}, Sound.{IsSound}}
use Rattle.rm_report.specs.declared.line.Line.TheVariants.{Catalogued}
use Rattle.rm_step_upkeep.specs.Catalogued.{Finds, IsOf, refusal_by}
use Rattle.rm_step_upkeep.proofs.Recorded.{absent-refused, asked-ids, can-be-recorded, found-hands, found-refused, recorded-sound, unnamed-refused}
use Rattle.rm_step_upkeep.proofs.cataloguing.catalog.Goals as goal

pub returns-in_default-clause-refuses : goal.returns-in_default-clause-refuses
returns-in_default-clause-refuses g c =
    let none = coe 0 1 (i. IfNone (c.in_default.is i) ((id : ℕ) → ¬ IsNamed (c.as_str.ensures i) id)) c.in_ok-named.ensures.none in
    unnamed-refused (g.D.Store.held c.args.store.now) c.args.state.now c.args.name.now c.in_ok-absent_refusal.field-0 none c.in_ok-absent_refusal.ensures.value

pub returns-in_default-2-clause-refuses : goal.returns-in_default-2-clause-refuses
returns-in_default-2-clause-refuses g c =
    let held = g.D.Store.held c.args.store.now in
    let s = c.args.state.now in
    let name = c.args.name.now in
    let named = coe 0 1 (i. IfSome (c.in-Some.is i) (IsOf (c.as_str.ensures i))) c.in_ok-named.ensures.some in
    absent-refused held s name c.in-Some.named c.in_ok-absent_refusal-2.field-0 named (subst (Finds held s name) c.in_default-2.is c.in_ok-entry.ensures.finds)
    (c.in_ok-absent_refusal-2.ensures.value ∙ ap (λ n. catalog_by s name n None) c.id.ensures)

pub returns-in-Some-3-clause-refuses : goal.returns-in-Some-3-clause-refuses
returns-in-Some-3-clause-refuses g c =
    let held = g.D.Store.held c.args.store.now in
    let s = c.args.state.now in
    let name = c.args.name.now in
    let found = subst (Finds held s name) c.in-Some-2.is c.in_ok-entry.ensures.finds in
    let is : refusal_by s name c.in-Some-2.entry ≡ Some c.in-Some-3.refusal = sym c.in_ok-refusal.ensures ∙ c.in-Some-3.is in
    found-refused held s name c.in-Some-2.entry found c.in-Some-3.refusal is

pub put-requires : goal.put-requires
put-requires g c =
    let held = g.D.Store.held c.args.store.now in
    let s = c.args.state.now in
    let name = c.args.name.now in
    let found = subst (Finds held s name) c.in-Some-2.is c.in_ok-entry.ensures.finds in
    let accepted : refusal_by s name c.in-Some-2.entry ≡ None = sym c.in_ok-refusal.ensures ∙ c.in_default-3.is in
    can-be-recorded held s name c.in-Some-2.entry found accepted c.requires.sound c.requires.unsaved

pub returns-clause-hands : goal.returns-clause-hands
returns-clause-hands g c =
    let held = g.D.Store.held c.args.store.now in
    let s = c.args.state.now in
    let name = c.args.name.now in
    let found = subst (Finds held s name) c.in-Some-2.is c.in_ok-entry.ensures.finds in
    let accepted : refusal_by s name c.in-Some-2.entry ≡ None = sym c.in_ok-refusal.ensures ∙ c.in_default-3.is in
    let made = c.in_ok-handed.ensures in
    found-hands held s name c.in-Some-2.entry found accepted c.requires.sound c.requires.unsaved
    c.in_ok-handed.handed c.put.new.state (made.lines ∙ ap (λ n. Catalogued n ∷ []) c.id-2.ensures) made.objects made.removes c.in_ok-put.ensures.value

pub returns-clause-sound : goal.returns-clause-sound
returns-clause-sound g c =
    let held = g.D.Store.held c.args.store.now in
    let s = c.args.state.now in
    let name = c.args.name.now in
    let found = subst (Finds held s name) c.in-Some-2.is c.in_ok-entry.ensures.finds in
    let accepted : refusal_by s name c.in-Some-2.entry ≡ None = sym c.in_ok-refusal.ensures ∙ c.in_default-3.is in
    subst IsSound (sym c.in_ok-put.ensures.value) (recorded-sound held s name c.in-Some-2.entry found accepted c.requires.sound c.requires.unsaved)

pub returns-clause-ids : goal.returns-clause-ids
returns-clause-ids g c =
    let s = c.args.state.now in
    let name = c.args.name.now in
    let accepted : refusal_by s name c.in-Some-2.entry ≡ None = sym c.in_ok-refusal.ensures ∙ c.in_default-3.is in
    asked-ids s name c.in-Some-2.entry accepted
