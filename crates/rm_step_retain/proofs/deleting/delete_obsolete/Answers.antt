use Rattle.std.{specs.List.{flat_map}, proofs.Common.{◌∙◌, ◌++◌, ◌∷◌, [], List, ℕ, refl, ap, length, map, subst, sym}}
use Rattle.rm_report.specs.declared.line.Line.TheVariants.{Deleted, DeletedCount}
use Rattle.rm_lang_statement.specs.declared.command.Command.TheVariants.{DeleteObsolete}
use Rattle.rm_machine.specs.{Sound.{IsSound}, Upkeep.{names_at, removing, with_catalog, without_all}, declared.handed.Handed.{Handed}}
use Rattle.rm_machine.{specs.declared.state.State.{State}, proofs.{Handing.{hands-by}, Upkeep.{all-on}}}
use Rattle.rm_step_retain.proofs.{Dates.{counted-dated}, Obsolete.{told}}
use Rattle.rm_step_retain.proofs.deleting.delete_obsolete.Goals as goal

pub returns-clause-hands : goal.returns-clause-hands
returns-clause-hands g c =
    let s : State = c.args.state.now in
    let held = g.D.Store.held c.args.store.now in
    let ids = c.in_ok-ids.ids.items in
    let dropped = c.in_ok-drop_records.ensures in
    let x : Handed = record { lines = c.in_ok-drop_records.field-0; objects = c.new.result; removes = c.in_ok-removes.removes } in
    hands-by held s DeleteObsolete x c.drop_records.new.state
    (map Deleted ids ++ DeletedCount (length ids) ∷ []) (removing (flat_map (λ n. names_at n s.catalog) ids)) (with_catalog s (without_all ids s.catalog))
    (λ objects tells. record { ids = ids; are = told held s ids c.in_ok-ids.ensures.are objects tells; is = refl })
    (dropped.lines ∙ ap (λ (ns : List ℕ). map Deleted ns ++ DeletedCount (length ns) ∷ []) c.deref-2.ensures.value)
    c.new.ensures
    (c.in_ok-removes.ensures ∙ ap (flat_map (λ n. names_at n s.catalog)) c.deref.ensures.value)
    (dropped.value ∙ ap (λ (ns : List ℕ). with_catalog s (without_all ns s.catalog)) c.deref-2.ensures.value)

pub returns-clause-sound : goal.returns-clause-sound
returns-clause-sound g c =
    let s : State = c.args.state.now in
    let ids = c.deref-2.result.now in
    subst IsSound (sym {b = with_catalog s (without_all ids s.catalog)} c.in_ok-drop_records.ensures.value) ((all-on ids s c.requires.sound).sound c.requires.sound)

pub returns-clause-dates : goal.returns-clause-dates
returns-clause-dates g c =
    let ids = c.deref-2.result.now in
    counted-dated Deleted (DeletedCount (length ids)) (λ n. tt) tt ids c.in_ok-drop_records.field-0 c.in_ok-drop_records.ensures.lines
