use Rattle.std.proofs.Common.{rules, [], ◌∷◌, ◌≡◌, refl, subst}
use Rattle.rm_report.specs.declared.line.Line.TheVariants.{Deleted, DeletedCount}
use Rattle.rm_lang_statement.specs.declared.command.Command.TheVariants.{DeleteBackup}
use Rattle.rm_machine.specs.{Hands.{Hands}, Upkeep.{names_at, removing, with_catalog, without_record}, declared.handed.Handed.{Handed}}
use Rattle.rm_machine.{specs.declared.state.State.{State}, proofs.Handing.{hands-by}}
use Rattle.rm_step_upkeep.proofs.deleting.delete_backup.Goals as goal

pub returns-clause-hands : goal.returns-clause-hands
returns-clause-hands c held =
    let s : State = c.args.state.now in
    let n = c.known-id.result in
    let removes = c.push_name.new.names in
    let x : Handed = record { lines = c.push-2.new.self; objects = c.new.result; removes = removes } in
    let lines : c.push-2.new.self ≡ Deleted n ∷ DeletedCount 1 ∷ [] = search rules in
    let names : removes ≡ names_at n s.catalog = search rules in
    subst (λ k. Hands held s (DeleteBackup k) x c.drop_record.new.state) c.known-id.ensures.value (
    hands-by held s (DeleteBackup n) x c.drop_record.new.state
    (Deleted n ∷ DeletedCount 1 ∷ []) (removing (names_at n s.catalog)) (with_catalog s (without_record n s.catalog)) (λ objects tells. refl)
    lines c.new.ensures names c.in_ok-drop_record.ensures.value
    )
