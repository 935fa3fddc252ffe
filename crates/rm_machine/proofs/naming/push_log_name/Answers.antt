use Rattle.std.proofs.{Common.{sym}, lemmas.Result.{IfOk-weaker}}
use Rattle.rm_catalog.specs.declared.record.LogEntry.{LogEntry}
use Rattle.rm_evidence.specs.Names.{log_name}
use Rattle.rm_base.proofs.OneOf.{no-name, one-name}
use Rattle.rm_machine.proofs.naming.push_log_name.Goals as goal

pub returns-in_ok-log_name-in-Some : goal.returns-in_ok-log_name-in-Some
returns-in_ok-log_name-in-Some c =
    let l = c.args.state.now.catalog.ledger in
    IfOk-weaker c.push.result _ _ (λ x is. one-name (λ (e : LogEntry). e.id) c.args.id (λ (e : LogEntry). log_name e.id) l.logs c.requires.sound.catalog.ledger.ids.logs_ascend c.args.names.now
    c.in-Some.log.now c.in_ok-log_name-in-Some.field-0 c.push.new.self (sym c.in-Some.ensures) c.in_ok-log_name-in-Some.ensures is) c.push.ensures.ok

pub returns-in-None : goal.returns-in-None
returns-in-None c =
    no-name (λ (e : LogEntry). e.id) c.args.id (λ (e : LogEntry). log_name e.id) c.args.state.now.catalog.ledger.logs c.requires.sound.catalog.ledger.ids.logs_ascend c.args.names.now (sym c.in-None.ensures)
