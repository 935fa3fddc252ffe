use Rattle.std.proofs.Common.{◌≡◌, ◌∙◌, sym, ap, subst, refl, arith, rules}
use Rattle.rm_catalog.specs.declared.record.LogEntry.{LogEntry}
use Rattle.rm_redo.specs.LogFile.{log_file_of}
use Rattle.rm_catalog_typed.specs.Fitting.{FitsNewLog}
use Rattle.rm_machine.{specs.{State.{ledger, online}, SwitchLogfile.{log_entry}}, proofs.Switching.{entry-is}}
use Rattle.rm_step_open.proofs.Spaces.{can-space}
use Rattle.rm_step_open.proofs.archives.archive.Goals as goal

pub add_log-requires : goal.add_log-requires
add_log-requires c =
    let s = c.args.state.now in
    let t = c.args.thread in
    let space = c.requires.space in
    let given : c.in-Some.log ≡ log_file_of s.instance.logs t c.redo_end-end.result = search rules in
    let log : c.in-Some.log ≡ online s t = given ∙ ap (log_file_of s.instance.logs t) c.redo_end-end.ensures in
    let entry : c.log_entry.result ≡ log_entry (ledger s).base.next_id (online s t) = search rules in
    record {
      fits = subst (λ (e : LogEntry). FitsNewLog s.catalog e) (sym entry) (record {
        log = entry-is s t c.requires.sound (can-space s t c.requires.thread c.requires.due space);
        id = refl;
        last = omega (arith, space.ids);
        room = space.records;
      });
    }
