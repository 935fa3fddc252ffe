use Rattle.std.{specs.Option.{option_copied}, proofs.Common.{◌≡◌, ◌∙◌, List, Option, IfSome, rules, sym, subst}}
use Rattle.std.proofs.lemmas.Result.{IfOk-weaker}
use Rattle.rm_catalog.specs.{Rules.{HasDatabase}, declared.record.Record.{Record}}
use Rattle.rm_machine.specs.Backup.{AreJobs, taken}
use Rattle.rm_step_backup.{specs.Begins.{AreJobsBy, records_for}, proofs.Begins.{are-jobs}}
use Rattle.rm_step_backup.proofs.jobs.jobs.Goals as goal

pub jobs_by-requires-clause-database : goal.jobs_by-requires-clause-database
jobs_by-requires-clause-database c = subst (λ (o : Option (List Record)). IfSome o HasDatabase) (sym c.as_ref.ensures.value) c.in_ok-records.ensures.database

pub returns : goal.returns
returns c =
    let s = c.args.state.now in
    let b = c.args.form.now in
    let fs = c.deref.result.now in
    let files : fs ≡ taken s b = search rules in
    let records : option_copied c.as_ref.result ≡ records_for s b = c.as_ref.ensures.value ∙ c.in_ok-records.ensures.records in
    IfOk-weaker c.jobs_by.result (λ js. AreJobsBy (option_copied c.as_ref.result) b fs js.items) (λ js. AreJobs s b js.items)
    (λ js by. are-jobs s b fs js.items files (subst (λ (o : Option (List Record)). AreJobsBy o b fs js.items) records by)) c.jobs_by.ensures
