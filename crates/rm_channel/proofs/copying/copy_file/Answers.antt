use Rattle.std.proofs.Common.{List, [], All, subst, sym, rules, arith}
use Rattle.rm_channel.{specs.{Room.{IsThere}, Runs.{HasRun}, Sections.{sections}, declared.jobs.CopyJob.{CopyJob}}, proofs.Split.{can-all}}
use Rattle.rm_channel.proofs.Whole.{one-each, read-alone}
use Rattle.rm_channel.proofs.copying.copy_file.Goals as goal

pub run-pass-requires : goal.run-pass-requires
run-pass-requires g c =
    let there : All (IsThere c.args.pass.opening.files) c.from_ref.result.now = subst (λ (jobs : List CopyJob). All (IsThere c.args.pass.opening.files) jobs) (sym c.from_ref.ensures.value) (search rules) in
    let can = can-all c.args.pass c.args.live.now c.from_ref.result.now [] c.args.channels c.requires.home c.requires.channels (omega arith) (omega arith) there tt in
    (search rules, (search rules, can))

pub rows_of-requires : goal.rows_of-requires
rows_of-requires g c =
    one-each c.args.channels 0 c.args.channels c.from_ref.result.now c.run-pass.result.1 c.from_ref.ensures.len c.run-pass.ensures.run.rows

pub returns-clause-read : goal.returns-clause-read
returns-clause-read g c =
    read-alone c.args.pass c.run-pass.result.0.seen c.args.channels c.args.job.now c.run-pass.result.1 c.rows_of.result c.requires.channels.0
    (subst (λ (jobs : List CopyJob). HasRun c.args.pass c.run-pass.result.0.seen (sections c.args.channels 0 c.args.channels jobs) 1 [] c.run-pass.result.1) c.from_ref.ensures.value c.run-pass.ensures.run)
    c.rows_of.ensures
