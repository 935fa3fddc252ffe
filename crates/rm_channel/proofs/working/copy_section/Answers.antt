use Rattle.std.proofs.Common.{rules, ◌+◌, []}
use Rattle.rm_channel.{specs.Sections.{sections}, proofs.Shares.{run-err, run-section, worked-section}}
use Rattle.rm_channel.proofs.working.copy_section.Goals as goal

pub returns-in_err-rows-clause-run : goal.returns-in_err-rows-clause-run
returns-in_err-rows-clause-run g c =
    let ss = sections c.args.share.channels c.args.share.from (c.args.share.from + 1) c.args.jobs.now in
    run-err c.args.pass.now c.read_sections.new.pass.seen ss c.args.share.thread [] _ c.from_residual.result (search rules)
    (worked-section c.args.pass.now c.read_sections.new.pass.seen ss c.args.share.thread _ c.read_sections.ensures.worked)

pub returns-clause-run : goal.returns-clause-run
returns-clause-run g c =
    let ss = sections c.args.share.channels c.args.share.from (c.args.share.from + 1) c.args.jobs.now in
    run-section c.args.pass.now c.read_sections.new.pass.seen ss c.args.share.thread _ c.in_ok-rows.ensures.worked c.in_ok-rows.ensures.rows c.new.ensures.items
