use Rattle.std.proofs.Common.{◌≡◌, ◌∙◌, ◌++◌, List, length, length-append, append_assoc, sym, ap, subst, rules}
use Rattle.rm_channel.{specs.{Jobs.{wrote, writes}, Made.{Did}, declared.jobs.WriteJob.{WriteJob}}, proofs.Steps.{worked-none, later-then}}
use Rattle.rm_channel.proofs.{Turns.{all-done, did-run, more-length, worked-writes, worked-err}, Writes.{wrote-append}}
use Rattle.rm_channel.proofs.working.make_writes.Goals as goal

pub returns-in_err-answers-clause-worked : goal.returns-in_err-answers-clause-worked
returns-in_err-answers-clause-worked g c =
    worked-err c.args.pass.now c.args.pass.now.seen (writes c.args.thread c.args.list.now) _ c.from_residual.result (search rules) (worked-none c.args.pass.now _)

pub runs-preserved : goal.runs-preserved
runs-preserved g c =
    let i = c.runs.invariant in
    let done : List WriteJob = i.3.0 in
    let left : List WriteJob = c.runs.left.now in
    let run : List WriteJob = c.split_at.result.0.now in
    let rest : List WriteJob = c.split_at.result.1.now in
    let did = c.write_run.ensures.did in
    let parts : run ++ rest ≡ left = search rules in
    let there = sym (length-append done left) ∙ ap length i.3.1 in
    let here = sym (length-append run rest) ∙ ap length parts in
    let long = more-length c.runs.pass c.write_run.new.pass.seen (wrote c.args.thread run) _ c.runs.answers.items c.write_run.new.answers.items did in (
      later-then c.args.pass.now c.runs.pass c.write_run.new.pass i.0 c.write_run.ensures.stays,
      search rules,
      search rules,
      (
        done ++ run,
        append_assoc done run rest ∙ ap (λ (l : List WriteJob). done ++ l) parts ∙ i.3.1,
        did-run (wrote c.args.thread) (wrote-append c.args.thread) c.args.pass.now c.runs.pass c.write_run.new.pass.seen _ done run c.runs.answers.items c.write_run.new.answers.items i.0 i.3.2 (search rules) did,
      ),
    )

pub returns-clause-worked : goal.returns-clause-worked
returns-clause-worked g c =
    let i = c.runs.invariant in
    let all : i.3.0 ≡ c.args.list.now = all-done i.3.0 c.runs.left.now c.args.list.now (search rules) i.3.1 in
    worked-writes c.args.pass.now c.runs.pass.seen c.args.thread c.args.list.now c.runs.answers.items
    (subst (λ (ws : List WriteJob). Did c.args.pass.now c.runs.pass.seen (wrote c.args.thread ws c.runs.answers.items)) all i.3.2) (search rules)
