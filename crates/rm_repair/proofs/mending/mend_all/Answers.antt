use Rattle.std.proofs.{Common.{ℕ, [], List, ap, get_or, subst, sym, rules}, lemmas.List.Elements.{All-get_or}}
use Rattle.rm_blocks.specs.File.{File}
use Rattle.rm_live.specs.Passes.{Standing}
use Rattle.rm_channel.proofs.Steps.{later-then}
use Rattle.rm_repair.{specs.{Mended.{HasBlock}, declared.jobs.MendJob.{MendJob}}, proofs.Mends.{mended-more}}
use Rattle.rm_repair.proofs.mending.mend_all.Goals as goal

abbrev no_job : MendJob
no_job = record { file = 0; row = record { block = 0; version = 0; content = record { 0 = [] } } }

pub loop-job-preserved : goal.loop-job-preserved
loop-job-preserved g c =
    let i = c.loop-job.invariant in
    let n : ℕ = c.loop-job.job-index in
    let files = ap (λ (s : Standing). s.opening.files) i.0 in
    let there : HasBlock c.args.pass.now.opening.files (get_or c.args.jobs.now n no_job) = All-get_or (HasBlock c.args.pass.now.opening.files) c.args.jobs.now n no_job c.loop-job-test.true c.requires.there in (
      later-then c.args.pass.now c.loop-job.pass c.mend.new.pass i.0 c.mend.ensures.stays,
      mended-more c.args.pass.now c.loop-job.pass c.mend.new.pass n c.args.jobs.now no_job c.mend.result c.loop-job-test.true (search rules) i.0 c.mend.ensures.stays c.mend.ensures.legal c.mend.ensures.below c.mend.ensures.adds
          (subst (λ (fs : List File). HasBlock fs (get_or c.args.jobs.now n no_job)) (sym files) there) i.1,
    )
