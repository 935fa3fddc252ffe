use Rattle.rm_channel.specs.Jobs.{lists}
use Rattle.rm_repair.proofs.Beside.{all-mended}
use Rattle.rm_repair.proofs.mending.mend_during.Goals as goal

pub returns-clause-mended : goal.returns-clause-mended
returns-clause-mended g c =
    all-mended c.args.pass c.mend_beside-pass.result.0.seen c.args.jobs.now (lists c.args.writers.now) c.mend_beside-pass.result.1 c.scns_taken.result c.requires.only c.requires.threads c.requires.room c.requires.there c.mend_beside-pass.ensures.mended c.scns_taken.ensures
