use Rattle.std.proofs.Common.{ap}
use Rattle.rm_live.specs.Passes.{Standing}
use Rattle.rm_test_channel.proofs.Opened.{there-later}
use Rattle.rm_test_channel.proofs.small.copied.Goals as goal

pub copy_file-rows-requires-clause-there : goal.copy_file-rows-requires-clause-there
copy_file-rows-requires-clause-there g c lifetimes outlive =
    there-later c.in_ok-live.pass c.write.new.pass c.write-2.new.pass c.args.job.now c.args.blocks (ap (λ (s : Standing). s.opening) c.in_ok-live.ensures)
    c.write.ensures.stays c.write-2.ensures.stays c.requires.job
