use Rattle.std.proofs.Common.{ap, arith, rules}
use Rattle.rm_live.specs.Passes.{Standing}
use Rattle.rm_test_channel.proofs.Opened.{can-write-as, threads-as}
use Rattle.rm_test_channel.proofs.mending.mended.Goals as goal

pub mend_during-pass-requires-clause-threads : goal.mend_during-pass-requires-clause-threads
mend_during-pass-requires-clause-threads g c κs within = threads-as c.in_ok-live.pass.opening 4 c.args.writers.now (ap (λ (s : Standing). s.opening) c.in_ok-live.ensures) c.requires.few

pub mend_during-pass-requires-clause-room : goal.mend_during-pass-requires-clause-room
mend_during-pass-requires-clause-room g c κs within = can-write-as _ 4 c.args.writers.now (search rules) (omega arith) c.requires.few c.requires.writers
