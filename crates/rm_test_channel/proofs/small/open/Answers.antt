use Rattle.std.proofs.Common.{arith, rules}
use Rattle.rm_live.proofs.Opened.{created-sound}
use Rattle.rm_test_channel.proofs.small.open.Goals as goal

pub open-requires-clause-sound : goal.open-requires-clause-sound
open-requires-clause-sound c = created-sound _ c.args.blocks 4 2 (omega arith) (omega arith) (search rules)
