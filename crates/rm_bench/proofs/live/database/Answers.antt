use Rattle.std.proofs.Common.{arith, rules}
use Rattle.rm_live.proofs.Opened.{created-sound}
use Rattle.rm_bench.proofs.live.database.Goals as goal

pub returns-clause-sound : goal.returns-clause-sound
returns-clause-sound c = created-sound _ c.args.blocks 1 2 (omega arith) (omega arith) (search rules)
