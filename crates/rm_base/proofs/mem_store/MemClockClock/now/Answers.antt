use Rattle.std.proofs.Common.{rules}
use Rattle.rm_base.proofs.Clocks.{answers-later}
use Rattle.rm_base.proofs.mem_store.MemClockClock.now.Goals as goal

pub returns-then-self-len-clause-later : goal.returns-then-self-len-clause-later
returns-then-self-len-clause-later c = λ i. answers-later c.args.self.now.answers.items c.args.self.now.at i (search rules)
