use Rattle.std.proofs.Common.{arith}
use Rattle.rm_step_write.proofs.Accepted.{write-numbers}
use Rattle.rm_step_write.proofs.writing.change_of.Goals as goal

pub overflow_cast-result-3 : goal.overflow_cast-result-3
overflow_cast-result-3 c = let low = (write-numbers c.args.state.now c.args.form.now c.requires.sound c.requires.accepted).block in omega (arith, low)
