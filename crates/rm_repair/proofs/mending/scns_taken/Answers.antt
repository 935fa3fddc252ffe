use Rattle.std.proofs.Common.{rules}
use Rattle.rm_repair.proofs.Beside.{taken}
use Rattle.rm_repair.proofs.mending.scns_taken.Goals as goal

pub returns : goal.returns
returns c = taken c.args.answers c.in_ok-answers.answers c.as_slice.result.now c.scns_of.result (search rules) c.as_slice.ensures.value c.scns_of.ensures
