use Rattle.std.proofs.Common.{arith}
use Rattle.rm_machine_laws.proofs.OnBranches.{evidence-agrees, gap, history-is, target, told-0, told-1, world-is}
use Rattle.rm_machine_laws.proofs.example.the_premises_can_be_met_on_a_branch.Goals as goal

pub returns-clause-world : goal.returns-clause-world
returns-clause-world _ = world-is

pub returns-clause-history : goal.returns-clause-history
returns-clause-history _ = history-is

pub returns-clause-agrees : goal.returns-clause-agrees
returns-clause-agrees _ = evidence-agrees

pub returns-clause-listed : goal.returns-clause-listed
returns-clause-listed _ = (target 5 0 (omega arith) (omega arith), told-0)

pub returns-clause-unlisted : goal.returns-clause-unlisted
returns-clause-unlisted _ = (target 5 1 (omega arith) (omega arith), told-1)

pub returns-clause-target : goal.returns-clause-target
returns-clause-target _ = target 6 1 (omega arith) (omega arith)

pub returns-clause-gap : goal.returns-clause-gap
returns-clause-gap _ = gap
