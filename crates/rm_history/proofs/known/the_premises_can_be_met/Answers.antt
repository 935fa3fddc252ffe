use Rattle.std.proofs.Common.{arith}
use Rattle.rm_history.proofs.Example.{world-is, history-is, history-longer, evidence-agrees, target, told, gap, first-gap}
use Rattle.rm_history.proofs.known.the_premises_can_be_met.Goals as goal

pub returns-clause-world : goal.returns-clause-world
returns-clause-world _ = world-is

pub returns-clause-history : goal.returns-clause-history
returns-clause-history _ = history-is

pub returns-clause-agrees : goal.returns-clause-agrees
returns-clause-agrees _ = evidence-agrees

pub returns-clause-target : goal.returns-clause-target
returns-clause-target _ = target 4 (omega arith)

pub returns-clause-told : goal.returns-clause-told
returns-clause-told _ = (target 3 (omega arith), told)

pub returns-clause-gap : goal.returns-clause-gap
returns-clause-gap _ = gap

pub returns-clause-longer : goal.returns-clause-longer
returns-clause-longer _ = history-longer

pub returns-clause-first : goal.returns-clause-first
returns-clause-first _ = first-gap
