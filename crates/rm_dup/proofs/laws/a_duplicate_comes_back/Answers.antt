use Rattle.rm_dup.proofs.{Recovery.{no-gap-found, no-gap-restored, ranged}, Restored.{copies-restored}}
use Rattle.rm_dup.proofs.laws.a_duplicate_comes_back.Goals as goal

pub returns-clause-range : goal.returns-clause-range
returns-clause-range c held rs place i s dbid d catalog database there inside some is = ranged rs catalog database held place i s dbid there inside some d is

pub returns-clause-no_gap : goal.returns-clause-no_gap
returns-clause-no_gap c held rs place i s dbid d later to x catalog database there inside some is due put = no-gap-found rs catalog database held place i s dbid there inside some d is later due to put x

pub returns-clause-no_gap_restored : goal.returns-clause-no_gap_restored
returns-clause-no_gap_restored c held rs place i s dbid d later to x catalog database there inside some is due put = no-gap-restored rs catalog database held place i s dbid there inside some d is later due to put x

pub returns-clause-restored : goal.returns-clause-restored
returns-clause-restored c held rs place i s dbid d later to back origins catalog database there inside some is due put = copies-restored rs catalog database held place i s dbid there inside some d is later due to put back origins
