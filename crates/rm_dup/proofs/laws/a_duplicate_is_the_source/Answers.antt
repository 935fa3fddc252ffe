use Rattle.rm_dup.proofs.Recovery.{datafiles-are, restored-blocks, same-blocks}
use Rattle.rm_dup.proofs.laws.a_duplicate_is_the_source.Goals as goal

pub returns-clause-datafiles : goal.returns-clause-datafiles
returns-clause-datafiles c held rs place i s dbid d is = datafiles-are held rs place i s dbid d is

pub returns-clause-blocks : goal.returns-clause-blocks
returns-clause-blocks c held rs place i s dbid d later to h back catalog database there inside some is due put history agrees told = same-blocks rs catalog database held place i s dbid there inside some d is later due to put h back history agrees told

pub returns-clause-blocks_restored : goal.returns-clause-blocks_restored
returns-clause-blocks_restored c held rs place i s dbid d later to h back catalog database there inside some is due put history agrees told = restored-blocks rs catalog database held place i s dbid there inside some d is later due to put h back history agrees told
