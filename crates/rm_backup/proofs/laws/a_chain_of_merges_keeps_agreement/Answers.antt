use Rattle.rm_backup.proofs.Chained.{reached_valid, reached_agrees}
use Rattle.rm_backup.proofs.laws.a_chain_of_merges_keeps_agreement.Goals as goal

pub returns-clause-valid : goal.returns-clause-valid
returns-clause-valid c = reached_valid

pub returns-clause-agrees : goal.returns-clause-agrees
returns-clause-agrees c = λ w h rs f tag s level1s copy last. reached_agrees rs f tag s level1s w h copy last
