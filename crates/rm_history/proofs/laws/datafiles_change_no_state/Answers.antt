use Rattle.rm_history.proofs.{Histories.{IsHistory-with_file}, Worlds.{state-kept, BaseAgrees-with_file, Level1Agrees-with_file}}
use Rattle.rm_history.proofs.laws.datafiles_change_no_state.Goals as goal

pub returns-clause-history : goal.returns-clause-history
returns-clause-history c = IsHistory-with_file

pub returns-clause-state : goal.returns-clause-state
returns-clause-state c = state-kept

pub returns-clause-base : goal.returns-clause-base
returns-clause-base c = BaseAgrees-with_file

pub returns-clause-level1 : goal.returns-clause-level1
returns-clause-level1 c = Level1Agrees-with_file
