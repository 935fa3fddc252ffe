use Rattle.rm_retain.proofs.Example.{fits_late, first_needless, log_needless, in_window, block_is, told_late, lost, first_chosen}
use Rattle.rm_retain.proofs.laws.a_checkpoint_is_not_enough.Goals as goal

pub returns-clause-fits : goal.returns-clause-fits
returns-clause-fits _ = fits_late

pub returns-clause-backup : goal.returns-clause-backup
returns-clause-backup _ = first_needless

pub returns-clause-log : goal.returns-clause-log
returns-clause-log _ = log_needless

pub returns-clause-target : goal.returns-clause-target
returns-clause-target _ = in_window

pub returns-clause-block : goal.returns-clause-block
returns-clause-block _ = block_is

pub returns-clause-told : goal.returns-clause-told
returns-clause-told _ = told_late

pub returns-clause-lost : goal.returns-clause-lost
returns-clause-lost _ = lost

pub returns-clause-chosen : goal.returns-clause-chosen
returns-clause-chosen _ = first_chosen
