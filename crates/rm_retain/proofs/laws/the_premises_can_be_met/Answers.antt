use Rattle.rm_retain.proofs.Example.{fits_second, loses, in_window, block_is, told_second}
use Rattle.rm_retain.proofs.laws.the_premises_can_be_met.Goals as goal

pub returns-clause-fits : goal.returns-clause-fits
returns-clause-fits _ = fits_second

pub returns-clause-loses : goal.returns-clause-loses
returns-clause-loses _ = loses

pub returns-clause-target : goal.returns-clause-target
returns-clause-target _ = in_window

pub returns-clause-block : goal.returns-clause-block
returns-clause-block _ = block_is

pub returns-clause-told : goal.returns-clause-told
returns-clause-told _ = told_second
