use Rattle.rm_piece.proofs.Picked.{copy_picked, picked_valid}
use Rattle.rm_piece.proofs.level1s.a_copy_has_level_1s.Goals as goal

pub returns-clause-valid : goal.returns-clause-valid
returns-clause-valid c = picked_valid

pub returns-clause-agrees : goal.returns-clause-agrees
returns-clause-agrees c = copy_picked
