use Rattle.rm_backup.proofs.AtHand.{copy_at_hand, level1_at_hand}
use Rattle.rm_backup.proofs.laws.what_is_at_hand_is_available.Goals as goal

pub returns-clause-copies : goal.returns-clause-copies
returns-clause-copies c = copy_at_hand

pub returns-clause-level1s : goal.returns-clause-level1s
returns-clause-level1s c = level1_at_hand
