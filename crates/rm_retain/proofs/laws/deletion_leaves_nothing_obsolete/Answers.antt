use Rattle.rm_retain.proofs.CopiesLeft.{was_obsolete}
use Rattle.rm_retain.proofs.laws.deletion_leaves_nothing_obsolete.Goals as goal

pub returns : goal.returns
returns c held now rs left place old new policy start row before after cleared world same current is =
    was_obsolete held now rs left place old new policy start before after cleared same world current row is
