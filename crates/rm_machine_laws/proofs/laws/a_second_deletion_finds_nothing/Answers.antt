use Rattle.rm_machine_laws.proofs.DeletingObsolete.{finds-nothing}
use Rattle.rm_machine_laws.proofs.laws.a_second_deletion_finds_nothing.Goals as goal

pub returns : goal.returns
returns c s held after lines effect t ids sound does leaves again = finds-nothing s held lines effect t after sound does leaves ids again
