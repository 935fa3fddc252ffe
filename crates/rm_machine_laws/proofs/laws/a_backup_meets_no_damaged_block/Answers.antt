use Rattle.rm_machine.proofs.BackupAccepted.{can-back_up}
use Rattle.rm_machine_laws.proofs.BackingUp.{taken-clean, written-clean}
use Rattle.rm_machine_laws.proofs.laws.a_backup_meets_no_damaged_block.Goals as goal

pub returns-clause-reads : goal.returns-clause-reads
returns-clause-reads c s b sound none f has = taken-clean s b (can-back_up s b sound none).clean f has

pub returns-clause-writes : goal.returns-clause-writes
returns-clause-writes c s b sound none w has = written-clean s b (can-back_up s b sound none).clean w has
