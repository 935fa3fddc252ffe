use Rattle.rm_machine_laws.proofs.Wanted.{read-changed}
use Rattle.rm_machine_laws.proofs.laws.a_level_1_reads_what_changed.Goals as goal

pub returns : goal.returns
returns c s h b jobs j from low t marks sound keeps are has begins found known for = read-changed s b h sound keeps jobs are j has from t marks begins found known low for
