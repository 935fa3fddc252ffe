use Rattle.rm_machine_laws.proofs.Wanted.{left-below}
use Rattle.rm_machine_laws.proofs.laws.what_a_level_1_leaves_out_stood_below.Goals as goal

pub returns : goal.returns
returns c s h b jobs j from t marks sound keeps are has begins found known = left-below s b h sound keeps jobs are j has from t marks begins found known
