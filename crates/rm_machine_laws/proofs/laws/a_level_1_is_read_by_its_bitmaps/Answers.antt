use Rattle.rm_machine_laws.proofs.Wanted.{read-by}
use Rattle.rm_machine_laws.proofs.laws.a_level_1_is_read_by_its_bitmaps.Goals as goal

pub returns : goal.returns
returns c s b j from sound on path begins = read-by s b sound on j from path begins
