use Rattle.rm_redo.proofs.LogFitting.{spelling_same}
use Rattle.rm_redo.proofs.log_laws.bytes_spell_one_log.Goals as goal

pub returns : goal.returns
returns c = spelling_same
