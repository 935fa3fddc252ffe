use Rattle.rm_lang_reading.proofs.Language.{one}
use Rattle.rm_lang.proofs.laws.one_statement.Goals as goal

pub returns : goal.returns
returns c = one
