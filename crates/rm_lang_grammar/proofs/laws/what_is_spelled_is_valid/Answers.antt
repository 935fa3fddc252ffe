use Rattle.rm_lang_grammar.proofs.Spelled.{spells_valid}
use Rattle.rm_lang_grammar.proofs.laws.what_is_spelled_is_valid.Goals as goal

pub returns : goal.returns
returns c = spells_valid
