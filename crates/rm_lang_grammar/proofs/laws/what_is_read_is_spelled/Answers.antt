use Rattle.rm_lang_grammar.proofs.Found.{found}
use Rattle.rm_lang_grammar.proofs.laws.what_is_read_is_spelled.Goals as goal

pub returns : goal.returns
returns c = found
