use Rattle.rm_lang_grammar.proofs.Spelled.{valid_spells}
use Rattle.rm_lang_grammar.proofs.laws.what_is_valid_is_spelled.Goals as goal

pub returns : goal.returns
returns c = valid_spells
