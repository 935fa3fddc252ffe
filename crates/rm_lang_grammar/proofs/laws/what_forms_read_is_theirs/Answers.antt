use Rattle.rm_lang_grammar.proofs.Forms.{in_found}
use Rattle.rm_lang_grammar.proofs.laws.what_forms_read_is_theirs.Goals as goal

pub returns : goal.returns
returns c start = in_found
