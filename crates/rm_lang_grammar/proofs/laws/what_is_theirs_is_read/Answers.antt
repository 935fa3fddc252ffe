use Rattle.rm_lang_grammar.proofs.Forms.{in_again}
use Rattle.rm_lang_grammar.proofs.laws.what_is_theirs_is_read.Goals as goal

pub returns : goal.returns
returns c start = in_again
