use Rattle.rm_lang_grammar.proofs.Forms.{one_command}
use Rattle.rm_lang_grammar.proofs.laws.one_command.Goals as goal

pub returns : goal.returns
returns c start = one_command
