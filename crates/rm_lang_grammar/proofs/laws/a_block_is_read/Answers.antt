use Rattle.rm_lang_grammar.proofs.Blocks.{block_again}
use Rattle.rm_lang_grammar.proofs.laws.a_block_is_read.Goals as goal

pub returns : goal.returns
returns c start = block_again
