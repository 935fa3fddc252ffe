use Rattle.rm_lang_grammar.proofs.Blocks.{block_found}
use Rattle.rm_lang_grammar.proofs.laws.what_is_read_is_a_block.Goals as goal

pub returns : goal.returns
returns c start = block_found
