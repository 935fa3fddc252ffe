use Rattle.std.proofs.{Common.{rules, tests}, lemmas.Iterator.{YieldsList-from_slice, Search.{all_from_yields_List}}}
use Rattle.rm_lang_token.specs.Tokens.{is_word_byte}
use Rattle.rm_store_dir.proofs.names.are_word_bytes.Goals as goal

pub returns : goal.returns
returns c = all_from_yields_List is_word_byte _ _ c.all.result c.all.ensures.ran (YieldsList-from_slice c.args.bytes.now cc) (λ x b q k. search (rules, tests))
