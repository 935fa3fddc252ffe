use Rattle.rm_lang_grammar.proofs.Capitals.{capital_tag-string}
use Rattle.rm_lang_grammar.proofs.spelling.Spelling.tag.Goals as goal

pub string-requires : goal.string-requires
string-requires c = capital_tag-string c.args.name.now c.requires
