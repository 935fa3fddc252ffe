use Rattle.std.proofs.{Common.{◌∙◌, rules, tests}, lemmas.Iterator.{YieldsList-from_slice, Search.{all_from_yields_List}}}
use Rattle.rm_lang_grammar.proofs.Capitals.{is_capital, capitals-all}
use Rattle.rm_lang_grammar.proofs.tags.are_capitals.Goals as goal

pub returns : goal.returns
returns c =
    all_from_yields_List is_capital _ _ c.all.result c.all.ensures.ran (YieldsList-from_slice c.args.bytes.now cc) (λ x b q k. search (rules, tests))
    ∙ capitals-all c.args.bytes.now
