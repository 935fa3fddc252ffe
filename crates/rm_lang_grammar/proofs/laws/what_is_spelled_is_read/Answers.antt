use Rattle.std.proofs.Common.{[], inr}
use Rattle.rm_lang_grammar.proofs.Again.{again}
use Rattle.rm_lang_grammar.proofs.laws.what_is_spelled_is_read.Goals as goal

pub returns : goal.returns
returns c = λ g ts vs k h. again g [] k vs ts [] (inr tt) h
