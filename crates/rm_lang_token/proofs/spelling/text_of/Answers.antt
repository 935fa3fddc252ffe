-- What the text is read back as.
use Rattle.std.proofs.{lemmas.Grind.{common_steps}, Common.{arith}}
use Rattle.rm_lang_token.proofs.ReadBack.{tokens-tokens_text, statements-tokens_text, feeds-tokens_text}
use Rattle.rm_lang_token.proofs.spelling.text_of.Goals as goal

pub returns-clause-text : goal.returns-clause-text
returns-clause-text c = grind (arith, common_steps)

pub returns-clause-read : goal.returns-clause-read
returns-clause-read c = rw (returns-clause-text c) (tokens-tokens_text c.args.tokens.now c.requires)

pub returns-clause-statement : goal.returns-clause-statement
returns-clause-statement c = λ whole. rw (returns-clause-text c) (statements-tokens_text c.args.tokens.now c.requires whole)

pub returns-clause-one_line : goal.returns-clause-one_line
returns-clause-one_line c = rw (returns-clause-text c) (feeds-tokens_text c.args.tokens.now c.requires)
