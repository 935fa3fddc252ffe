use Rattle.rm_lang_reading.proofs.Language.{statement_at-is, is-statement_at}
use Rattle.rm_lang.proofs.laws.what_is_read_is_the_statement.Goals as goal

pub returns : goal.returns
returns c = λ ts s. (statement_at-is ts s, is-statement_at ts s)
