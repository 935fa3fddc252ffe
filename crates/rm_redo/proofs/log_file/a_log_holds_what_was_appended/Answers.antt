use Rattle.rm_redo.proofs.Changes.{log-fills, log-grows, log-holds}
use Rattle.rm_redo.proofs.log_file.a_log_holds_what_was_appended.Goals as goal

pub returns-clause-more : goal.returns-clause-more
returns-clause-more c = log-grows

pub returns-clause-empty : goal.returns-clause-empty
returns-clause-empty c = log-fills

pub returns-clause-anew : goal.returns-clause-anew
returns-clause-anew c = log-holds
