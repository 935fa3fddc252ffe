use Rattle.rm_history.proofs.Highs.{high-least, high-above, high-held}
use Rattle.rm_history.proofs.laws.high_is_the_greatest.Goals as goal

pub returns-clause-checkpoint : goal.returns-clause-checkpoint
returns-clause-checkpoint c = high-least

pub returns-clause-versions : goal.returns-clause-versions
returns-clause-versions c = high-above

pub returns-clause-held : goal.returns-clause-held
returns-clause-held c = high-held
