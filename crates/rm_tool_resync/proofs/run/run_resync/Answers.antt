use Rattle.std.proofs.Common.{◌∷◌, [], Contains, lit<, refl, sym, subst}
use Rattle.rm_tool_resync.proofs.Statuses.{has-status, without-fault, words-status}
use Rattle.rm_tool_resync.proofs.run.run_resync.Goals as goal

pub returns-in-Err-Bad-clause-statuses : goal.returns-in-Err-Bad-clause-statuses
returns-in-Err-Bad-clause-statuses g c = words-status c.refuse_words.result c.refuse_words.ensures.statuses

pub returns-in-Err-NoMemory-clause-complete : goal.returns-in-Err-NoMemory-clause-complete
returns-in-Err-NoMemory-clause-complete g c said sink near far = (1, lit< tt, refl)

pub returns-clause-statuses : goal.returns-clause-statuses
returns-clause-statuses g c =
    subst (Contains (0 ∷ 2 ∷ 4 ∷ 6 ∷ 7 ∷ [])) (sym c.status_of.ensures) (has-status _ _ _ _ _ _ c.served-ended.result c.served-ended.ensures.rose)

pub returns-clause-complete : goal.returns-clause-complete
returns-clause-complete g c said sink near far =
    subst (Contains (0 ∷ 7 ∷ [])) (sym c.status_of.ensures) (without-fault _ _ _ _ _ _ c.served-ended.result c.served-ended.ensures.rose sink near far)
