use Rattle.std.proofs.Common.{◌∷◌, [], Contains, lit<, refl, sym, subst}
use Rattle.rm_tool_ends.proofs.Statuses.{has-status, words-status}
use Rattle.rm_tool_ends.specs.declared.ended.Ended.TheVariants as ended
use Rattle.rm_tool_standby.proofs.Statuses.{done-at, leaves-at, of-bad, of-none, one-task}
use Rattle.rm_tool_standby.proofs.run.run_standby.Goals as goal

pub returns-in-Err-Bad-clause-statuses : goal.returns-in-Err-Bad-clause-statuses
returns-in-Err-Bad-clause-statuses g c = words-status c.refuse_words.result c.refuse_words.ensures.statuses

pub returns-in-Err-NoMemory-clause-bad_only : goal.returns-in-Err-NoMemory-clause-bad_only
returns-in-Err-NoMemory-clause-bad_only g c accepted rs kept bad = (3, lit< tt, refl)

pub returns-in-Err-NoMemory-clause-statuses : goal.returns-in-Err-NoMemory-clause-statuses
returns-in-Err-NoMemory-clause-statuses g c = (6, lit< tt, refl)

pub returns-in-Err-NoMemory-clause-complete : goal.returns-in-Err-NoMemory-clause-complete
returns-in-Err-NoMemory-clause-complete g c accepted rs kept valid sink from to keeper = (2, lit< tt, refl)

pub returns-clause-done : goal.returns-clause-done
returns-clause-done g c x is status =
    done-at _ c.in-Ok.said.task x.task _ _ _ _ c.served.result c.status_of.result (one-task _ _ x c.in-Ok.ensures.said is) c.served.ensures.finishes c.status_of.ensures status

pub returns-clause-refused : goal.returns-clause-refused
returns-clause-refused g c x is status =
    (leaves-at c.in-Ok.said.task x.task _ _ _ _ c.served.result c.status_of.result 1 ended.Refused (one-task _ _ x c.in-Ok.ensures.said is) c.served.ensures.ended c.status_of.ensures refl status).1

pub returns-clause-sink_written : goal.returns-clause-sink_written
returns-clause-sink_written g c x is status =
    leaves-at c.in-Ok.said.task x.task _ _ _ _ c.served.result c.status_of.result 4 ended.Sink (one-task _ _ x c.in-Ok.ensures.said is) c.served.ensures.ended c.status_of.ensures refl status

pub returns-clause-store_left : goal.returns-clause-store_left
returns-clause-store_left g c x is status =
    (leaves-at c.in-Ok.said.task x.task _ _ _ _ c.served.result c.status_of.result 5 ended.Store (one-task _ _ x c.in-Ok.ensures.said is) c.served.ensures.ended c.status_of.ensures refl status).1

pub returns-clause-keeper_left : goal.returns-clause-keeper_left
returns-clause-keeper_left g c status =
    (leaves-at c.in-Ok.said.task c.in-Ok.said.task _ _ _ _ c.served.result c.status_of.result 6 ended.Keeper refl c.served.ensures.ended c.status_of.ensures refl status).0

pub returns-clause-memory_left : goal.returns-clause-memory_left
returns-clause-memory_left g c x is status =
    leaves-at c.in-Ok.said.task x.task _ _ _ _ c.served.result c.status_of.result 7 ended.NoMemory (one-task _ _ x c.in-Ok.ensures.said is) c.served.ensures.ended c.status_of.ensures refl status

pub returns-clause-bad : goal.returns-clause-bad
returns-clause-bad g c status =
    (leaves-at c.in-Ok.said.task c.in-Ok.said.task _ _ _ _ c.served.result c.status_of.result 9 ended.BadRecord refl c.served.ensures.ended c.status_of.ensures refl status).1

pub returns-clause-bad_only : goal.returns-clause-bad_only
returns-clause-bad_only g c accepted rs kept bad =
    subst (Contains (9 ∷ 4 ∷ 6 ∷ 7 ∷ [])) (sym c.status_of.ensures) (of-bad c.in-Ok.said.task _ _ _ _ rs kept c.served.result c.served.ensures.finishes c.served.ensures.ended bad)

pub returns-clause-statuses : goal.returns-clause-statuses
returns-clause-statuses g c = subst (Contains (0 ∷ 1 ∷ 2 ∷ 4 ∷ 5 ∷ 6 ∷ 7 ∷ 9 ∷ [])) (sym c.status_of.ensures) (has-status c.served.result)

pub returns-clause-complete : goal.returns-clause-complete
returns-clause-complete g c accepted rs kept valid sink from to keeper =
    subst (Contains (0 ∷ 1 ∷ 7 ∷ [])) (sym c.status_of.ensures) (of-none c.in-Ok.said.task _ _ _ _ rs kept c.served.result _ _ c.served.ensures.ended c.served.ensures.rose valid sink from to keeper)
