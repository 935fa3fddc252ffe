use Rattle.std.proofs.Common.{◌≡◌, ◌∙◌, All, IfOk, ap, map, sym, subst}
use Rattle.rm_catalog_typed.specs.Switches.{enabled_at}
use Rattle.rm_history.specs.Tree.{end_of}
use Rattle.rm_machine.{specs.Loading.{inc_of_first, where_of}, proofs.FirstLogs.{OfLog, kept-valid}}
use Rattle.rm_redo.specs.{LogFormat.{IsLogFile}, Online.{logs_of}}
use Rattle.rm_session.proofs.threads.online_of.Goals as goal

pub from_logs-requires-clause-valid : goal.from_logs-requires-clause-valid
from_logs-requires-clause-valid c =
    subst (All (OfLog IsLogFile)) (sym c.in_ok-kept.ensures) (kept-valid c.inc_of_first-inc.result c.args.logs c.requires.valid)

pub returns : goal.returns
returns c =
    let l = c.args.catalog.now.ledger in
    let ended = c.end_of.ensures ∙ ap (λ tree. end_of tree c.inc_of_first-inc.result) c.tree.ensures in
    let enabled = c.enabled_at-enabled.ensures ∙ ap (enabled_at l c.inc_of_first-inc.result) ended in
    let inc : c.inc_of_first-inc.result ≡ inc_of_first l.base.current c.args.logs = c.inc_of_first-inc.ensures ∙ (λ i. inc_of_first (c.base-base.ensures.value i).current (c.as_slice.ensures i)) in
    subst (λ logs. IfOk c.from_logs.result (λ online. online ≡ logs))
    ((λ i. logs_of (c.base-base.ensures.value i).dbid c.inc_of_first-inc.result (enabled i) (c.in_ok-kept.ensures i)) ∙ ap (λ n. logs_of l.base.dbid n (enabled_at l n (end_of l.tree n)) (map (where_of n) c.args.logs)) inc)
    c.from_logs.ensures
