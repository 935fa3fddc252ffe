use Rattle.rm_catalog_typed.proofs.Fresh.{fresh_is_ledger}
use Rattle.rm_catalog_typed.proofs.ledger_laws.a_new_database_has_a_ledger.Goals as goal

pub returns-clause-ledger : goal.returns-clause-ledger
returns-clause-ledger c dbid threads scn moment one some four from most late = fresh_is_ledger dbid threads scn moment one some four from most late
