use Rattle.rm_catalog_typed.proofs.LedgerValid.{ledger-valid}
use Rattle.rm_catalog_typed.proofs.ledger_laws.a_ledger_is_valid.Goals as goal

pub returns : goal.returns
returns c l is = ledger-valid l is
