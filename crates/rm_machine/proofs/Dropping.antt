-- The names of logs, pieces and sets are none of a saved site.
use Rattle.std.proofs.Common.{◌≢◌, ℕ, List}
use Rattle.rm_catalog_typed.specs.Ledger.{Ledger}
use Rattle.rm_evidence.{specs.Names.{site_name}, proofs.Names.{log-no-site, piece-no-site, set-no-site}}
use Rattle.rm_machine.specs.Names.{IsObjectName, of_log, of_piece, of_set}

-- the name is that of no part
abbrev pub IsNoSite : List ℕ → Type 0
IsNoSite name = (id : ℕ) → name ≢ site_name id

pub no-site : (l : Ledger) (name : List ℕ) → IsObjectName l name → IsNoSite name
no-site l _ (of_log e has) id = log-no-site e.id id
no-site l _ (of_piece e has) id = piece-no-site e.copy e.id id
no-site l _ (of_set e has) id = set-no-site e.id id
