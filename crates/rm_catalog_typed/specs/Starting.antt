-- A typed catalog as it was before a statement.
use Rattle.std.specs.Prelude.{ℕ, Option}
use Rattle.rm_catalog_typed.specs.TypedCatalog.{TypedCatalog, Saved}

-- at this latest moment, and with this saved site or none
abbrev pub with_earlier : TypedCatalog → ℕ → Option Saved → TypedCatalog
with_earlier r moment saved = record r { ledger = record r.ledger { base = record r.ledger.base { moment = moment } }; saved = saved }
