-- Another incarnation as the current one.
use Rattle.std.proofs.Common.{ℕ, refl, arith}
use Rattle.rm_history.specs.Tree.{IsThere}
use Rattle.rm_catalog_typed.specs.{Changes.{with_base}, Facts.{IsTypedCatalog}, Fitting.{FitsBase}, TypedCatalog.{TypedCatalog}}
use Rattle.rm_catalog_typed.proofs.Fitted.{base_fits}

-- its number may come into the base facts
pub current-fits : (r : TypedCatalog) (i : ℕ) → IsTypedCatalog r → IsThere r.ledger.tree i → FitsBase r (record r.ledger.base { current = i })
current-fits r i rules there =
    let is = rules.ledger.base in
    record {
      facts = record { dbid = is.dbid; threads = is.threads; next_id = is.next_id; moment = is.moment; policy = is.policy; parallelism = is.parallelism };
      current = there;
      threads = refl;
      next_id = omega arith;
      moment = omega arith;
    }

pub current-kept : (r : TypedCatalog) (i : ℕ) → IsTypedCatalog r → IsThere r.ledger.tree i → IsTypedCatalog (with_base r (record r.ledger.base { current = i }))
current-kept r i rules there = base_fits r (record r.ledger.base { current = i }) rules (current-fits r i rules there)
