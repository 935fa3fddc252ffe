-- Ids of records, ascending: each can be one, and they can be counted.
use Rattle.std.proofs.Common.{◌≡◌, ◌≤◌, ◌<◌, ◌^◌, ℕ, List, Some, subst, arith, length, get_or, All, AllPairs, Contains}
use Rattle.std.proofs.lemmas.List.Elements.{Contains-get_or, All-contains}
use Rattle.rm_base.proofs.Lists.{few-between}
use Rattle.rm_catalog.specs.declared.record.{Record.{Record}, LogEntry.{LogEntry}, PieceEntry.{PieceEntry}, SetEntry.{SetEntry}}
use Rattle.rm_catalog.specs.declared.record.Record.TheVariants as kind
use Rattle.rm_evidence.specs.Names.{object_id}
use Rattle.rm_catalog_typed.specs.{Facts.{IsTypedCatalog}, TypedCatalog.{TypedCatalog, records_of}}
use Rattle.rm_catalog_typed.proofs.Members.{log-in, piece-in, set-in}

-- an id that can be one
abbrev pub IsId : ℕ → Type 0
IsId n = (1 ≤ n) × (n < 4294967296)

module _ (r : TypedCatalog) (rules : IsTypedCatalog r) where
  pub log-id : (e : LogEntry) → Contains r.ledger.logs e → IsId e.id
  log-id e has =
      let range = All-contains (λ (x : LogEntry). (1 ≤ x.id) × (x.id < r.ledger.base.next_id)) r.ledger.logs e rules.ledger.ids.logs has in
      (range.0, omega (arith, range.1, rules.ledger.base.next_id.1))

  pub piece-id : (p : PieceEntry) → Contains r.ledger.pieces p → IsId p.id
  piece-id p has =
      let range = All-contains (λ (x : PieceEntry). (1 ≤ x.id) × (x.id < r.ledger.base.next_id)) r.ledger.pieces p rules.ledger.ids.pieces has in
      (range.0, omega (arith, range.1, rules.ledger.base.next_id.1))

  pub set-id : (e : SetEntry) → Contains r.ledger.sets e → IsId e.id
  set-id e has =
      let range = All-contains (λ (x : SetEntry). (1 ≤ x.id) × (x.id < r.ledger.base.next_id)) r.ledger.sets e rules.ledger.ids.sets has in
      (range.0, omega (arith, range.1, rules.ledger.base.next_id.1))

-- a record of a log, a piece or a set has an id that can be one
pub row-id : (r : TypedCatalog) (x : Record) (n : ℕ) → IsTypedCatalog r → object_id x ≡ Some n → Contains (records_of r) x → IsId n
row-id r (kind.Log l) n rules is has = let same : l.id ≡ n = cc in subst IsId same (log-id r rules l (log-in r l rules has))
row-id r (kind.Piece p) n rules is has = let same : p.id ≡ n = cc in subst IsId same (piece-id r rules p (piece-in r p rules has))
row-id r (kind.Set e) n rules is has = let same : e.id ≡ n = cc in subst IsId same (set-id r rules e (set-in r e rules has))
row-id r x n rules is has = absurd (cc)

pub some-ids : (ids : List ℕ) → ((n : ℕ) → Contains ids n → IsId n) → All (λ n. 1 ≤ n) ids
some-ids ids each = λ k d inside. (each (get_or ids k d) (Contains-get_or ids k d inside)).0

-- items that ascend by their ids are so few that they are counted
pub few-ids : {X : Type 0} (f : X → ℕ) (xs : List X) → ((x : X) → Contains xs x → IsId (f x)) → AllPairs (λ x y. f x < f y) xs → length xs < 2 ^ 32
few-ids f xs each up = let few = few-between f xs 1 4294967295 up (λ x has. let r = each x has in (r.0, let most = r.1 in omega (arith, most))) in omega (arith, few)
