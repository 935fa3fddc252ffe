-- Which logs, pieces and sets the records of a typed catalog have.
use Rattle.std.proofs.Common.{◌<◌, ◌≤◌, ◌++◌, ◌⊎◌, inl, inr, arith, Contains}
use Rattle.std.proofs.lemmas.List.Elements.{All-contains, Contains-append_cases, Contains-append_left, Contains-append_right}
use Rattle.rm_catalog.specs.{Keys.{place, place_of}, declared.record.{LogEntry.{LogEntry}, PieceEntry.{PieceEntry}, Record.{Record}}}
use Rattle.rm_catalog.{specs.declared.record.SetEntry.{SetEntry}, proofs.Running.{runs-within}}
use Rattle.rm_catalog.specs.declared.record.Record.TheVariants as kind
use Rattle.rm_catalog_typed.specs.{Ledger.{back_records, front_records, ledger_records}, Facts.{IsTypedCatalog}}
use Rattle.rm_catalog_typed.{specs.TypedCatalog.{TypedCatalog, records_of, saved_records}, proofs.Lookups.{own-has, record-own}}
use Rattle.rm_catalog_typed.proofs.Changed.{saved-run}

-- a record is one of the ledger, or of the saved site
pub either-of : (r : TypedCatalog) (x : Record) → Contains (records_of r) x → Contains (ledger_records r.ledger) x ⊎ Contains (saved_records r.saved) x
either-of r x has = elim (Contains-append_cases (front_records r.ledger ++ saved_records r.saved) (back_records r.ledger) x has) [
  | inl early ↦ elim (Contains-append_cases (front_records r.ledger) (saved_records r.saved) x early) [
    | inl low ↦ inl (Contains-append_left (front_records r.ledger) (back_records r.ledger) x low)
    | inr site ↦ inr site
  ]
  | inr late ↦ inl (Contains-append_right (front_records r.ledger) (back_records r.ledger) x late)
]

-- what stands elsewhere than the saved site is the ledger's
in-ledger : (r : TypedCatalog) (x : Record) → IsTypedCatalog r → (place_of x < place 7 0) ⊎ (place 9 0 ≤ place_of x) → Contains (records_of r) x → Contains (ledger_records r.ledger) x
in-ledger r x is elsewhere has = elim (either-of r x has) [
  | inl own ↦ own
  | inr site ↦
      let within = All-contains (λ (y : Record). (place 7 0 ≤ place_of y) × (place_of y < place 9 0)) (saved_records r.saved) x (runs-within (place 7 0) (place 9 0) (saved_records r.saved) (saved-run r is)) site in
      absurd (elim elsewhere [ inl low ↦ omega arith | inr high ↦ omega arith ])
]

-- and what is the ledger's, or the saved site's, is there
pub ledger-has : (r : TypedCatalog) (x : Record) → Contains (ledger_records r.ledger) x → Contains (records_of r) x
ledger-has r x has = elim (Contains-append_cases (front_records r.ledger) (back_records r.ledger) x has) [
  | inl low ↦ Contains-append_left (front_records r.ledger ++ saved_records r.saved) (back_records r.ledger) x (Contains-append_left (front_records r.ledger) (saved_records r.saved) x low)
  | inr late ↦ Contains-append_right (front_records r.ledger ++ saved_records r.saved) (back_records r.ledger) x late
]

pub site-has : (r : TypedCatalog) (x : Record) → Contains (saved_records r.saved) x → Contains (records_of r) x
site-has r x has =
    Contains-append_left (front_records r.ledger ++ saved_records r.saved) (back_records r.ledger) x (Contains-append_right (front_records r.ledger) (saved_records r.saved) x has)

pub log-in : (r : TypedCatalog) (e : LogEntry) → IsTypedCatalog r → Contains (records_of r) (kind.Log e) → Contains r.ledger.logs e
log-in r e is has = record-own r.ledger (kind.Log e) (in-ledger r (kind.Log e) is (inl (omega arith)) has)

pub log-has : (r : TypedCatalog) (e : LogEntry) → Contains r.ledger.logs e → Contains (records_of r) (kind.Log e)
log-has r e has = ledger-has r (kind.Log e) (own-has r.ledger (kind.Log e) has)

pub piece-in : (r : TypedCatalog) (e : PieceEntry) → IsTypedCatalog r → Contains (records_of r) (kind.Piece e) → Contains r.ledger.pieces e
piece-in r e is has = record-own r.ledger (kind.Piece e) (in-ledger r (kind.Piece e) is (inl (omega arith)) has)

pub piece-has : (r : TypedCatalog) (e : PieceEntry) → Contains r.ledger.pieces e → Contains (records_of r) (kind.Piece e)
piece-has r e has = ledger-has r (kind.Piece e) (own-has r.ledger (kind.Piece e) has)

pub set-in : (r : TypedCatalog) (e : SetEntry) → IsTypedCatalog r → Contains (records_of r) (kind.Set e) → Contains r.ledger.sets e
set-in r e is has = record-own r.ledger (kind.Set e) (in-ledger r (kind.Set e) is (inr (omega arith)) has)

pub set-has : (r : TypedCatalog) (e : SetEntry) → Contains r.ledger.sets e → Contains (records_of r) (kind.Set e)
set-has r e has = ledger-has r (kind.Set e) (own-has r.ledger (kind.Set e) has)
