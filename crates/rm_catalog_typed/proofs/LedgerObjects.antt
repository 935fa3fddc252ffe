-- The logs, the pieces and the sets of a ledger obey their rules.
use Rattle.std.specs.Prelude.{Contains, IsSomeAnd}
use Rattle.std.proofs.Common.{◌≡◌, ◌∙◌, ℕ, ◌+◌, ◌-◌, ◌<◌, ◌≤◌, Option, Some, ap, sym, subst, arith, slice_get}
use Rattle.std.proofs.lemmas.List.Elements.{All-contains, All-weaker}
use Rattle.rm_history.specs.{Tree.{IsThere}, declared.world.Datafile.{Datafile}}
use Rattle.rm_catalog.specs.{Keys.{datafile}, Objects.{IdRule, IsRange, LogRule, FitsDatafile, PieceRule}}
use Rattle.rm_catalog.specs.{SetRules.{FitsSetFile, SetPartRule, SetRule}, declared.record.DatafileEntry.{DatafileEntry}}
use Rattle.rm_catalog.specs.declared.record.{LogEntry.{LogEntry}, PieceEntry.{PieceEntry}, SetEntry.{SetEntry}, SetPart.{SetPart}}
use Rattle.rm_catalog.proofs.ByKinds.{all-free, own-free}
use Rattle.rm_catalog_typed.specs.{Ledger.{Ledger, ledger_records}, LedgerFacts.{IsLedger, IsLogEntry, IsPieceEntry, IsSetEntry, IsSetPart}}
use Rattle.rm_catalog_typed.proofs.Lookups.{datafile_entry, datafile-found, log-id-within, no-log, no-part, no-piece, no-set, piece-id-within, set-id-within}
use Rattle.rm_catalog_typed.proofs.{Paths.{path-is}, LedgerThings.{on-incarnation}}

log-id : (l : Ledger) (e : LogEntry) → IsLedger l → Contains l.logs e → IdRule (ledger_records l) 4 e.id
log-id l e is has =
    let within = log-id-within l e is has in
    record {
      number = within.0;
      below = within.1;
      free =
          all-free (ledger_records l) 4 e.id
          (own-free (ledger_records l) 4 e.id)
          (λ _. no-piece l e.id is within.1 (λ p other. is.ids.apart e p has other))
          (λ _. no-part l e.id)
          (λ _. no-set l e.id is within.1 (λ s other. is.ids.logs_apart e s has other));
    }

pub log-rule : (l : Ledger) (e : LogEntry) → IsLedger l → Contains l.logs e → LogRule (ledger_records l) e
log-rule l e is has =
    let f = All-contains (IsLogEntry l.tree) l.logs e is.logs has in
    record {
      id = log-id l e is has;
      size = f.size;
      thread = f.thread;
      sequence = f.sequence;
      range = on-incarnation l e.inc (IsRange e) is f.there (record { first = f.range.0; some = f.range.1; next = f.range.2 });
    }

piece-id : (l : Ledger) (p : PieceEntry) → IsLedger l → Contains l.pieces p → IdRule (ledger_records l) 5 p.id
piece-id l p is has =
    let within = piece-id-within l p is has in
    record {
      number = within.0;
      below = within.1;
      free =
          all-free (ledger_records l) 5 p.id
          (λ _. no-log l p.id is within.1 (λ e other same. is.ids.apart e p other has (sym same)))
          (own-free (ledger_records l) 5 p.id)
          (λ _. no-part l p.id)
          (λ _. no-set l p.id is within.1 (λ s other. is.ids.pieces_apart p s has other));
    }

-- what holds of a datafile of the list holds of its record
on-file : (l : Ledger) (file : ℕ) (d : Datafile) (P : DatafileEntry → Type 0) → IsLedger l → 0 < file → slice_get l.files (file - 1) ≡ Some d → P (datafile_entry (1 + (file - 1)) d) → IsSomeAnd (datafile file (ledger_records l)) P
on-file l file d P is some there holds =
    let number : 1 + (file - 1) ≡ file = omega arith in
    let found : datafile file (ledger_records l) ≡ Some (datafile_entry (1 + (file - 1)) d) = ap (λ (n : ℕ). datafile n (ledger_records l)) (sym number) ∙ datafile-found l (file - 1) d is there in
    subst (λ (o : Option DatafileEntry). IsSomeAnd o P) (sym found) holds

pub piece-rule : (l : Ledger) (p : PieceEntry) → IsLedger l → Contains l.pieces p → PieceRule (ledger_records l) p
piece-rule l p is has =
    let f = All-contains (IsPieceEntry l.tree l.files) l.pieces p is.pieces has in
    let d = f.file.datafile in
    record {
      id = piece-id l p is has;
      size = f.size;
      end = on-incarnation l p.inc (λ i. p.high ≤ i.end) is f.there f.high;
      file = on-file l p.file d (FitsDatafile (ledger_records l) p) is f.file.number f.file.is (record { path = path-is l p.inc d.creation is f.there ∙ f.file.path; rows = f.file.rows });
      checkpoint = f.checkpoint;
      kind = f.kind;
      tag = f.tag;
    }

set-id : (l : Ledger) (e : SetEntry) → IsLedger l → Contains l.sets e → IdRule (ledger_records l) 9 e.id
set-id l e is has =
    let within = set-id-within l e is has in
    record {
      number = within.0;
      below = within.1;
      free =
          all-free (ledger_records l) 9 e.id
          (λ _. no-log l e.id is within.1 (λ x other same. is.ids.logs_apart x e other has (sym same)))
          (λ _. no-piece l e.id is within.1 (λ p other same. is.ids.pieces_apart p e other has (sym same)))
          (λ _. no-part l e.id)
          (own-free (ledger_records l) 9 e.id);
    }

set-part-rule : (l : Ledger) (e : SetEntry) (p : SetPart) → IsLedger l → IsThere l.tree e.inc → IsSetPart l.tree l.files e p → SetPartRule (ledger_records l) e p
set-part-rule l e p is there f = record {
  file = on-file l p.file f.datafile (FitsSetFile (ledger_records l) e p) is f.number f.is (record { path = path-is l e.inc f.datafile.creation is there ∙ f.path; creation = f.creation; rows = f.rows });
  kind = f.kind;
  high = f.high.0;
  end = on-incarnation l e.inc (λ i. p.high ≤ i.end) is there f.high.1;
}

pub set-rule : (l : Ledger) (e : SetEntry) → IsLedger l → Contains l.sets e → SetRule (ledger_records l) e
set-rule l e is has =
    let f = All-contains (IsSetEntry l.tree l.files) l.sets e is.sets has in
    record {
      id = set-id l e is has;
      size = f.size;
      checkpoint = f.checkpoint;
      parts = record {
        some = f.count.0;
        few = f.count.1;
        ascend = f.ascend;
        each = All-weaker (IsSetPart l.tree l.files e) (SetPartRule (ledger_records l) e) (λ p fits. set-part-rule l e p is f.there fits) e.parts f.parts;
      };
      tag = f.tag;
    }
