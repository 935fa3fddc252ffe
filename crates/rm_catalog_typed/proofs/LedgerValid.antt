-- The records of a ledger are a catalog's.
use Rattle.std.proofs.{Common.{get_or, sym, subst}, lemmas.List.Elements.{Contains-get_or}}
use Rattle.rm_catalog.specs.{Facts.{BaseRule, DatafileRule, MarkRule}, Rules.{OwnRule, IsCatalog}, Switches.{SwitchRule}}
use Rattle.rm_catalog.specs.declared.record.Record.{Record}
use Rattle.rm_catalog.specs.declared.record.Record.TheVariants as kind
use Rattle.rm_catalog_typed.{specs.{Ledger.{Ledger, ledger_records}, LedgerFacts.{IsLedger}}, proofs.Order.{records-order}}
use Rattle.rm_catalog_typed.proofs.{Lookups.{IsOwn, record-own, has-database}, Counted.{record-once, record-few}}
use Rattle.rm_catalog_typed.proofs.LedgerThings.{base-rule, incarnation-rule, datafile-rule, mark-rule, switch-rule}
use Rattle.rm_catalog_typed.proofs.LedgerObjects.{log-rule, piece-rule, set-rule}

-- each record obeys the rule of its kind
own-rule : (l : Ledger) (r : Record) → IsLedger l → IsOwn l r → OwnRule (ledger_records l) r
own-rule l (kind.Base b) is own = subst (BaseRule (ledger_records l)) (sym own) (base-rule l is)
own-rule l (kind.Incarnation i) is own = subst (OwnRule (ledger_records l)) (sym own.1) (incarnation-rule l i.inc is own.0)
own-rule l (kind.Datafile f) is n = subst (DatafileRule (ledger_records l)) (sym n.is) (datafile-rule l n.index n.item is n.there)
own-rule l (kind.Log e) is has = log-rule l e is has
own-rule l (kind.Piece p) is has = piece-rule l p is has
own-rule l (kind.Mark m) is n = subst (MarkRule (ledger_records l)) (sym n.is) (mark-rule l n.index n.item is n.there)
own-rule l (kind.Set e) is has = set-rule l e is has
own-rule l (kind.Switch x) is n = subst (SwitchRule (ledger_records l)) (sym n.is) (switch-rule l n.index n.item is n.there)
own-rule l r is none = absurd none

pub ledger-valid : (l : Ledger) → IsLedger l → IsCatalog (ledger_records l)
ledger-valid l is = record {
  order = records-order l is;
  valid = λ k d lt.
      let r = get_or (ledger_records l) k d in
      let has = Contains-get_or (ledger_records l) k d lt in
      record {
        once = record-once l r is has;
        few = record-few l r is has;
        base = has-database l;
        own = own-rule l r is (record-own l r has);
      };
}
