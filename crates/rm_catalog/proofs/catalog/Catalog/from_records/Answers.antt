use Rattle.std.proofs.Common.{◌∙◌, List, sym, subst, rules}
use Rattle.rm_catalog.specs.{Keys.{InOrder}, Rules.{IsCatalog, IsOrderOf, IsFirstBad}, declared.record.Record.{Record}}
use Rattle.rm_catalog.proofs.{Unique.{one_order, none_valid}, Told.{one_told, one_key}}
use Rattle.rm_catalog.proofs.catalog.Catalog.from_records.Goals as goal

pub returns-in-Some-clause-only : goal.returns-in-Some-clause-only
returns-in-Some-clause-only c s order valid =
    none_valid c.args.records s c.in_order-records.result.items c.in-Some.key
    (subst (λ (x : List Record). IsOrderOf c.in_order-records.result.items x) c.into_vec.ensures c.in_order-records.ensures)
    (subst (λ (x : List Record). IsFirstBad x c.in-Some.key) c.deref.ensures.value c.in-Some.ensures.some)
    order valid

pub returns-clause-only : goal.returns-clause-only
returns-clause-only c s order valid = c.in_ok-from_valid.ensures ∙ c.from_vec.ensures ∙ sym (one_order c.args.records s c.in_order-records.result.items order
    (subst (λ (x : List Record). IsOrderOf c.in_order-records.result.items x) c.into_vec.ensures c.in_order-records.ensures) valid)

pub returns-in-Some-clause-told : goal.returns-in-Some-clause-told
returns-in-Some-clause-told c s key small order bad =
    one_key c.in-Some.key key c.in-Some.ensures.id small (one_told c.args.records c.in_order-records.result.items s c.in-Some.key key
    (subst (λ (x : List Record). IsOrderOf c.in_order-records.result.items x) c.into_vec.ensures c.in_order-records.ensures) order
    (subst (λ (x : List Record). IsFirstBad x c.in-Some.key) c.deref.ensures.value c.in-Some.ensures.some) bad)

pub returns-clause-told : goal.returns-clause-told
returns-clause-told c s key small order bad =
    none_valid c.args.records c.in_order-records.result.items s key order bad
    (subst (λ (x : List Record). IsOrderOf c.in_order-records.result.items x) c.into_vec.ensures c.in_order-records.ensures) (search rules)

pub first_bad-requires : goal.first_bad-requires
first_bad-requires c = subst (λ (x : List Record). InOrder x) (sym c.deref.ensures.value) c.in_order-records.ensures.order

pub from_valid-requires : goal.from_valid-requires
from_valid-requires c = subst (λ (x : List Record). IsCatalog x) (sym c.from_vec.ensures) (record { order = c.in_order-records.ensures.order; valid = search rules })
