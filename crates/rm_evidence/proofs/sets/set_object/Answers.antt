use Rattle.std.{specs.Prelude.{IsTrue}, proofs.Common.{◌∙◌, sym, subst}}
use Rattle.rm_base.proofs.Sealing.{sealed_same}
use Rattle.rm_evidence.{specs.{Database.{database_in}, Objects.{HasSetFields}}, proofs.Parts.{numbered}}
use Rattle.rm_evidence.proofs.sets.set_object.Goals as goal

pub has_set_fields-requires : goal.has_set_fields-requires
has_set_fields-requires c = numbered c.in-Ok.set c.in-Ok.ensures.valid

pub returns-else-has_set_fields-clause-none : goal.returns-else-has_set_fields-clause-none
returns-else-has_set_fields-clause-none c x is =
    let told = c.in-Ok.ensures.only x is.valid (sealed_same _ _ (sym c.in-Some.ensures.sealed ∙ is.spelled)) in
    let yes : IsTrue c.has_set_fields.result = c.has_set_fields.ensures.1 (subst (HasSetFields (database_in c.args.catalog.now) c.args.entry.now) (sym told) is.fields) in
    let no = c.if-has_set_fields.false in
    absurd cc

pub returns-in-Err-Bad-clause-none : goal.returns-in-Err-Bad-clause-none
returns-in-Err-Bad-clause-none c x is =
    let told = c.in-Err-Bad.ensures.only x is.valid (sealed_same _ _ (sym c.in-Some.ensures.sealed ∙ is.spelled)) in
    absurd cc
