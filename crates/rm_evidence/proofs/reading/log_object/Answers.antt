use Rattle.std.{specs.Prelude.{IsTrue}, proofs.Common.{◌∙◌, sym, subst}}
use Rattle.rm_base.proofs.Sealing.{sealed_same}
use Rattle.rm_evidence.specs.Objects.{HasLogFields}
use Rattle.rm_evidence.proofs.reading.log_object.Goals as goal

pub returns-else-has_log_fields-clause-none : goal.returns-else-has_log_fields-clause-none
returns-else-has_log_fields-clause-none c x is =
    let told = c.in-Ok.ensures.only x is.valid (sealed_same _ _ (sym c.in-Some.ensures.sealed ∙ is.spelled)) in
    let yes : IsTrue c.has_log_fields.result = c.has_log_fields.ensures.1 (subst (HasLogFields c.args.entry.now) (sym told) is.fields) in
    let no = c.if-has_log_fields.false in
    absurd cc

pub returns-in-Err-Bad-clause-none : goal.returns-in-Err-Bad-clause-none
returns-in-Err-Bad-clause-none c x is =
    let told = c.in-Err-Bad.ensures.only x is.valid (sealed_same _ _ (sym c.in-Some.ensures.sealed ∙ is.spelled)) in
    absurd cc
