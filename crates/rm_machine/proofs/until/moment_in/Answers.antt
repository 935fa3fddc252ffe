use Rattle.std.proofs.Common.{refl, ap, ◌∙◌}
use Rattle.rm_catalog.specs.declared.record.BaseEntry.{BaseEntry}
use Rattle.rm_moments.{specs.Meant.{moment_meant}, proofs.Meant.{meant-is, meant-none}}
use Rattle.rm_machine.proofs.until.moment_in.Goals as goal

pub returns-in-Some : goal.returns-in-Some
returns-in-Some c =
    meant-is c.as_str.result.now c.base.result.moment c.in-Some.moment c.in-Some.ensures.some
    ∙ ap (λ text. moment_meant text c.base.result.moment) c.as_str.ensures ∙ ap (λ (b : BaseEntry). moment_meant c.args.text.now b.moment) c.base.ensures.value

pub returns-in-None : goal.returns-in-None
returns-in-None c =
    meant-none c.as_str.result.now c.base.result.moment (c.in-None.ensures.none refl)
    ∙ ap (λ text. moment_meant text c.base.result.moment) c.as_str.ensures ∙ ap (λ (b : BaseEntry). moment_meant c.args.text.now b.moment) c.base.ensures.value
