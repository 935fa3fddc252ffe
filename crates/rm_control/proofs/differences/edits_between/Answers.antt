use Rattle.std.proofs.{Common.{◌≡◌, ◌∙◌, ◌∷◌, ◌++◌, [], List, Option, rules, sym, subst}, lemmas.Option.{none-some}}
use Rattle.rm_catalog.specs.declared.record.Edit.{Edit}
use Rattle.rm_control.{specs.Steps.{IsStep}, proofs.Going.{Stands, stands_edit}}
use Rattle.rm_control.proofs.differences.edits_between.Goals as goal

pub keys-preserved-in-Continue-1 : goal.keys-preserved-in-Continue-1
keys-preserved-in-Continue-1 c =
    let at = c.keys in
    let w = c.step.new.wanted.items in
    let p = c.step.new.present.items in
    let pushed : c.push.new.self.items ≡ at.edits.items ++ c.in-Some-edit.edit ∷ [] = search rules in
    record {
      stands = λ up down. subst (λ (es : List Edit). Stands c.args.wanted.items c.args.present.items es w p) (sym pushed)
          (stands_edit c.args.wanted.items c.args.present.items at.edits.items at.wanted.items at.present.items w p c.in-Some-edit.edit up down
          (subst (λ (e : Option Edit). IsStep at.wanted.items at.present.items e w p) c.in-Some-edit.is c.in-Some.ensures.step) (at.invariant.stands up down));
      same = λ is. absurd (none-some c.in-Some-edit.edit (sym (c.in-Some.ensures.same (at.invariant.same is).1).0 ∙ c.in-Some-edit.is));
    }
