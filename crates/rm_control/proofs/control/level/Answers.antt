use Rattle.std.{specs.{Option.{option_map}, Vec.{vec_len}}, proofs.Common.{◌≡◌, ◌∙◌, List, Option, true, ap, rules, sym, subst}}
use Rattle.rm_catalog.specs.{Edits.{after_edits}, Rules.{IsOrderOf}, declared.record.{Edit.{Edit}, Record.{Record}}}
use Rattle.rm_control.{specs.Follows.{AreEqual}, proofs.Following.{counted, leveled, none_by, same_after}}
use Rattle.rm_control.proofs.control.level.Goals.{then-not-is_empty+in_ok-apply, else-not-is_empty}
use Rattle.rm_control.proofs.control.level.Goals as goal

pub returns-clause-equal : goal.returns-clause-equal
returns-clause-equal g c =
    let es = c.in_ok-edits.edits.items in
    let far = g.F.Keeper.kept c.args.far.now in
    let here = c.in_ok-load-2.ensures.same in
    let after : g.F.Keeper.kept c.if-not-is_empty.far ≡ option_map (after_edits es) far = elim c.if-not-is_empty.branch [
      | then-not-is_empty+in_ok-apply w ↦
          ap g.F.Keeper.kept w.far-is ∙ w.in_ok-apply.ensures.ok ∙ ap (λ (x : List Edit). option_map (after_edits x) (g.F.Keeper.kept c.load-2.new.self)) w.deref.ensures.value
          ∙ ap (λ (o : Option (List Record)). option_map (after_edits es) o) here
      | else-not-is_empty w ↦
          let yes : c.is_empty.result ≡ true = search rules in
          let none = none_by es (vec_len c.in_ok-edits.edits) c.is_empty.result (sym c.in_ok-edits.edits.ok.0) c.is_empty.ensures yes in
          ap g.F.Keeper.kept w.far-is ∙ here ∙ same_after far es none
    ] in
    subst (λ (o : Option (List Record)). AreEqual o (g.F.Keeper.kept c.if-not-is_empty.far)) (sym c.in_ok-load.ensures.same)
    (leveled (g.N.Keeper.kept c.args.near.now) far (g.F.Keeper.kept c.if-not-is_empty.far) c.in_ok-load.field-0 c.in_ok-load-2.field-0 c.in_order-wanted.result.items c.in_order-present.result.items es
    c.in_ok-load.ensures.records c.in_ok-load.ensures.ascends c.in_ok-load-2.ensures.records c.in_ok-load-2.ensures.ascends
    (subst (λ (rs : List Record). IsOrderOf c.in_order-wanted.result.items rs) c.into_vec.ensures c.in_order-wanted.ensures)
    (subst (λ (rs : List Record). IsOrderOf c.in_order-present.result.items rs) c.into_vec-2.ensures c.in_order-present.ensures)
    c.in_ok-edits.ensures.made after)

pub returns-clause-count : goal.returns-clause-count
returns-clause-count g c =
    counted (g.N.Keeper.kept c.args.near.now) c.in_ok-load.field-0 c.in_order-wanted.result.items c.len-number.result c.in_ok-load.ensures.records
    (subst (λ (rs : List Record). IsOrderOf c.in_order-wanted.result.items rs) c.into_vec.ensures c.in_order-wanted.ensures) (search rules)
