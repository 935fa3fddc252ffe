use Rattle.std.{specs.Prelude.{Err}, proofs.Common.{◌≡◌, ◌∙◌, ◌∷◌, [], ℕ, List, Option, Some, None, ap, subst, sym}}
use Rattle.rm_base.specs.declared.refusal.Refusal.TheVariants.{Rm19}
use Rattle.rm_history.specs.declared.tree.Incarnation.{Incarnation}
use Rattle.rm_machine.specs.State.{tree, world}
use Rattle.rm_piece.specs.declared.set.Set.{Set}
use Rattle.rm_standby.specs.Rolling.{Meets}
use Rattle.rm_tool_standby.{specs.{Done.{rolled_line}, Refused.{RefusesRoll, apart, none_to_roll, number_refusal}}, proofs.Exact.{a-tree}}
use Rattle.rm_tool_standby.proofs.Working.{rolled-work}
use Rattle.rm_tool_standby.proofs.rolling.rolled_over.Goals as goal

pub returns-in_default-clause-refused : goal.returns-in_default-clause-refused
returns-in_default-clause-refused c =
    coe 1 0 (i. RefusesRoll c.args.state.now c.args.n (c.in_default.is i) (Some c.args.increment.now) (c.in_ok-no_standby.ensures i)) (none_to_roll c.args.increment.now)

pub returns-in_ok-lines-in-Ok-clause-work : goal.returns-in_ok-lines-in-Ok-clause-work
returns-in_ok-lines-in-Ok-clause-work c from there =
    let s = c.args.state.now in
    let found = c.args.found.now in
    let x = c.in-Some.standby in
    let new = c.in-Ok.new in
    let increment = c.args.increment.now in
    rolled-work from s c.args.n found x increment new c.in_ok-lines-in-Ok.lines c.in-Some.is c.requires.left there
    (subst (λ (ns : List Incarnation). Meets ns x.1 increment) c.tree.ensures c.in-Ok.ensures.met) c.in-Ok.ensures.rolled c.in-Ok.ensures.valid
    (λ h at history was since. c.in-Ok.ensures.holds (world s) h at (sym c.tree.ensures) (a-tree s c.requires.sound) history was since)
    (c.in_ok-lines-in-Ok.ensures ∙ ap (λ n. rolled_line found new n ∷ []) c.in-Ok.ensures.changed)

pub returns-in-Err-Apart-clause-refused : goal.returns-in-Err-Apart-clause-refused
returns-in-Err-Apart-clause-refused c =
    let s = c.args.state.now in
    let x = c.in-Some.standby in
    let increment = c.args.increment.now in
    let left = subst (λ (o : Option (ℕ × Set)). number_refusal o ≡ None) c.in-Some.is c.requires.left in
    let not : ¬ Meets (tree s) x.1 increment = λ meets. c.roll.ensures.apart.0 (c.in-Err-Apart.is ∙ ap Err c.in-Err-Apart.field-0-is) (subst (λ (ns : List Incarnation). Meets ns x.1 increment) (sym c.tree.ensures) meets) in
    coe 1 0 (i. RefusesRoll s c.args.n (c.in-Some.is i) (Some increment) (Rm19 c.args.n (c.first_from.ensures i) x.1.checkpoint)) (apart x.0 x.1 increment left not)
