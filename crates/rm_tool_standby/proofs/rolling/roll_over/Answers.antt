use Rattle.std.proofs.{Common.{◌∙◌, List, ℕ, Option, Some, None, subst, sym}, lemmas.Result.{IfErr-weaker}}
use Rattle.rm_base.specs.declared.refusal.{Refusal.TheVariants.{Rm12}, Unknown.TheVariants.{Object}}
use Rattle.rm_evidence.specs.Names.{roll_name}
use Rattle.rm_lang_words.specs.declared.standby.StandbyTask.TheVariants.{Roll}
use Rattle.rm_piece.specs.declared.set.Set.{Set}
use Rattle.rm_tool_standby.specs.Refused.{FindsIncrement, RefusesRoll, RefusesTask, no_increment, no_number, roll}
use Rattle.rm_tool_standby.proofs.rolling.roll_over.Goals as goal

pub returns-in-Some-clause-refused : goal.returns-in-Some-clause-refused
returns-in-Some-clause-refused g c =
    let increment = c.in_ok-increment.increment in
    let r = c.in-Some.refusal in
    roll c.args.n increment r c.in_ok-increment.ensures.found (no_number c.args.found.now increment r (sym c.number_refusal.ensures ∙ c.in-Some.is))

pub returns-in_default-increment-clause-refused : goal.returns-in_default-increment-clause-refused
returns-in_default-increment-clause-refused g c =
    let held = g.D.Store.held c.args.from.now in
    let s = c.args.state.now in
    let n = c.args.n in
    let found = c.args.found.now in
    let there = subst (λ (o : Option Set). FindsIncrement held n o) c.in_default-increment.is c.in_ok-increment.ensures.found in
    subst (λ (name : List ℕ). RefusesTask held s found (Roll n) (Rm12 (Object name))) (sym c.in_ok-name.ensures)
    (roll n None (Rm12 (Object (roll_name n))) there (no_increment found (sym c.number_refusal.ensures ∙ c.in_default.is)))

pub returns-clause-refused : goal.returns-clause-refused
returns-clause-refused g c =
    let held = g.D.Store.held c.args.from.now in
    let s = c.args.state.now in
    let n = c.args.n in
    let found = c.args.found.now in
    let increment = c.in-Some-increment.increment in
    let there = subst (λ (o : Option Set). FindsIncrement held n o) c.in-Some-increment.is c.in_ok-increment.ensures.found in
    IfErr-weaker c.in_ok-rolled_over.field-0 (RefusesRoll s n found (Some increment)) (RefusesTask held s found (Roll n)) (λ r why. roll n (Some increment) r there why) c.in_ok-rolled_over.ensures.refused
