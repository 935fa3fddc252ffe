use Rattle.std.proofs.Common.{◌≡◌, ◌∙◌, ap, sym}
use Rattle.rm_catalog_typed.specs.TypedCatalog.{TypedCatalog, records_of}
use Rattle.rm_machine.specs.declared.state.State.{State}
use Rattle.rm_step_open.proofs.branching.branch_off.Goals as goal

pub returns-clause-edits : goal.returns-clause-edits
returns-clause-edits c =
    let same : c.open_at.new.state.catalog ≡ c.args.state.now.catalog = ap (λ (s : State). s.catalog) c.open_at.ensures.value in
    let first = c.in_ok-branch.ensures.edits in
    let second = c.in_ok-set_base.ensures.edits in
    record { lead = λ rs is. second.lead rs (first.lead rs (is ∙ ap (λ (r : TypedCatalog). records_of r) (sym same))) }
