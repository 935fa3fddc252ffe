use Rattle.std.proofs.Common.{◌∙◌, List, [], ℕ, ap, map}
use Rattle.rm_base.specs.declared.kinds.Status.{Status}
use Rattle.rm_evidence.{specs.Gathered.{Lists}, proofs.Seen.{seen-told}}
use Rattle.rm_verify.specs.Crosscheck.{IsChecked, stands_in}
use Rattle.rm_machine.specs.{Upkeep.{with_catalog, with_statuses}, declared.state.State.{State}}
use Rattle.rm_step_upkeep.{specs.Lines.{status_line}, proofs.Checked.{checked-dated, checked-hands}}
use Rattle.rm_step_upkeep.proofs.crosschecking.crosscheck.Goals as goal

pub returns-clause-hands : goal.returns-clause-hands
returns-clause-hands g c =
    let s : State = c.args.state.now in
    let held = g.D.Store.held c.args.store.now in
    checked-hands held s c.args.class (record { lines = c.in_ok-lines.lines; objects = c.new.result; removes = c.new-2.result }) c.set_all.new.state c.in_ok-checked.checked c.in_ok-records.records
    c.in_ok-records.ensures.records (seen-told held (λ h. Lists Status [] (IsChecked (stands_in h) c.in_ok-records.records c.args.class) c.in_ok-checked.checked) c.in_ok-checked.ensures.checked) (c.in_ok-lines.ensures.lines ∙ ap (map status_line) c.as_slice.ensures) c.new.ensures c.new-2.ensures
    (c.in_ok-lines.ensures.value ∙ ap (λ (xs : List (ℕ × Status)). with_catalog s (with_statuses xs s.catalog)) c.as_slice.ensures)

pub returns-clause-dates : goal.returns-clause-dates
returns-clause-dates g c = checked-dated c.as_slice.result.now c.in_ok-lines.lines c.in_ok-lines.ensures.lines
