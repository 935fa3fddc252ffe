use Rattle.std.{specs.Prelude.{IfSome}, proofs.Common.{◌≡◌, ◌≤◌, take}}
use Rattle.rm_machine.specs.State.{ledger}
use Rattle.rm_step_backup.{specs.Logs.{Adds, AreRecorded}, proofs.Archived.{nothing}}
use Rattle.rm_step_backup.proofs.looking.look.Given as goal

abbrev pub invariant-loop-entry : goal.invariant-loop-entry
invariant-loop-entry g l = record {
  adds : IfSome (g.D.Store.held l.fn.store) (λ h. Adds h (take l.entry-index l.logs) nothing l.looked);
  recorded : AreRecorded (ledger l.state).logs l.entry-index l.looked.found;
  same : g.D.Store.held l.store ≡ g.D.Store.held l.fn.store;
  never_falls : g.D.Store.faults l.fn.store ≤ g.D.Store.faults l.store;
}
