use Rattle.std.proofs.Common.{◌≡◌, ◌≤◌, take, true}
use Rattle.rm_tool.{specs.Run.{watch}, proofs.Runs.{Progress}}
use Rattle.rm_tool.proofs.session.serve_all.Given as goal

abbrev pub invariant-loop-line : goal.invariant-loop-line
invariant-loop-line g l =
    let told = g.K.Sink.contents in
    let held = g.D.Store.held in
    let kept = g.C.Keeper.kept in
    let told_by = g.T.Clock.answers in
    let asked = g.T.Clock.asked in
    record {
      progress : Progress (take l.line-index l.statements) (watch (told_by l.fn.clock) (asked l.fn.clock)) (watch (told_by l.clock) (asked l.clock)) (told l.fn.sink) (told l.sink) (held l.fn.store) (kept l.fn.keeper) l.fn.site (held l.store) (kept l.keeper) l.site l.tally;
      live : l.site.live ≡ true;
      sink : g.K.Sink.faults l.fn.sink ≤ g.K.Sink.faults l.sink;
      store : g.D.Store.faults l.fn.store ≤ g.D.Store.faults l.store;
      keeper : g.C.Keeper.faults l.fn.keeper ≤ g.C.Keeper.faults l.keeper;
    }
