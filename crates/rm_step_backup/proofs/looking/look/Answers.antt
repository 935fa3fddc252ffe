use Rattle.std.proofs.Common.{◌≡◌, ◌<◌, ◌∙◌, List, AllPairs, Contains, get_or, refl, arith, subst, sym}
use Rattle.std.proofs.lemmas.{List.Elements.{Contains-get_or}, Option.{IfSome_then}}
use Rattle.rm_catalog.specs.declared.record.LogEntry.{LogEntry}
use Rattle.rm_step_backup.{specs.Logs.{IsAll}, proofs.Archived.{first-look, next-look, no_log, none-recorded, whole-look}}
use Rattle.rm_step_backup.proofs.looking.look.Goals as goal
use Rattle.rm_machine.specs.State.{ledger}

pub loop-entry-init : goal.loop-entry-init
loop-entry-init g c = record {
  adds = first-look (g.D.Store.held c.args.store.now) (record { found = c.new.result; skipped = c.new-2.result }) c.new.ensures c.new-2.ensures;
  recorded = none-recorded (ledger c.args.state.now).logs c.new.result c.new.ensures;
  same = refl;
  never_falls = omega arith;
}

pub loop-entry-preserved : goal.loop-entry-preserved
loop-entry-preserved g c =
    let held = g.D.Store.held in
    let was = c.loop-entry.invariant in
    let logs = c.logs-logs.result.now in
    let i = c.loop-entry.entry-index in
    let all : logs ≡ (ledger c.args.state.now).logs = c.logs-logs.ensures in
    let up = subst (λ (xs : List LogEntry). AllPairs (λ l k. l.id < k.id) xs) (sym all) c.requires.sound.catalog.ledger.ids.logs_ascend in
    record {
      adds = next-look (held c.args.store.now) (held c.loop-entry.store) logs i no_log c.loop-entry.looked c.look_at.new.looked was.same up c.loop-entry-test.true was.adds c.in_ok-look_at.ensures.adds;
      recorded = c.in_ok-look_at.ensures.recorded (ledger c.args.state.now).logs i (subst (λ (xs : List LogEntry). Contains xs (get_or logs i no_log)) all (Contains-get_or logs i no_log c.loop-entry-test.true)) was.recorded;
      same = c.look_at.ensures.same ∙ was.same;
      never_falls = omega (arith, was.never_falls, c.look_at.ensures.never_falls);
    }

pub returns-clause-all : goal.returns-clause-all
returns-clause-all g c =
    let logs = c.logs-logs.result.now in
    IfSome_then (g.D.Store.held c.args.store.now) c.loop-entry.invariant.adds
    (λ h adds. subst (λ (xs : List LogEntry). IsAll h xs c.loop-entry.looked) c.logs-logs.ensures (whole-look h logs c.loop-entry.entry-index c.loop-entry.looked c.loop-entry.auto.entry-index-end c.loop-entry-test.false adds))
