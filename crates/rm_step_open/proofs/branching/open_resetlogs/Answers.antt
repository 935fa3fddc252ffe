use Rattle.std.proofs.Common.{rules, ◌≡◌, ◌∙◌, ◌<◌, ◌+◌, ◌++◌, [], ◌∷◌, ℕ, List, Option, IsSomeAnd, false, ap, sym, subst, refl, length}
use Rattle.rm_lang_statement.specs.declared.command.Command.TheVariants.{OpenResetlogs}
use Rattle.rm_history.specs.declared.tree.Incarnation.{Incarnation}
use Rattle.rm_commit.specs.declared.commit.Object.{Object}
use Rattle.rm_report.specs.declared.line.Line.{Line, TheVariants.{Opened}}
use Rattle.rm_machine.specs.{Archive.{after_all, archiving, lines_from, puts_from}, Effect.{done}}
use Rattle.rm_machine.specs.{OpenResetlogs.{branched_off, resetlogs_lines}, State.{tree}, declared.state.State.{State}}
use Rattle.rm_machine.proofs.{Branching.{after-archiving, can-after, can-reset}, Handing.{hands-by}}
use Rattle.rm_catalog_typed.specs.Fitting.{HasRoomFor}
use Rattle.rm_step_open.proofs.Spaces.{accepted-alone}
use Rattle.rm_step_open.proofs.branching.open_resetlogs.Goals as goal

pub archive_all-requires-clause-accepted : goal.archive_all-requires-clause-accepted
archive_all-requires-clause-accepted c =
    let s : State = c.args.state.now in
    accepted-alone s 2 (can-reset s c.requires.sound c.requires.accepted).archiving

pub branch_off-requires-clause-point : goal.branch_off-requires-clause-point
branch_off-requires-clause-point c =
    let s : State = c.args.state.now in
    let sound = c.requires.sound in
    let can = can-reset s sound c.requires.accepted in
    ap (λ (q : State). q.instance.point) c.in_ok-archive_all.ensures.after ∙ (after-archiving s sound can).beside.point ∙ c.in-Some.is

pub branch_off-requires-clause-few : goal.branch_off-requires-clause-few
branch_off-requires-clause-few c =
    let s : State = c.args.state.now in
    let sound = c.requires.sound in
    let can = can-reset s sound c.requires.accepted in
    subst (λ (q : State). length (tree q) < 256) (sym c.in_ok-archive_all.ensures.after) (can-after s can (after-archiving s sound can)).few

pub branch_off-requires-clause-room : goal.branch_off-requires-clause-room
branch_off-requires-clause-room c =
    let s : State = c.args.state.now in
    let sound = c.requires.sound in
    let can = can-reset s sound c.requires.accepted in
    subst (λ (q : State). HasRoomFor q.catalog 2) (sym c.in_ok-archive_all.ensures.after) (after-archiving s sound can).room

pub returns-clause-hands : goal.returns-clause-hands
returns-clause-hands c held =
    let s : State = c.args.state.now in
    let at = c.in-Some.scn in
    let all = c.in_ok-archive_all.ensures in
    let logs : List Line = lines_from false s 1 4 in
    let line : ℕ → List Line → List Line = λ n lines. lines ++ Opened (n + 1) at ∷ [] in
    let count : c.count-inc.result ≡ length (tree s) = c.count-inc.ensures.count ∙ ap (λ (ns : List Incarnation). length ns) c.tree.ensures in
    let lines = c.in_ok-push.ensures.ok ∙ ap (line c.count-inc.result) (all.lines ∙ ap (λ (ls : List Line). ls ++ logs) c.new-lines.ensures) ∙ ap (λ n. line n logs) count in
    let objects = all.objects ∙ ap (λ (xs : List Object). xs ++ puts_from s 1 4) c.new-objects.ensures in
    let is = c.in_ok-branch_off.ensures.value ∙ ap (λ (q : State). branched_off q at) all.after in
    hands-by held s OpenResetlogs _ _ (resetlogs_lines s at) (archiving s) (branched_off (after_all s) at)
    (λ held_ tells. subst (λ (o : Option ℕ). IsSomeAnd o (λ n. done (resetlogs_lines s at) (archiving s) (branched_off (after_all s) at) ≡ done (resetlogs_lines s n) (archiving s) (branched_off (after_all s) n))) (sym c.in-Some.is) refl)
    lines objects (search rules) is

pub returns-clause-edits : goal.returns-clause-edits
returns-clause-edits c = record { lead = λ rs is. c.in_ok-branch_off.ensures.edits.lead rs (c.in_ok-archive_all.ensures.edits.lead rs is) }
