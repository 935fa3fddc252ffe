use Rattle.std.proofs.{Common.{◌≡◌, refl, sym, subst, true}, lemmas.Result.{IfOk-weaker}}
use Rattle.rm_machine.specs.Built.{is_built}
use Rattle.rm_lang_statement.specs.{IsCommand.{is_command, is_inner}, declared.command.{Command.{Command}, Inner.{Inner}}}
use Rattle.rm_tool.{specs.{Built.{is_built_inner}, Quiet.{only_tells_inner}}, proofs.Blocks.{channel-flagged, inner-untouched, set-flagged}}
use Rattle.rm_tool.proofs.{Quiet.{quiet-with, tells-so}, Setting.{built_with, command_with}, Coming.{inner-comes, step-comes}}
use Rattle.rm_tool.proofs.Statements.{err-map, on-err}
use Rattle.rm_tool.proofs.block.serve_inner.Goals as goal
use Rattle.rm_report.specs.Reply.{IsFlagged}

pub returns-in_err-command-in-Plain-clause-stopped : goal.returns-in_err-command-in-Plain-clause-stopped
returns-in_err-command-in-Plain-clause-stopped g c = on-err _ c.from_residual.result (inner-untouched c.args.site.now c.args.settings.now c.args.inner c.args.clock)

pub step-requires-clause-command : goal.step-requires-clause-command
step-requires-clause-command g c κs within =
    let own = subst (λ (y : Inner). is_inner y ≡ true) c.in-Plain.is c.requires.inner in
    subst (λ (x : Command). is_command x ≡ true) (sym c.in_ok-command-in-Plain.ensures) (command_with c.args.settings.now.until c.in-Plain.command c.requires.set.until own)

pub step-requires-clause-built : goal.step-requires-clause-built
step-requires-clause-built g c κs within =
    let own = subst (λ (y : Inner). is_built_inner y ≡ true) c.in-Plain.is c.requires.built in
    subst (λ (x : Command). is_built x ≡ true) (sym c.in_ok-command-in-Plain.ensures) (built_with c.args.settings.now.until c.in-Plain.command own)

pub returns-in_err-set_reply-in-SetUntil-clause-stopped : goal.returns-in_err-set_reply-in-SetUntil-clause-stopped
returns-in_err-set_reply-in-SetUntil-clause-stopped g c =
    on-err _ c.from_residual-in_err-set_reply-in-SetUntil.result (inner-untouched c.args.site.now c.args.settings.now c.args.inner c.args.clock)

pub returns-in_err-reply-in-AllocateChannel-clause-stopped : goal.returns-in_err-reply-in-AllocateChannel-clause-stopped
returns-in_err-reply-in-AllocateChannel-clause-stopped g c =
    on-err _ c.from_residual-in_err-reply-in-AllocateChannel.result (inner-untouched c.args.site.now c.args.settings.now c.args.inner c.args.clock)

pub returns-in_ok-command-in-Plain-clause-quiet : goal.returns-in_ok-command-in-Plain-clause-quiet
returns-in_ok-command-in-Plain-clause-quiet g c =
    IfOk-weaker c.step.result _ _
    (λ reply quiet tells.
    let own = subst (λ (y : Inner). only_tells_inner y ≡ true) c.in-Plain.is tells in
    quiet (quiet-with c.args.settings.now.until c.in-Plain.command _ reply c.in_ok-command-in-Plain.ensures own)) c.step.ensures.quiet

pub returns-in_err-command-in-Plain-clause-untouched : goal.returns-in_err-command-in-Plain-clause-untouched
returns-in_err-command-in-Plain-clause-untouched g c = on-err _ c.from_residual.result (λ tells. (refl, refl))

pub returns-in_ok-command-in-Plain-clause-untouched : goal.returns-in_ok-command-in-Plain-clause-untouched
returns-in_ok-command-in-Plain-clause-untouched g c =
    err-map _ _
    (λ same tells.
    let own = subst (λ (y : Inner). only_tells_inner y ≡ true) c.in-Plain.is tells in
    same (tells-so c.args.settings.now.until c.in-Plain.command _ c.in_ok-command-in-Plain.ensures own)) c.step.result c.step.ensures.untouched

pub returns-in_err-set_reply-in-SetUntil-clause-untouched : goal.returns-in_err-set_reply-in-SetUntil-clause-untouched
returns-in_err-set_reply-in-SetUntil-clause-untouched g c = on-err _ c.from_residual-in_err-set_reply-in-SetUntil.result (λ tells. (refl, refl))

pub returns-in_err-reply-in-AllocateChannel-clause-untouched : goal.returns-in_err-reply-in-AllocateChannel-clause-untouched
returns-in_err-reply-in-AllocateChannel-clause-untouched g c = on-err _ c.from_residual-in_err-reply-in-AllocateChannel.result (λ tells. (refl, refl))

pub returns-in_ok-set_reply-in-SetUntil-clause-flagged : goal.returns-in_ok-set_reply-in-SetUntil-clause-flagged
returns-in_ok-set_reply-in-SetUntil-clause-flagged g c = subst IsFlagged (sym c.in_ok-set_reply-in-SetUntil.ensures) (set-flagged c.args.site.now.state)

pub returns-after-not-reply-clause-flagged : goal.returns-after-not-reply-clause-flagged
returns-after-not-reply-clause-flagged g c = subst IsFlagged (sym c.in_ok-reply-in-AllocateChannel.ensures) (channel-flagged c.args.site.now.state c.args.settings.now.channels)

pub returns-in_ok-command-in-Plain-clause-comes : goal.returns-in_ok-command-in-Plain-clause-comes
returns-in_ok-command-in-Plain-clause-comes g c =
    let held = g.D.Store.held in
    let kept = g.C.Keeper.kept in
    IfOk-weaker c.step.result _ _
    (λ reply comes. inner-comes c.args.settings.now c.args.inner c.in-Plain.command _ _ _ c.args.clock reply c.in-Plain.is c.in_ok-command-in-Plain.ensures comes)
    (step-comes c.step.result (held c.args.store.now) (kept c.args.keeper.now) c.args.site.now c.in_ok-command-in-Plain.command c.args.clock (held c.step.new.store) (kept c.step.new.keeper) c.step.new.self
    c.step.ensures.comes c.step.ensures.answered c.step.ensures.quiet c.step.ensures.ids)
