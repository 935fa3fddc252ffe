use Rattle.std.proofs.Common.{◌∙◌, ap, sym}
use Rattle.rm_machine.specs.{Saving.{file_parts, log_parts}, State.{ledger}, declared.state.State.{State}}
use Rattle.rm_session.{specs.Adding.{no_parts, with_parts}, proofs.Adding.{parts-none, parts-then}}
use Rattle.rm_session.proofs.site_parts.parts_of.Goals as goal

pub returns : goal.returns
returns c =
    let s : State = c.args.state.now in
    let files = file_parts s 1 s.instance.place in
    let logs = log_parts s 1 s.instance.logs.threads in
    c.in_ok-add_logs.ensures
    ∙ ap (with_parts logs) (c.in_ok-add_files.ensures.after ∙ ap (with_parts files) (parts-none _ (ledger s).base.next_id _ _ (ap (λ b. b.next_id) c.base.ensures.value) c.new.ensures c.new-2.ensures))
    ∙ sym (parts-then files logs (no_parts (ledger s).base.next_id))
