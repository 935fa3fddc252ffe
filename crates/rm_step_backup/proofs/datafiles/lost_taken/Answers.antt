use Rattle.std.proofs.Common.{◌≡◌, ◌<◌, ◌+◌, ◌∙◌, List, true, false, ap, sym, subst, length, get_or}
use Rattle.rm_history.specs.declared.world.Datafile.{Datafile}
use Rattle.rm_machine.specs.{Backup.{is_taken}, State.{ledger}, declared.state.State.{State}}
use Rattle.rm_step_backup.proofs.Taken.{lost-next, no_datafile}
use Rattle.rm_step_backup.proofs.datafiles.lost_taken.Goals.{else-is_taken-via-then-is_taken+else-is_lost, else-is_taken-via-else-is_taken}
use Rattle.rm_step_backup.proofs.datafiles.lost_taken.Goals as goal

pub loop-index-preserved : goal.loop-index-preserved
loop-index-preserved c =
    let s : State = c.args.state.now in
    let b = c.args.form.now in
    let k = c.loop-index.index in
    let files : c.files-datafile-items.result.now ≡ (ledger s).files = c.files-datafile-items.ensures in
    let inside : k < length (ledger s).files = subst (λ (ds : List Datafile). k < length ds) files c.loop-index-test.true in
    let is : c.is_taken.result ≡ is_taken s b (k + 1) (get_or (ledger s).files k no_datafile) = c.is_taken.ensures ∙ ap (λ (ds : List Datafile). is_taken s b (k + 1) (get_or ds k no_datafile)) files in
    elim c.else-is_taken.branch [
      | else-is_taken-via-then-is_taken+else-is_lost w ↦ sym (lost-next s b k no_datafile true inside (sym is ∙ w.if-is_taken.true) (λ _. sym w.is_lost.ensures ∙ w.if-is_lost.false)) ∙ c.loop-index.invariant
      | else-is_taken-via-else-is_taken w ↦ sym (lost-next s b k no_datafile false inside (sym is ∙ w.if-is_taken.false) (λ t. absurd (let e : false ≡ true = t in cc))) ∙ c.loop-index.invariant
    ]
