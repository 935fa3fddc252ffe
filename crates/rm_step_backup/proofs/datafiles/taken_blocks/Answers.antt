use Rattle.std.proofs.Common.{◌≡◌, ◌<◌, ◌≤◌, ◌+◌, ◌∙◌, List, true, false, sym, ap, subst, arith, length, get_or}
use Rattle.rm_history.specs.declared.world.Datafile.{Datafile}
use Rattle.rm_machine.specs.{Backup.{is_taken}, State.{ledger}, declared.state.State.{State}}
use Rattle.rm_step_backup.proofs.{Taken.{blocks-few, blocks-next, no_datafile}, datafiles.taken_blocks.Goals.{then-is_taken, else-is_taken}}
use Rattle.rm_step_backup.proofs.datafiles.taken_blocks.Goals as goal

pub loop-index-preserved : goal.loop-index-preserved
loop-index-preserved c =
    let s : State = c.args.state.now in
    let b = c.args.form.now in
    let i = c.loop-index.index in
    let files : c.files-datafile-items.result.now ≡ (ledger s).files = c.files-datafile-items.ensures in
    let inside : i < length (ledger s).files = subst (λ (ds : List Datafile). i < length ds) files c.loop-index-test.true in
    let d : Datafile = get_or (ledger s).files i no_datafile in
    let is : c.is_taken.result ≡ is_taken s b (i + 1) d = c.is_taken.ensures ∙ ap (λ (ds : List Datafile). is_taken s b (i + 1) (get_or ds i no_datafile)) files in
    let most : d.blocks ≤ 65536 = blocks-few s i no_datafile c.requires.sound inside in
    let old = c.loop-index.invariant in
    elim c.if-is_taken.branch [
      | then-is_taken w ↦
          let next = blocks-next s b i no_datafile true inside (sym is ∙ w.if-is_taken.true) in
          let blocks : w.from-blocks.result ≡ d.blocks = w.from-blocks.ensures ∙ ap (λ (ds : List Datafile). (get_or ds i no_datafile).blocks) files in
          record { sum = omega (arith, next, w.blocks-is, blocks, old.sum); few = omega (arith, w.blocks-is, blocks, most, old.few) }
      | else-is_taken w ↦
          let next = blocks-next s b i no_datafile false inside (sym is ∙ w.if-is_taken.false) in
          record { sum = omega (arith, next, w.blocks-is, old.sum); few = omega (arith, w.blocks-is, old.few) }
    ]
