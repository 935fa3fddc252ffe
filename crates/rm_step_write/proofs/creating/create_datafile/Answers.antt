use Rattle.std.proofs.Common.{ℕ, ◌≡◌, ◌∙◌, [], ◌∷◌, ap, refl, sym, subst}
use Rattle.rm_lang_statement.specs.declared.command.Command.TheVariants.{CreateDatafile}
use Rattle.rm_history.specs.declared.world.Datafile.{Datafile}
use Rattle.rm_catalog_typed.specs.{Fitting.{FitsFile}, TypedCatalog.{TypedCatalog}}
use Rattle.rm_machine.specs.{CreateDatafile.{new_datafile, next_file, with_datafile}, Effect.{no_effect}, State.{now_of}}
use Rattle.rm_machine.{specs.declared.state.State.{State}, proofs.{AddingDatafile.{datafile-fits, has-room}, Handing.{hands-by}}}
use Rattle.rm_report.specs.declared.line.Line.TheVariants.{DatafileAt}
use Rattle.rm_step_write.proofs.Results.{after-datafile}
use Rattle.rm_step_write.proofs.creating.create_datafile.Goals as goal

pub add_file-requires : goal.add_file-requires
add_file-requires c =
    let s : State = c.args.state.now in
    let blocks = c.args.blocks in
    let catalog : TypedCatalog = c.go_further.new.state.catalog in
    let fits = datafile-fits s blocks c.requires.sound (has-room s blocks c.requires.accepted) c.requires.some in
    record {
      fits = subst (FitsFile catalog) (sym c.new_datafile-datafile.ensures) (subst (λ (r : TypedCatalog). FitsFile r (new_datafile s blocks)) (sym c.in_ok-go_further.ensures.catalog) fits);
    }

pub returns-clause-hands : goal.returns-clause-hands
returns-clause-hands c held =
    let s : State = c.args.state.now in
    let blocks = c.args.blocks in
    let d : Datafile = c.new_datafile-datafile.result in
    let number : c.next_file-file.result ≡ next_file s = c.next_file-file.ensures in
    let new : d ≡ new_datafile s blocks = c.new_datafile-datafile.ensures in
    hands-by held s (CreateDatafile blocks) _ _ (DatafileAt (next_file s) (now_of s) blocks ∷ []) no_effect (with_datafile s blocks)
    (λ objects tells. refl)
    (c.in_ok-handed.ensures.lines ∙ ap (λ (n : ℕ). DatafileAt n d.creation d.blocks ∷ []) number ∙ ap (λ (x : Datafile). DatafileAt (next_file s) x.creation x.blocks ∷ []) new)
    c.in_ok-handed.ensures.objects
    c.in_ok-handed.ensures.removes
    (after-datafile s c.go_further.new.state blocks c.next_file-file.result d c.tracks-is_tracked.result c.add_file.new.self c.in_ok-empty.empty c.push.new.self c.track.new.tracker
    number new c.tracks-is_tracked.ensures c.in_ok-go_further.ensures.catalog c.in_ok-go_further.ensures.instance c.in_ok-add_file.ensures.after c.in_ok-empty.ensures c.in_ok-push.ensures.ok c.in_ok-track.ensures)
