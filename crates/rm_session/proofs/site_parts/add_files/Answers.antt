use Rattle.std.proofs.Common.{◌≡◌, ◌<◌, ◌∙◌, List, Option, Some, ap, sym, subst, get_or, length, slice_get}
use Rattle.std.proofs.lemmas.Option.{slice_get-get_or}
use Rattle.rm_blocks.specs.File.{File}
use Rattle.rm_machine.specs.declared.state.State.{State}
use Rattle.rm_session.proofs.PartsOf.{file-valid}
use Rattle.rm_session.proofs.site_parts.add_files.Goals as goal

pub add_file-requires-clause-valid : goal.add_file-requires-clause-valid
add_file-requires-clause-valid c =
    let s : State = c.args.state.now in
    let place = s.instance.place in
    let k = c.loop-index.index in
    let d = c.placed-item.result in
    let inside : k < length place = subst (λ (os : List (Option File)). k < length os) c.as_slice-placed-items.ensures c.loop-index-test.true in
    let is : d ≡ get_or place k d = c.placed-item.is ∙ ap (λ (os : List (Option File)). get_or os k d) c.as_slice-placed-items.ensures in
    let at : slice_get place k ≡ Some (Some c.in-Some.file) = slice_get-get_or place k d inside ∙ ap Some (sym is ∙ c.in-Some.is) in
    file-valid s c.requires.sound k c.in-Some.file at
