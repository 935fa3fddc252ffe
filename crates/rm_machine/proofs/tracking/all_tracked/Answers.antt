use Rattle.std.proofs.Common.{◌≡◌, ◌<◌, ◌+◌, List, cond, subst, get_or, length}
use Rattle.rm_history.specs.{Tree.{end_of}, World.{exists}, declared.world.Datafile.{Datafile}}
use Rattle.rm_track.specs.Bitmaps.{fresh, with_file}
use Rattle.rm_catalog_typed.specs.Worlds.{world_of}
use Rattle.rm_machine.proofs.Tracked.{fresh-next}
use Rattle.rm_machine.proofs.tracking.all_tracked.Goals as goal

abbrev any : Datafile
any = record { inc = 0; creation = 0; blocks = 0 }

pub loop-index-preserved : goal.loop-index-preserved
loop-index-preserved c =
    let l = c.args.catalog.now.ledger in
    let w = world_of l in
    let i = l.base.current in
    let now = end_of l.tree i in
    let k = c.loop-index.index in
    let old = c.loop-index.tracker in
    let new = c.add_current.new.tracker in
    let files : c.files-file-items.result.now ≡ l.files = c.files-file-items.ensures in
    let inside : k < length l.files = subst (λ (ds : List Datafile). k < length ds) files c.loop-index-test.true in
    fresh-next w i now l.files k any old new inside c.loop-index.invariant
    (subst (λ (ds : List Datafile). new ≡ cond (exists w i now (get_or ds k any)) (with_file old (fresh (k + 1) (get_or ds k any).blocks now)) old) files c.in_ok-add_current.ensures)
