use Rattle.std.proofs.lemmas.Option.{IfSome_then}
use Rattle.rm_machine.specs.declared.state.State.{State}
use Rattle.rm_session.proofs.Loads.{loaded-by, sound-by, stand-by}
use Rattle.rm_session.proofs.loading.load_place.Goals as goal

pub point_of-point-requires-clause-sound : goal.point_of-point-requires-clause-sound
point_of-point-requires-clause-sound g c =
    let s : State = record { catalog = c.args.catalog; instance = c.in_ok-instance.instance } in
    sound-by s c.args.catalog.saved c.in_ok-instance.ensures.rules c.in_ok-instance.ensures.dbid c.in_ok-instance.ensures.fits

pub point_of-point-requires-clause-stand : goal.point_of-point-requires-clause-stand
point_of-point-requires-clause-stand g c =
    let s : State = record { catalog = c.args.catalog; instance = c.in_ok-instance.instance } in
    stand-by s c.args.catalog.saved c.in_ok-instance.ensures.rules c.in_ok-instance.ensures.fits

pub returns-clause-loaded : goal.returns-clause-loaded
returns-clause-loaded g c =
    let s : State = record { catalog = c.args.catalog; instance = c.in_ok-instance.instance } in
    IfSome_then (g.D.Store.held c.args.store.now) c.in_ok-instance.ensures.told
    (λ h told. loaded-by h s c.args.catalog.saved c.point_of-point.result told c.point_of-point.ensures.told)
