use Rattle.rm_evidence.{specs.Database.{database_in}, proofs.Tells.{adds-seen, told-seen}}
use Rattle.rm_evidence.proofs.taking.take_record.Goals as goal

pub returns-clause-adds : goal.returns-clause-adds
returns-clause-adds g c =
    let held = g.D.Store.held c.args.store.now in
    let base = database_in c.args.catalog.now in
    adds-seen held base c.args.row.now c.in_ok-told.told c.args.evidence.now c.put_told.new.evidence c.in_ok-put_told.ensures
    (told-seen held base c.args.row.now c.in_ok-stands.stands c.in_ok-told.told c.in_ok-stands.ensures.stands c.in_ok-told.ensures)
