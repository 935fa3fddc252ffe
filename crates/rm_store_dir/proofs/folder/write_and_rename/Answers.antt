use Rattle.rm_store_dir.proofs.Stops.{renamed}
use Rattle.rm_store_dir.proofs.folder.write_and_rename.Goals as goal

pub returns-clause-keeps : goal.returns-clause-keeps
returns-clause-keeps g c =
    let files = g.F.Folder.files in
    let keeps = g.F.Folder.keeps in
    renamed c.args.name.now c.args.beside.now c.args.bytes.now (files c.args.folder.now) (files c.write_new.new.self) (keeps c.args.folder.now) (keeps c.write_new.new.self) (keeps c.rename.new.self)
    c.requires.apart c.in_ok-write_new.ensures.stands c.write_new.ensures.keeps c.rename.ensures.keeps
