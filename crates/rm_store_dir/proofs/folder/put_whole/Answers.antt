use Rattle.std.proofs.Common.{Some}
use Rattle.rm_store_dir.proofs.Stops.{begun, synced, ended}
use Rattle.rm_store_dir.proofs.folder.put_whole.Goals as goal

pub returns-in-Err-clause-keeps : goal.returns-in-Err-clause-keeps
returns-in-Err-clause-keeps g c =
    let files = g.F.Folder.files in
    let keeps = g.F.Folder.keeps in
    let name = c.args.name.now in
    let beside = c.args.beside.now in
    let held = Some c.args.bytes.now in
    ended name beside held (files c.args.folder.now) (keeps c.args.folder.now) (keeps c.write_and_rename.new.folder) (keeps c.remove-in-Err.new.self) c.requires.apart
    (begun name beside held (files c.args.folder.now) (files c.remove.new.self) (keeps c.args.folder.now) (keeps c.remove.new.self) (keeps c.write_and_rename.new.folder) c.requires.apart
    c.remove.ensures.others c.remove.ensures.keeps c.write_and_rename.ensures.keeps)
    c.remove-in-Err.ensures.keeps

pub returns-in-Ok-clause-keeps : goal.returns-in-Ok-clause-keeps
returns-in-Ok-clause-keeps g c =
    let files = g.F.Folder.files in
    let keeps = g.F.Folder.keeps in
    let name = c.args.name.now in
    let beside = c.args.beside.now in
    let held = Some c.args.bytes.now in
    begun name beside held (files c.args.folder.now) (files c.remove.new.self) (keeps c.args.folder.now) (keeps c.remove.new.self) (keeps c.sync.new.self) c.requires.apart
    c.remove.ensures.others c.remove.ensures.keeps
    (synced name held (files c.remove.new.self) (files c.write_and_rename.new.folder) (keeps c.remove.new.self) (keeps c.write_and_rename.new.folder) (keeps c.sync.new.self)
    c.in-Ok.ensures.stands c.write_and_rename.ensures.keeps c.sync.ensures.keeps)
