use Rattle.std.proofs.Common.{None}
use Rattle.rm_store_dir.proofs.Stops.{synced, told-where}
use Rattle.rm_store_dir.proofs.folder.remove_whole.Goals as goal

pub returns-clause-keeps : goal.returns-clause-keeps
returns-clause-keeps g c =
    let files = g.F.Folder.files in
    let keeps = g.F.Folder.keeps in
    synced c.args.name.now None (files c.args.folder.now) (files c.remove.new.self) (keeps c.args.folder.now) (keeps c.remove.new.self) (keeps c.sync.new.self)
    c.in_ok-remove.ensures.gone (told-where c.args.name.now None (files c.args.folder.now) (keeps c.args.folder.now) (keeps c.remove.new.self) c.remove.ensures.may) c.sync.ensures.keeps
