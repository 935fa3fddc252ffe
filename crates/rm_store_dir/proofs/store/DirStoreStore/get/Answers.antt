use Rattle.std.proofs.Common.{◌≡◌, rules, true, false}
use Rattle.rm_store_dir.{specs.DirStore.{is_object, folder_of}, proofs.Objects.{found_none, found_some}}
use Rattle.rm_store_dir.proofs.store.DirStoreStore.get.Goals as goal

pub returns-then-not-is_object-clause-found : goal.returns-then-not-is_object-clause-found
returns-then-not-is_object-clause-found g c =
    let not : is_object c.args.name.now ≡ false = search rules in
    found_none c.args.name.now (g.F.Folder.files (folder_of c.args.self.now)) not

pub returns-in-Ok-clause-found : goal.returns-in-Ok-clause-found
returns-in-Ok-clause-found g c =
    let is : is_object c.args.name.now ≡ true = search rules in
    found_some c.args.name.now c.in-Ok.found (g.F.Folder.files (folder_of c.args.self.now)) is c.in-Ok.ensures
