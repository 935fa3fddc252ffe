use Rattle.std.{specs.{Option.{option_map}, Prelude.{IfSome}}, proofs.Common.{◌≡◌, sym, subst, rules, true, Some}}
use Rattle.rm_base.specs.Store.{Both, SameBut}
use Rattle.rm_store_dir.{specs.{DirStore.{is_object, objects_of, folder_of}, Folder.{MayHave}}, proofs.Objects.{now_has, others_stay}}
use Rattle.rm_store_dir.proofs.store.DirStoreStore.put.Goals as goal

pub returns-in-Ok-clause-stands : goal.returns-in-Ok-clause-stands
returns-in-Ok-clause-stands g c =
    let is : is_object c.args.name.now ≡ true = search rules in
    now_has c.args.name.now (Some c.args.bytes.now) (g.F.Folder.files (folder_of c.args.self.now)) (g.F.Folder.files (folder_of c.write.new.self)) is c.in-Ok.ensures.stands

pub returns-in-Ok-clause-others : goal.returns-in-Ok-clause-others
returns-in-Ok-clause-others g c = others_stay c.args.name.now (g.F.Folder.files (folder_of c.args.self.now)) (g.F.Folder.files (folder_of c.write.new.self)) c.write.ensures.others

pub returns-in-Err-clause-others : goal.returns-in-Err-clause-others
returns-in-Err-clause-others g c =
    let old = g.F.Folder.files (folder_of c.args.self.now) in
    subst (λ f. Both (SameBut c.args.name.now) (option_map objects_of old) (option_map objects_of (g.F.Folder.files f))) (sym c.fail-in-Err.ensures.same)
    (others_stay c.args.name.now old (g.F.Folder.files (folder_of c.write.new.self)) c.write.ensures.others)

pub returns-in-Err-clause-keeps : goal.returns-in-Err-clause-keeps
returns-in-Err-clause-keeps g c =
    let old = folder_of c.args.self.now in
    subst (λ f. IfSome (g.F.Folder.files old) (λ x. MayHave c.args.name.now (Some c.args.bytes.now) (g.F.Folder.keeps old) (g.F.Folder.keeps f))) (sym c.fail-in-Err.ensures.same)
    c.write.ensures.keeps
