use Rattle.std.{specs.{Option.{option_map}, Prelude.{IfSome}}, proofs.Common.{◌≡◌, sym, subst, rules, true, false, None}}
use Rattle.rm_base.specs.Store.{Both, SameBut}
use Rattle.rm_store_dir.specs.{DirStore.{is_object, objects_of, folder_of}, Folder.{MayHave}}
use Rattle.rm_store_dir.proofs.Objects.{now_has, none_gone, others_stay}
use Rattle.rm_store_dir.proofs.store.DirStoreStore.remove.Goals as goal

pub returns-then-not-is_object-clause-gone : goal.returns-then-not-is_object-clause-gone
returns-then-not-is_object-clause-gone g c =
    let not : is_object c.args.name.now ≡ false = search rules in
    none_gone c.args.name.now (g.F.Folder.files (folder_of c.args.self.now)) not

pub returns-in-Ok-clause-gone : goal.returns-in-Ok-clause-gone
returns-in-Ok-clause-gone g c =
    let is : is_object c.args.name.now ≡ true = search rules in
    now_has c.args.name.now None (g.F.Folder.files (folder_of c.args.self.now)) (g.F.Folder.files (folder_of c.erase.new.self)) is c.in-Ok.ensures.gone

pub returns-in-Ok-clause-others : goal.returns-in-Ok-clause-others
returns-in-Ok-clause-others g c = others_stay c.args.name.now (g.F.Folder.files (folder_of c.args.self.now)) (g.F.Folder.files (folder_of c.erase.new.self)) c.erase.ensures.others

pub returns-in-Err-clause-others : goal.returns-in-Err-clause-others
returns-in-Err-clause-others g c =
    let old = g.F.Folder.files (folder_of c.args.self.now) in
    subst (λ f. Both (SameBut c.args.name.now) (option_map objects_of old) (option_map objects_of (g.F.Folder.files f))) (sym c.fail.ensures.same)
    (others_stay c.args.name.now old (g.F.Folder.files (folder_of c.erase.new.self)) c.erase.ensures.others)

pub returns-in-Err-clause-keeps : goal.returns-in-Err-clause-keeps
returns-in-Err-clause-keeps g c =
    let old = folder_of c.args.self.now in
    subst (λ f. IfSome (g.F.Folder.files old) (λ x. MayHave c.args.name.now None (g.F.Folder.keeps old) (g.F.Folder.keeps f))) (sym c.fail.ensures.same)
    c.erase.ensures.keeps
