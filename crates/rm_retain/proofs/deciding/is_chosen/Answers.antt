use Rattle.std.{specs.declared.result.Result.TheVariants.{Ok, Err}, proofs.lemmas.List.Sorted.{searched}}
use Rattle.rm_base.proofs.SearchedIds.{up_of, found_is, none_is}
use Rattle.rm_retain.proofs.deciding.is_chosen.Goals as goal

pub returns-in-Ok : goal.returns-in-Ok
returns-in-Ok c =
    let found = searched c.args.chosen.now c.args.id (Ok c.in-Ok.field-0) c.in-Ok.ensures.position (up_of c.args.chosen.now c.requires) in
    found_is c.args.chosen.now c.args.id c.in-Ok.field-0 found.0 found.1

pub returns-in-Err : goal.returns-in-Err
returns-in-Err c =
    let absent = searched c.args.chosen.now c.args.id (Err c.in-Err.field-0) c.in-Err.ensures.position (up_of c.args.chosen.now c.requires) in
    none_is c.args.chosen.now c.args.id c.in-Err.field-0 absent.1 absent.2
