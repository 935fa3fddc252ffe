use Rattle.std.proofs.Common.{◌≡◌, [], ◌∷◌, ◌++◌, arith, rules}
use Rattle.rm_catalog_typed.proofs.{Changed.{marks_few}, Fitted.{mark_fits}}
use Rattle.rm_catalog_typed.proofs.catalog.TypedCatalog.add_mark.Goals as goal

pub overflow_cast-id : goal.overflow_cast-id
overflow_cast-id c = let h = marks_few _ c.self.invariant in let l = c.len.ensures in omega arith

pub overflow_add-id : goal.overflow_add-id
overflow_add-id c = let h = marks_few _ c.self.invariant in let l = c.len.ensures in omega arith

pub invariant_of-self-2 : goal.invariant_of-self-2
invariant_of-self-2 c =
    let marks : c.push.new.self.items ≡ c.self.inside.marks.items ++ c.args.mark ∷ [] = search rules in
    rw marks (mark_fits _ c.args.mark c.self.invariant (rw c.self.view_is c.requires.fits))
