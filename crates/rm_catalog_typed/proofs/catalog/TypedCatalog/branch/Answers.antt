use Rattle.std.proofs.Common.{◌≡◌, ◌+◌, [], ◌∷◌, ◌++◌, arith, length, rules}
use Rattle.rm_history.specs.Tree.{with_branch}
use Rattle.rm_catalog_typed.proofs.{Changed.{marks_few}, Fitted.{branch_fits}}
use Rattle.rm_catalog_typed.proofs.catalog.TypedCatalog.branch.Goals as goal

pub overflow_cast-id : goal.overflow_cast-id
overflow_cast-id c = let h = marks_few _ c.self.invariant in let l = c.len.ensures in omega arith

pub overflow_add-id : goal.overflow_add-id
overflow_add-id c = let h = marks_few _ c.self.invariant in let l = c.len.ensures in omega arith

pub invariant_of-self-2 : goal.invariant_of-self-2
invariant_of-self-2 c =
    let tree : c.branch-inc.new.self ≡ with_branch c.self.inside.tree c.args.parent c.args.at = search rules in
    let marks : c.push.new.self.items ≡ c.self.inside.marks.items ++ record { moment = c.args.moment; inc = length c.self.inside.tree + 1; scn = c.args.at } ∷ [] = search rules in
    rw (tree, marks) (branch_fits _ c.args.parent c.args.at c.args.moment c.self.invariant (rw c.self.view_is c.requires.fits))
