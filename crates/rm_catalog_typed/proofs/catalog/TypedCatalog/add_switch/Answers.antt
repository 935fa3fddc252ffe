use Rattle.std.proofs.Common.{◌≡◌, [], ◌∷◌, ◌++◌, arith, rules}
use Rattle.rm_catalog_typed.proofs.{Changed.{switches_few}, Fitted.{switch_fits}}
use Rattle.rm_catalog_typed.proofs.catalog.TypedCatalog.add_switch.Goals as goal

pub overflow_cast-id : goal.overflow_cast-id
overflow_cast-id c = let h = switches_few _ c.self.invariant in let l = c.len.ensures in omega arith

pub overflow_add-id : goal.overflow_add-id
overflow_add-id c = let h = switches_few _ c.self.invariant in let l = c.len.ensures in omega arith

pub invariant_of-self-2 : goal.invariant_of-self-2
invariant_of-self-2 c =
    let switches : c.push.new.self.items ≡ c.self.inside.switches.items ++ c.args.switch ∷ [] = search rules in
    rw switches (switch_fits _ c.args.switch c.self.invariant (rw c.self.view_is c.requires.fits))
