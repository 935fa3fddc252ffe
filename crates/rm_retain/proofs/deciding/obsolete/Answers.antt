use Rattle.std.proofs.Common.{sym, subst}
use Rattle.rm_retain.specs.{Chosen.{Retention}, Catalogued.{IsObsolete}}
use Rattle.rm_retain.proofs.deciding.obsolete.Goals as goal

pub returns-clause-exact : goal.returns-clause-exact
returns-clause-exact c id =
    let is = c.in_ok-needs.ensures.by in
    let all = c.in_ok-obsolete_ids.ensures.exact id in
    let same = c.in_order.ensures.same id in (
      λ held. subst (λ (r : Retention). IsObsolete c.args.catalog.now r id) is (all.0 (same.0 held)),
      λ gone. same.1 (all.1 (subst (λ (r : Retention). IsObsolete c.args.catalog.now r id) (sym is) gone)),
    )
