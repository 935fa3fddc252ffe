use Rattle.std.proofs.Common.{List, ℕ, Option, map, sym, subst}
use Rattle.rm_evidence.{specs.{Database.{database_in}, Telling.{StandUnder}}, proofs.Tells.{are-told}}
use Rattle.rm_evidence.proofs.telling.tell_each.Goals as goal

pub returns-clause-told : goal.returns-clause-told
returns-clause-told g c =
    let held = g.D.Store.held c.args.store.now in
    let under = subst (λ (ss : List (Option (List ℕ))). StandUnder held (map (λ x. x.1.now) c.args.rows.now) ss) (sym c.as_slice.ensures) c.in_ok-stand.ensures.stand in
    are-told held (database_in c.args.catalog.now) (map (λ x. x.1.now) c.args.rows.now) c.as_slice.result.now c.in_ok-told_of_each.field-0 under c.in_ok-told_of_each.ensures
