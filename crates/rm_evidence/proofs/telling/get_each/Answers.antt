use Rattle.std.proofs.Common.{◌∙◌, ℕ, List, [], ◌∷◌, Option, ap, arith, refl, sym, subst, length, length-append}
use Rattle.rm_evidence.{specs.Telling.{StandUnder}, proofs.Tells.{stand-next}}
use Rattle.rm_evidence.proofs.telling.get_each.Goals as goal

pub loop-row-init : goal.loop-row-init
loop-row-init g c = record {
  stand = subst (λ (ss : List (Option (List ℕ))). StandUnder (g.D.Store.held c.args.store.now) [] ss) (sym c.new-stand.ensures) tt;
  many = ap length c.new-stand.ensures;
  same = refl;
  never_falls = omega arith;
}

pub loop-row-preserved : goal.loop-row-preserved
loop-row-preserved g c =
    let held = g.D.Store.held in
    let was = c.loop-row.invariant in
    let longer = c.in_ok-push.ensures.ok in
    let s : Option (List ℕ) = c.in_ok-get_one.field-0 in
    record {
      stand = stand-next (λ x. x.1.now) c.args.rows.now (held c.args.store.now) (held c.loop-row.store) c.loop-row.row-index c.row-item.result s c.loop-row.stand c.push.new.self was.same c.loop-row-test.true c.row-item.is longer was.stand c.in_ok-get_one.ensures.stands;
      many = omega (arith, ap length longer, length-append c.loop-row.stand (s ∷ []), was.many);
      same = c.get_one.ensures.same ∙ was.same;
      never_falls = omega (arith, was.never_falls, c.get_one.ensures.never_falls);
    }
