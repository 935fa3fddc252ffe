use Rattle.std.{specs.Prelude.{IfSome, List, ℕ}, proofs.{Common.{◌∙◌, arith, subst, sym}, lemmas.List.{take_all}}}
use Rattle.rm_base.specs.Store.{AreTheNames}
use Rattle.rm_standby_store.proofs.Found.{all-told, one-more}
use Rattle.rm_standby_store.proofs.finding.find_standby.Goals as goal

pub loop-name-preserved : goal.loop-name-preserved
loop-name-preserved g c =
    let was = c.loop-name.invariant in
    record {
      among = one-more (g.D.Store.held c.args.store.now) (g.D.Store.held c.loop-name.store) c.as_slice-name-items.result.now c.loop-name.name-index c.name-item.result c.as_str.result.now c.loop-name.best c.in_ok-best.best was.same
          c.loop-name-test.true c.name-item.is c.as_str.ensures was.among c.in_ok-best.ensures.among;
      valid = c.in_ok-best.ensures.valid;
      same = c.better.ensures.same ∙ was.same;
      never_falls = omega (arith, was.never_falls, c.better.ensures.never_falls);
    }

pub returns-clause-found : goal.returns-clause-found
returns-clause-found g c =
    let names = c.as_slice-name-items.result.now in
    let are : IfSome (g.D.Store.held c.args.store.now) (AreTheNames names) = subst (λ (ns : List (List ℕ)). IfSome (g.D.Store.held c.args.store.now) (AreTheNames ns)) (sym c.as_slice-name-items.ensures) c.in_ok-names.ensures.exact in
    all-told (g.D.Store.held c.args.store.now) names c.loop-name.name-index c.loop-name.best (take_all c.loop-name.name-index names c.loop-name-test.false) are c.loop-name.invariant.among
