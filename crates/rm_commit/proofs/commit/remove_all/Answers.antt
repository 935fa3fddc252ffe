use Rattle.std.proofs.Common.{rules, ℕ, List, subst, None}
use Rattle.rm_base.specs.Store.{Both, HasNow, SameBut}
use Rattle.rm_commit.{specs.Names.{itself, nothing}, proofs.Named.{next-item, so-far, stopped-at}}
use Rattle.rm_commit.proofs.commit.remove_all.Goals as goal

pub returns-in_err-remove-clause-others : goal.returns-in_err-remove-clause-others
returns-in_err-remove-clause-others g c =
    stopped-at itself nothing c.args.names.now c.loop-name.name-index c.name-item.result _ _ _ (search rules) (search rules) c.loop-name.invariant.told
    (subst (λ (n : List ℕ). Both (SameBut n) (g.D.Store.held c.loop-name.store) (g.D.Store.held c.remove.new.self)) c.as_str.ensures c.remove.ensures.others)

pub loop-name-preserved : goal.loop-name-preserved
loop-name-preserved g c = record {
  told = next-item itself nothing c.args.names.now c.loop-name.name-index c.name-item.result _ _ _ (search rules) (search rules) c.loop-name.invariant.told
      (subst (λ (n : List ℕ). Both (HasNow n None) (g.D.Store.held c.loop-name.store) (g.D.Store.held c.remove.new.self)) c.as_str.ensures c.in_ok-remove.ensures.gone)
      (subst (λ (n : List ℕ). Both (SameBut n) (g.D.Store.held c.loop-name.store) (g.D.Store.held c.remove.new.self)) c.as_str.ensures c.remove.ensures.others);
  faults = search rules;
}

pub returns-clause-others : goal.returns-clause-others
returns-clause-others g c = so-far itself nothing c.args.names.now c.loop-name.name-index _ _ c.loop-name.invariant.told
