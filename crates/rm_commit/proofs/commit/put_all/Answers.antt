use Rattle.std.proofs.Common.{rules, ℕ, List, subst, Some}
use Rattle.rm_base.specs.Store.{Both, HasNow, SameBut}
use Rattle.rm_commit.{specs.Names.{name_of, bytes_of}, proofs.{Carrying.{on-err}, Fronts.{more-puts, stops-at}}}
use Rattle.rm_commit.proofs.Named.{next-item, so-far, stopped-at}
use Rattle.rm_commit.proofs.commit.put_all.Goals as goal

pub returns-in_err-put-clause-others : goal.returns-in_err-put-clause-others
returns-in_err-put-clause-others g c =
    stopped-at name_of bytes_of c.args.objects.now c.loop-object.object-index c.object-item.result _ _ _ (search rules) (search rules) c.loop-object.invariant.told
    (subst (λ (n : List ℕ). Both (SameBut n) (g.D.Store.held c.loop-object.store) (g.D.Store.held c.put.new.self)) c.as_str.ensures c.put.ensures.others)

pub returns-in_err-put-clause-front : goal.returns-in_err-put-clause-front
returns-in_err-put-clause-front g c =
    on-err _ _ (stops-at c.args.objects.now c.loop-object.object-index c.object-item.result _ _ _ (search rules) (search rules) c.loop-object.invariant.front
    (subst (λ (n : List ℕ). Both (SameBut n) (g.D.Store.held c.loop-object.store) (g.D.Store.held c.put.new.self)) c.as_str.ensures c.put.ensures.others))

pub loop-object-preserved : goal.loop-object-preserved
loop-object-preserved g c = record {
  told = next-item name_of bytes_of c.args.objects.now c.loop-object.object-index c.object-item.result _ _ _ (search rules) (search rules) c.loop-object.invariant.told
      (subst (λ (bytes : List ℕ). Both (HasNow c.object-item.result.name (Some bytes)) (g.D.Store.held c.loop-object.store) (g.D.Store.held c.put.new.self)) c.as_slice.ensures
      (subst (λ (n : List ℕ). Both (HasNow n (Some c.as_slice.result.now)) (g.D.Store.held c.loop-object.store) (g.D.Store.held c.put.new.self)) c.as_str.ensures c.in_ok-put.ensures.stands))
      (subst (λ (n : List ℕ). Both (SameBut n) (g.D.Store.held c.loop-object.store) (g.D.Store.held c.put.new.self)) c.as_str.ensures c.put.ensures.others);
  front = more-puts c.args.objects.now c.loop-object.object-index c.object-item.result _ _ _ (search rules) (search rules) c.loop-object.invariant.front
      (subst (λ (bytes : List ℕ). Both (HasNow c.object-item.result.name (Some bytes)) (g.D.Store.held c.loop-object.store) (g.D.Store.held c.put.new.self)) c.as_slice.ensures
      (subst (λ (n : List ℕ). Both (HasNow n (Some c.as_slice.result.now)) (g.D.Store.held c.loop-object.store) (g.D.Store.held c.put.new.self)) c.as_str.ensures c.in_ok-put.ensures.stands))
      (subst (λ (n : List ℕ). Both (SameBut n) (g.D.Store.held c.loop-object.store) (g.D.Store.held c.put.new.self)) c.as_str.ensures c.put.ensures.others);
  faults = search rules;
}

pub returns-clause-others : goal.returns-clause-others
returns-clause-others g c = so-far name_of bytes_of c.args.objects.now c.loop-object.object-index _ _ c.loop-object.invariant.told
