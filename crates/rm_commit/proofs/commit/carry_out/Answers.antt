use Rattle.std.{specs.Option.{option_map}, proofs.Common.{ℕ, List, refl, subst, ap, ◌∙◌}}
use Rattle.rm_base.specs.Store.{Both}
use Rattle.rm_catalog.specs.{Edits.{after_edits}, declared.record.Edit.{Edit}}
use Rattle.rm_commit.specs.{Names.{HasPuts, SameBeyondPuts, HasRemoves, SameBeyondRemoves}, Carrying.{PutsFront}}
use Rattle.rm_commit.{specs.declared.commit.Object.{Object}, proofs.Fronts.{front-of-all}}
use Rattle.rm_commit.proofs.Carrying.{on-err, halts-before, halts-after, carries}
use Rattle.rm_commit.proofs.commit.carry_out.Goals as goal

pub returns-in_err-put_all-clause-stopped : goal.returns-in_err-put_all-clause-stopped
returns-in_err-put_all-clause-stopped g c =
    on-err _ _ (halts-before c.args.change.now _ _ _ _
    (subst (λ (xs : List Object). Both (SameBeyondPuts xs) (g.D.Store.held c.args.store.now) (g.D.Store.held c.put_all.new.store)) c.as_slice.ensures c.put_all.ensures.others)
    (subst (λ (xs : List Object). Both (PutsFront xs) (g.D.Store.held c.args.store.now) (g.D.Store.held c.put_all.new.store)) c.as_slice.ensures c.in_err-put_all.ensures.front) refl)

pub returns-in_err-apply-clause-stopped : goal.returns-in_err-apply-clause-stopped
returns-in_err-apply-clause-stopped g c =
    on-err _ _ (halts-before c.args.change.now _ _ _ _
    (subst (λ (xs : List Object). Both (SameBeyondPuts xs) (g.D.Store.held c.args.store.now) (g.D.Store.held c.put_all.new.store)) c.as_slice.ensures c.put_all.ensures.others)
    (front-of-all c.args.change.now.objects _ _
    (subst (λ (xs : List Object). Both (HasPuts xs) (g.D.Store.held c.args.store.now) (g.D.Store.held c.put_all.new.store)) c.as_slice.ensures c.in_ok-put_all.ensures.puts)) c.in_err-apply.ensures.err)

pub returns-in_err-remove_all-clause-stopped : goal.returns-in_err-remove_all-clause-stopped
returns-in_err-remove_all-clause-stopped g c =
    on-err _ _ (halts-after c.args.change.now _ (g.D.Store.held c.put_all.new.store) _ _ _
    (subst (λ (xs : List Object). Both (HasPuts xs) (g.D.Store.held c.args.store.now) (g.D.Store.held c.put_all.new.store)) c.as_slice.ensures c.in_ok-put_all.ensures.puts)
    (c.in_ok-apply.ensures.ok ∙ ap (λ (es : List Edit). option_map (after_edits es) (g.C.Keeper.kept c.args.keeper.now)) c.as_slice-2.ensures)
    (subst (λ (ns : List (List ℕ)). Both (SameBeyondRemoves ns) (g.D.Store.held c.put_all.new.store) (g.D.Store.held c.remove_all.new.store)) c.as_slice-3.ensures c.remove_all.ensures.others))

pub returns-clause-carried : goal.returns-clause-carried
returns-clause-carried g c =
    carries c.args.change.now _ (g.D.Store.held c.put_all.new.store) _ _ _
    (subst (λ (xs : List Object). Both (HasPuts xs) (g.D.Store.held c.args.store.now) (g.D.Store.held c.put_all.new.store)) c.as_slice.ensures c.in_ok-put_all.ensures.puts)
    (c.in_ok-apply.ensures.ok ∙ ap (λ (es : List Edit). option_map (after_edits es) (g.C.Keeper.kept c.args.keeper.now)) c.as_slice-2.ensures)
    (subst (λ (ns : List (List ℕ)). Both (HasRemoves ns) (g.D.Store.held c.put_all.new.store) (g.D.Store.held c.remove_all.new.store)) c.as_slice-3.ensures c.in_ok-remove_all.ensures.removes)

pub returns-in_err-apply-clause-before : goal.returns-in_err-apply-clause-before
returns-in_err-apply-clause-before g c is = record {
  objects = subst (λ (xs : List Object). Both (SameBeyondPuts xs) (g.D.Store.held c.args.store.now) (g.D.Store.held c.put_all.new.store)) c.as_slice.ensures c.put_all.ensures.others;
  front = front-of-all c.args.change.now.objects _ _
      (subst (λ (xs : List Object). Both (HasPuts xs) (g.D.Store.held c.args.store.now) (g.D.Store.held c.put_all.new.store)) c.as_slice.ensures c.in_ok-put_all.ensures.puts);
  records = c.in_err-apply.ensures.err;
}
