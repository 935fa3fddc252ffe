use Rattle.std.{specs.Slice.Iter.{chunks_rest}, proofs.Common.{◌≡◌, ◌∙◌, List, ap, arith, length, map, refl, rules, subst, sym}}
use Rattle.rm_evidence.specs.{Database.{database_in}, Telling.{AreTold}, declared.telling.Told.{Told}}
use Rattle.rm_evidence.proofs.Tells.{IsToldBefore, before-end, before-none, before-part}
use Rattle.rm_evidence.proofs.telling.tell_by.Goals as goal

pub loop-part-init : goal.loop-part-init
loop-part-init g c =
    let held = g.D.Store.held c.args.store.now in
    let base = database_in c.args.catalog.now in
    let rows = c.args.rows.now in
    let first = ap chunks_rest c.into_iter-part-iterator.ensures.into_iter_gives ∙ c.chunks-part-items.ensures.rest in
    record {
      told = coe 1 0 (i. IsToldBefore (λ x. x.1.now) rows base held (first i) c.new-all.result.items) (before-none (λ x. x.1.now) rows base held c.new-all.result.items c.new-all.ensures.items);
      same = refl;
      never_falls = omega arith;
    }

pub loop-part-preserved : goal.loop-part-preserved
loop-part-preserved g c =
    let held = g.D.Store.held in
    let base = database_in c.args.catalog.now in
    let rows = c.args.rows.now in
    let at = c.loop-part in
    let was = at.invariant in
    record {
      told = before-part (λ x. x.1.now) rows base (held c.args.store.now) (held at.store) c.in-Some.part.now (chunks_rest c.next.new.self) at.all.items c.in_ok-told.told c.add_all.new.all.items was.same c.in_ok-add_all.ensures
          (coe 0 1 (i. IsToldBefore (λ x. x.1.now) rows base (held c.args.store.now) (c.in-Some.ensures.steps.1.0 i) at.all.items) was.told) c.in_ok-told.ensures.told;
      same = c.tell_each.ensures.same ∙ was.same;
      never_falls = omega (arith, was.never_falls, c.tell_each.ensures.never_falls);
    }

pub returns-clause-told : goal.returns-clause-told
returns-clause-told g c =
    let held = g.D.Store.held c.args.store.now in
    let base = database_in c.args.catalog.now in
    let rest = chunks_rest c.loop-part.part-iterator in
    let none : length rest ≡ 0 = search rules in
    subst (λ (ts : List Told). AreTold held base (map (λ x. x.1.now) c.args.rows.now) ts) (sym c.from_vec.ensures)
    (before-end (λ x. x.1.now) c.args.rows.now base held rest c.loop-part.all.items none c.loop-part.invariant.told)
