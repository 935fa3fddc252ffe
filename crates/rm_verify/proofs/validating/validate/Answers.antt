use Rattle.std.{specs.Slice.Iter.{chunks_rest}, proofs.Common.{◌≡◌, ◌∙◌, List, ap, arith, length, map, refl, rules, sym}}
use Rattle.rm_evidence.specs.{Taking.{AreObjects}, declared.telling.Told.{Told}}
use Rattle.rm_verify.{specs.Told.{with_bad}, proofs.Skipping.{HasTold, told-end, told-none, told-part}}
use Rattle.rm_verify.proofs.validating.validate.Goals as goal

pub loop-part-init : goal.loop-part-init
loop-part-init g c =
    let first = ap chunks_rest c.into_iter-part-iterator.ensures.into_iter_gives ∙ c.chunks-part-items.ensures.rest ∙ c.as_slice.ensures in
    let are = coe 0 1 (i. AreObjects (c.records.ensures.records i) (map (λ x. (x.0, x.1.now)) (sym first i))) c.in_ok-objects.ensures in
    record {
      told = told-none (λ x. (x.0, x.1.now)) c.args.catalog.now (chunks_rest c.into_iter-part-iterator.result) are (g.D.Store.held c.args.store.now) c.new-list.result c.new-list.ensures;
      same = refl;
      never_falls = omega arith;
    }

pub loop-part-preserved : goal.loop-part-preserved
loop-part-preserved g c =
    let held = g.D.Store.held in
    let was = c.loop-part.invariant in
    let part = c.in-Some.part.now in
    let items = chunks_rest c.into_iter-part-iterator.result in
    let bad = c.in_ok-add_bad.ensures.bad ∙ ap (λ (ts : List Told). with_bad c.loop-part.list (map (λ x. x.0) part) ts) c.as_slice-in-loop-part.ensures in
    let first = ap chunks_rest c.into_iter-part-iterator.ensures.into_iter_gives ∙ c.chunks-part-items.ensures.rest ∙ c.as_slice.ensures in
    let are = coe 0 1 (i. AreObjects (c.records.ensures.records i) (map (λ x. (x.0, x.1.now)) (sym first i))) c.in_ok-objects.ensures in
    record {
      told = coe 1 0 (i. HasTold (λ x. (x.0, x.1.now)) c.args.catalog.now items (held c.args.store.now) (chunks_rest c.next.new.self) (bad i))
          (told-part (λ x. (x.0, x.1.now)) c.args.catalog.now items are (held c.args.store.now) (held c.loop-part.store) was.same part (chunks_rest c.next.new.self) c.in_ok-told.told c.loop-part.list c.ids_fit.ensures
          (coe 0 1 (i. HasTold (λ x. (x.0, x.1.now)) c.args.catalog.now items (held c.args.store.now) (c.in-Some.ensures.steps.1.0 i) c.loop-part.list) was.told) c.in_ok-told.ensures.told);
      same = c.tell_each.ensures.same ∙ was.same;
      never_falls = omega (arith, was.never_falls, c.tell_each.ensures.never_falls);
    }

pub returns-clause-bad : goal.returns-clause-bad
returns-clause-bad g c =
    let rest = chunks_rest c.loop-part.part-iterator in
    let first = ap chunks_rest c.into_iter-part-iterator.ensures.into_iter_gives ∙ c.chunks-part-items.ensures.rest ∙ c.as_slice.ensures in
    let are = coe 0 1 (i. AreObjects (c.records.ensures.records i) (map (λ x. (x.0, x.1.now)) (sym first i))) c.in_ok-objects.ensures in
    let none : length rest ≡ 0 = search rules in
    told-end (λ x. (x.0, x.1.now)) c.args.catalog.now (chunks_rest c.into_iter-part-iterator.result) are (g.D.Store.held c.args.store.now) rest c.loop-part.list none c.loop-part.invariant.told
