use Rattle.std.specs.Vec.Iter.{into_iter_items}
use Rattle.std.proofs.Common.{◌≡◌, ◌≤◌, ◌∙◌, ◌∷◌, ℕ, List, ap, arith, drop, get_or, length, map, refl, rules, subst, sym}
use Rattle.std.proofs.lemmas.List.{get_or_default}
use Rattle.rm_evidence.specs.{Database.{database_in, dbid_in}, Place.{placed_evidence}, Taking.{AreObjects}, Telling.{AreTold}}
use Rattle.rm_evidence.{specs.declared.telling.Told.{Told}, proofs.{Fitting.{gathered-fits}, Ordered.{told-all, told-more}}}
use Rattle.rm_evidence.proofs.{Runs.{adds-start}, Seen.{seen-all, seen-so}, Tells.{adds-seen, none-left, told-inside, told-next}}
use Rattle.rm_evidence.proofs.gathering.gather_by.Goals as goal

pub loop-told-init : goal.loop-told-init
loop-told-init g c =
    let held = g.D.Store.held c.args.store.now in
    let base = database_in c.args.catalog.now in
    let same : into_iter_items c.into_iter-told-iterator.result ≡ c.in_ok-all.all = search rules in
    record {
      within = omega arith;
      adds = seen-all held (λ h. adds-start h base c.in_ok-evidence.evidence);
      told = subst (λ (ts : List Told). AreTold held base (map (λ x. x.1.now) c.as_slice-rows.result.now) ts) (sym same) c.in_ok-all.ensures.told;
      left = search rules;
    }

pub loop-told-preserved : goal.loop-told-preserved
loop-told-preserved g c =
    let held = g.D.Store.held c.args.store.now in
    let base = database_in c.args.catalog.now in
    let at = c.loop-told in
    let was = at.invariant in
    let rows = c.as_slice-rows.result.now in
    let are = coe 0 1 (i. AreObjects (c.records.ensures.records i) (map (λ x. (x.0, x.1.now)) (sym c.as_slice-rows.ensures i))) c.in_ok-objects.ensures in
    let steps : into_iter_items at.told-iterator ≡ c.in-Some.told ∷ into_iter_items c.next.new.self = c.in-Some.ensures.steps.0 in
    let told = subst (λ (ts : List Told). AreTold held base (drop at.index (map (λ x. x.1.now) rows)) ts) steps was.told in
    let inside = told-inside (λ x. x.1.now) rows base held at.index c.in-Some.told (into_iter_items c.next.new.self) told in
    let x = get_or rows at.index c.index-rows-index.result in
    let is : x ≡ get_or rows at.index x = get_or_default rows at.index c.index-rows-index.result x inside in
    let next = told-next (λ x. x.1.now) rows base held at.index x c.in-Some.told (into_iter_items c.next.new.self) is told in
    record {
      within = omega (arith, inside);
      adds = told-more (λ x. (x.0, x.1.now)) c.args.catalog.now rows are held at.index held base x c.in_ok-evidence.evidence at.evidence c.put_told.new.evidence refl inside is c.id_fits.ensures was.adds
          (adds-seen held base x.1.now c.in-Some.told at.evidence c.put_told.new.evidence c.in_ok-put_told.ensures next.told);
      told = next.rest;
      left = omega (arith, c.in-Some.ensures.steps.1, ap length steps, was.left);
    }

pub returns-clause-gathered : goal.returns-clause-gathered
returns-clause-gathered g c =
    let held = g.D.Store.held c.args.store.now in
    let at = c.loop-told in
    let rows = c.as_slice-rows.result.now in
    let are = coe 0 1 (i. AreObjects (c.records.ensures.records i) (map (λ x. (x.0, x.1.now)) (sym c.as_slice-rows.ensures i))) c.in_ok-objects.ensures in
    let first : c.in_ok-evidence.evidence ≡ placed_evidence (dbid_in c.args.catalog.now) c.args.place = c.in_ok-evidence.ensures ∙ ap (λ (n : ℕ). placed_evidence n c.args.place) c.dbid_of.ensures in
    let none = sym at.invariant.left ∙ c.in-None.ensures.steps.0 in
    let past : length rows ≤ at.index = none-left (λ x. x.1.now) rows (database_in c.args.catalog.now) held at.index (into_iter_items at.told-iterator) none at.invariant.told in
    told-all (λ x. (x.0, x.1.now)) c.args.catalog.now rows are held at.index c.args.place c.in_ok-evidence.evidence at.evidence at.invariant.within past first at.invariant.adds

pub returns-clause-fits : goal.returns-clause-fits
returns-clause-fits g c =
    seen-so (g.D.Store.held c.args.store.now) (returns-clause-gathered g c) (λ h is. gathered-fits h c.args.catalog.now c.args.place c.loop-told.evidence c.records.ensures.catalog c.requires.place is)
