use Rattle.std.proofs.Common.{◌≡◌, ◌∙◌, arith, map, refl, sym}
use Rattle.rm_evidence.specs.{Database.{database_in, dbid_in}, Place.{placed_evidence}, Taking.{AreObjects}}
use Rattle.rm_evidence.proofs.{Fitting.{gathered-fits}, Ordered.{told-all, told-more}, Runs.{adds-start}, Seen.{seen-all, seen-so}}
use Rattle.rm_evidence.proofs.gathering.gather.Goals as goal

pub loop-object-init : goal.loop-object-init
loop-object-init g c = record {
  adds = seen-all (g.D.Store.held c.args.store.now) (λ h. adds-start h (database_in c.args.catalog.now) c.in_ok-evidence.evidence);
  same = refl;
  never_falls = omega arith;
}

pub loop-object-preserved : goal.loop-object-preserved
loop-object-preserved g c =
    let held = g.D.Store.held in
    let was = c.loop-object.invariant in
    let are = coe 0 1 (i. AreObjects (c.records.ensures.records i) (map (λ x. (x.0, x.1.now)) (sym c.as_slice-object-items.ensures i))) c.in_ok-objects.ensures in
    record {
      adds = told-more (λ x. (x.0, x.1.now)) c.args.catalog.now c.as_slice-object-items.result.now are (held c.args.store.now) c.loop-object.object-index (held c.loop-object.store) (database_in c.args.catalog.now) c.object-item.result
          c.in_ok-evidence.evidence c.loop-object.evidence c.take_record.new.evidence was.same c.loop-object-test.true c.object-item.is c.id_fits.ensures was.adds c.in_ok-take_record.ensures.adds;
      same = c.take_record.ensures.same ∙ was.same;
      never_falls = omega (arith, was.never_falls, c.take_record.ensures.never_falls);
    }

pub returns-clause-gathered : goal.returns-clause-gathered
returns-clause-gathered g c =
    let are = coe 0 1 (i. AreObjects (c.records.ensures.records i) (map (λ x. (x.0, x.1.now)) (sym c.as_slice-object-items.ensures i))) c.in_ok-objects.ensures in
    let first : c.in_ok-evidence.evidence ≡ placed_evidence (dbid_in c.args.catalog.now) c.args.place.now = c.in_ok-evidence.ensures ∙ (λ i. placed_evidence (c.dbid_of.ensures i) (c.in_ok-copy.ensures i)) in
    told-all (λ x. (x.0, x.1.now)) c.args.catalog.now c.as_slice-object-items.result.now are (g.D.Store.held c.args.store.now) c.loop-object.object-index c.args.place.now c.in_ok-evidence.evidence c.loop-object.evidence
    c.loop-object.auto.object-index-end c.loop-object-test.false first c.loop-object.invariant.adds

pub returns-clause-fits : goal.returns-clause-fits
returns-clause-fits g c =
    seen-so (g.D.Store.held c.args.store.now) (returns-clause-gathered g c) (λ h is. gathered-fits h c.args.catalog.now c.args.place.now c.loop-object.evidence c.records.ensures.catalog c.requires.place is)
