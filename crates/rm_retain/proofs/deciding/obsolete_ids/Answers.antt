use Rattle.std.proofs.Common.{◌≡◌, ◌≢◌, ◌∙◌, ◌+◌, ◌∷◌, ◌++◌, [], ℕ, List, Vec, Global, AllPairs, take, take_all, sym, subst, ap}
use Rattle.std.proofs.lemmas.Bool.{both_ways}
use Rattle.rm_catalog.specs.{Keys.{key_of}, Rules.{IsCatalog}, declared.record.{Record.{Record}, Key.{Key}}}
use Rattle.rm_evidence.proofs.{Fitting.{item-there}, Runs.{is-apart}}
use Rattle.rm_retain.specs.{Needs.{needed_by}, Catalogued.{AreObsolete, IsObsoleteRecord}}
use Rattle.rm_retain.proofs.Ids.{exactly_taken, exactly_passed, apart_taken}
use Rattle.rm_retain.proofs.deciding.obsolete_ids.Goals.{then-is_obsolete+in_ok-push, else-is_obsolete}
use Rattle.rm_retain.proofs.deciding.obsolete_ids.Goals as goal

pub is_obsolete-requires-clause-there : goal.is_obsolete-requires-clause-there
is_obsolete-requires-clause-there c =
    item-there c.records-records.result.now c.args.catalog.now c.loop-row.row-index c.row-item.result c.records-records.ensures.records c.records-records.ensures.catalog c.loop-row-test.true c.row-item.is

pub loop-row-preserved : goal.loop-row-preserved
loop-row-preserved c =
    let r = needed_by c.args.catalog.now c.args.needs.now in
    let xs = c.records-records.result.now in
    let i = c.loop-row.row-index in
    let row = c.row-item.result in
    let ids = c.loop-row.ids.items in
    let exact = c.loop-row.invariant.exact in
    elim c.if-is_obsolete.branch [
      | then-is_obsolete+in_ok-push w ↦
          let gone = c.is_obsolete.ensures.0 w.if-is_obsolete.true in
          let key : c.if-is_obsolete.ids.items ≡ ids ++ (key_of row).id ∷ [] = ap (λ (v : Vec ℕ Global). v.items) w.ids-is ∙ w.in_ok-push.ensures.items ∙ ap (λ (k : Key). ids ++ k.id ∷ []) w.key.ensures in
          let catalog : IsCatalog xs = subst IsCatalog (sym c.records-records.ensures.records) c.records-records.ensures.catalog in
          record {
            exact = subst (λ (js : List ℕ). AreObsolete (take (i + 1) xs) r js) (sym key) (exactly_taken r xs i row ids c.loop-row-test.true c.row-item.is exact gone);
            apart = subst (λ (js : List ℕ). AllPairs (λ i j. i ≢ j) js) (sym key) (apart_taken r xs i row ids (is-apart xs i row catalog c.loop-row-test.true c.row-item.is) exact gone c.loop-row.invariant.apart);
          }
      | else-is_obsolete w ↦
          let same : c.if-is_obsolete.ids.items ≡ ids = ap (λ (v : Vec ℕ Global). v.items) w.ids-is in
          let off : ¬ IsObsoleteRecord r row = λ gone. both_ways c.is_obsolete.result w.if-is_obsolete.false (c.is_obsolete.ensures.1 gone) in
          record {
            exact = subst (λ (js : List ℕ). AreObsolete (take (i + 1) xs) r js) (sym same) (exactly_passed r xs i row ids c.loop-row-test.true c.row-item.is exact off);
            apart = subst (λ (js : List ℕ). AllPairs (λ i j. i ≢ j) js) (sym same) c.loop-row.invariant.apart;
          }
    ]

pub returns-clause-exact : goal.returns-clause-exact
returns-clause-exact c =
    let xs = c.records-records.result.now in
    let i = c.loop-row.row-index in
    let r = needed_by c.args.catalog.now c.args.needs.now in
    subst (λ (rs : List Record). AreObsolete rs r c.loop-row.ids.items) (take_all i xs c.loop-row-test.false ∙ c.records-records.ensures.records) c.loop-row.invariant.exact
