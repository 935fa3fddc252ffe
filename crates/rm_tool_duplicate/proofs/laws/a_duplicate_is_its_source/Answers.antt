use Rattle.std.proofs.Common.{None, Some, List, ◌≡◌, ◌≤◌, ◌∙◌, inl, inr, ap, map, refl, sym, subst}
use Rattle.rm_apply.specs.{Recover.{FindsGap, TellsAll, outside}, Restore.{Restores, backed_up}}
use Rattle.rm_catalog.specs.{Rules.{HasDatabase, IsCatalog}, Trees.{nodes}, declared.record.Record.{Record}}
use Rattle.rm_catalog_typed.{specs.{Changes.{with_moment, without_saved}, TypedCatalog.{TypedCatalog, records_of}}, proofs.Records.{database-told, world-told}}
use Rattle.rm_dup.specs.{Copies.{made_of}, Entries.{AreLater, catalog_of, moment_in, nothing, restored}}
use Rattle.rm_evidence.specs.{Database.{world_of}, Known.{known_of}, declared.evidence.InPlace.{InPlace}}
use Rattle.rm_history.specs.{Evidence.{Agrees}, History.{IsHistory}, Tree.{IsThere}, declared.world.World.{World}}
use Rattle.rm_machine.specs.{Recovery.{in_place}, Restore.{restored as with_restored}, State.{at_moment}, declared.state.Instance.{Instance}}
use Rattle.rm_machine_laws.proofs.Agreeing.{agreed}
use Rattle.rm_tool_duplicate.{specs.Asked.{target_inc}, proofs.Back.{catalog, database, inside, recorded-as, stands, there}}
use Rattle.rm_tool_duplicate.proofs.{First.{first-loaded, first-place, lost-place}, Restoring.{restored-place}}
use Rattle.rm_tool_duplicate.proofs.laws.a_duplicate_is_its_source.Goals as goal

pub returns-clause-records : goal.returns-clause-records
returns-clause-records c x a b d rs is is_target =
    let s = is.makes.state in
    let made = is.makes.is in
    let same = recorded-as x a s d made b is.carried rs is_target in
    let rows = records_of s.catalog in
    let is_database = subst (λ (qs : List Record). HasDatabase qs) (sym made.is.records) (database-told (catalog_of (world_of rows) x.dbid (moment_in rows) x.until made.is.recovered.files)) in
    (same, subst (λ (qs : List Record). IsCatalog qs) (sym same) made.records, subst (λ (qs : List Record). HasDatabase qs) (sym same) is_database)

pub returns-clause-first : goal.returns-clause-first
returns-clause-first c x a b d to t is is_target loaded =
    let s = is.makes.state in
    let made = is.makes.is in
    let rows = records_of s.catalog in
    let same = recorded-as x a s d made b is.carried (records_of t.catalog) is_target in
    first-place to t (catalog_of (world_of rows) x.dbid (moment_in rows) x.until made.is.recovered.files) (same ∙ made.is.records) refl loaded

pub returns-clause-restored : goal.returns-clause-restored
returns-clause-restored c x a b d to t moment o is is_to is_target loaded later restores =
    let s = is.makes.state in
    let made = is.makes.is in
    let rows = records_of s.catalog in
    let new = catalog_of (world_of rows) x.dbid (moment_in rows) x.until made.is.recovered.files in
    let same = recorded-as x a s d made b is.carried (records_of t.catalog) is_target ∙ made.is.records in
    let first = first-loaded to t new same refl loaded in
    let bare : in_place (at_moment t moment) ≡ nothing =
    ap (λ (i : Instance). in_place (at_moment (record { catalog = t.catalog; instance = i }) moment)) first.1 ∙ lost-place (without_saved (with_moment t.catalog moment)) in
    let now = records_of (with_moment new moment) in
    let here : Restores (Some to) now nothing 1 x.until None restores.back restores.origins =
    coe 0 1 (j. Restores (Some to) (records_of (without_saved (with_moment (first.0 j) moment))) (bare j) ((first.0 j).ledger.base.current) x.until None restores.back restores.origins)
    restores.restores in
    let late : AreLater d.records now = record {
      catalog = new;
      of = sym made.is.records;
      moment = moment;
      kept = subst (λ (k : TypedCatalog). k.ledger.base.moment ≤ moment) first.0 later.kept;
      last = later.last;
      is = refl;
    } in
    let back = c.a_duplicate_comes_back.ensures.restored a.from rows (in_place s) (target_inc x s) x.until x.dbid d now to restores.back restores.origins
    (catalog x a s d made) (database x a s d made) (there x a s d made) (inside x a s d made) made.dbid made.is late (stands x a s d made b is.carried to is_to) here in
    ap (λ fs. in_place (with_restored (at_moment t moment) fs)) (back ∙ ap (map backed_up) made.is.pieces)
    ∙ restored-place to t (world_of rows) x.dbid (moment_in rows) x.until made.is.recovered.files same loaded moment
    ∙ ap restored (sym made.is.pieces)

pub returns-clause-range : goal.returns-clause-range
returns-clause-range c x a b d rs is is_target =
    let s = is.makes.state in
    let made = is.makes.is in
    let same = recorded-as x a s d made b is.carried rs is_target in
    let range = c.a_duplicate_comes_back.ensures.range a.from (records_of s.catalog) (in_place s) (target_inc x s) x.until x.dbid d
    (catalog x a s d made) (database x a s d made) (there x a s d made) (inside x a s d made) made.dbid made.is in
    subst (λ (qs : List Record). IsThere (nodes qs) 1 × (outside (nodes qs) 1 x.until ≡ None)) (sym same) range

pub returns-clause-no_gap : goal.returns-clause-no_gap
returns-clause-no_gap c x a b d to rs later place gap is is_to is_target late stands_so =
    let s = is.makes.state in
    let made = is.makes.is in
    let same = recorded-as x a s d made b is.carried rs is_target in
    let back = c.a_duplicate_comes_back.ensures in
    let held = stands x a s d made b is.carried to is_to in
    let due : AreLater d.records later = subst (λ (qs : List Record). AreLater qs later) same late in
    let none : ¬ FindsGap (Some to) later place 1 x.until gap = elim stands_so [
      | inl bare ↦ subst (λ (p : InPlace). ¬ FindsGap (Some to) later p 1 x.until gap) (sym bare) (back.no_gap a.from (records_of s.catalog) (in_place s) (target_inc x s) x.until x.dbid d later to gap
          (catalog x a s d made) (database x a s d made) (there x a s d made) (inside x a s d made) made.dbid made.is due held)
      | inr full ↦ subst (λ (p : InPlace). ¬ FindsGap (Some to) later p 1 x.until gap) (sym full) (back.no_gap_restored a.from (records_of s.catalog) (in_place s) (target_inc x s) x.until x.dbid d later to gap
          (catalog x a s d made) (database x a s d made) (there x a s d made) (inside x a s d made) made.dbid made.is due held)
    ] in
    none

pub returns-clause-blocks : goal.returns-clause-blocks
returns-clause-blocks c x a b d to rs later place is is_to is_target late stands_so = λ r holds tell.
    let s = is.makes.state in
    let made = is.makes.is in
    let i = target_inc x s in
    let o = is.makes.source.opens r holds tell in
    let m = o.0 in
    let state : m.state ≡ Some s = o.2 ∙ is.makes.shown in (
      m,
      o.1,
      λ digests back tells.
          let e = made.is.tells.evidence in
          let both = agreed a.from s m e o.3.store state o.3.sound made.is.tells.is.at_hand digests in
          let told = world-told s.catalog in
          let history = subst (λ (w : World). IsHistory w m.history) (sym told) both.0 in
          let agrees = subst (λ (w : World). Agrees w m.history (known_of e)) (sym told) both.1 in
          let same = recorded-as x a s d made b is.carried rs is_target in
          let due : AreLater d.records later = subst (λ (qs : List Record). AreLater qs later) same late in
          let law = c.a_duplicate_is_the_source.ensures in
          let held = stands x a s d made b is.carried to is_to in
          let back_is : back.files ≡ made_of (world_of (records_of s.catalog)) m.history i x.until d.from = elim stands_so [
            | inl bare ↦ law.blocks a.from (records_of s.catalog) (in_place s) i x.until x.dbid d later to m.history back
                (catalog x a s d made) (database x a s d made) (there x a s d made) (inside x a s d made) made.dbid made.is due held history agrees
                (subst (λ (p : InPlace). TellsAll (Some to) later p 1 x.until back) bare tells)
            | inr full ↦ law.blocks_restored a.from (records_of s.catalog) (in_place s) i x.until x.dbid d later to m.history back
                (catalog x a s d made) (database x a s d made) (there x a s d made) (inside x a s d made) made.dbid made.is due held history agrees
                (subst (λ (p : InPlace). TellsAll (Some to) later p 1 x.until back) full tells)
          ] in
          back_is ∙ ap (λ (w : World). made_of w m.history i x.until d.from) told,
    )
