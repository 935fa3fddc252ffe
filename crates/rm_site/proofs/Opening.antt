-- What opening a site finds.
use Rattle.std.specs.Prelude.{Result, Ok, Err, IfErr, IsErrAnd, IsPermutation, true, false}
use Rattle.std.proofs.{Common.{◌≡◌, ◌∙◌, List, Option, Some, None, IfSome, refl, ap, rules, sym, subst}, lemmas.List.Elements.{All-nil}}
use Rattle.std.proofs.lemmas.List.Sorted.{IsPermutation-sym, IsPermutation-trans}
use Rattle.rm_base.specs.Store.{Held}
use Rattle.rm_catalog.specs.{Faults.{Answers, IsBadRow, IsTaken}, Keys.{Ascends, InOrder}, Rules.{IsOrderOf, IsValid}}
use Rattle.rm_catalog.specs.{declared.catalog.CatalogFault.{CatalogFault, TheVariants.{BadRow}}, declared.record.Record.{Record}}
use Rattle.rm_catalog.proofs.Ascending.{loaded_in_order}
use Rattle.rm_catalog.specs.declared.catalog.CatalogFault.TheVariants as catalog
use Rattle.rm_catalog_typed.specs.{Loading.{records_in}, TypedCatalog.{TypedCatalog, all_records}}
use Rattle.rm_catalog_typed.proofs.{Recorded.{one-catalog}, Valid.{typed_catalog-valid}}
use Rattle.rm_evidence.specs.declared.gathering.EvidenceFault.{EvidenceFault}
use Rattle.rm_evidence.specs.declared.gathering.EvidenceFault.TheVariants as evidence
use Rattle.rm_machine.specs.{Loading.{IsLoaded}, Machine.{Machine}, Rest.{HaveParts, IsSoundRest, IsSoundRestBy, Rest, Wakes, catalog_in}}
use Rattle.rm_machine.specs.{Sound.{IsSound}, declared.state.State.{State}}
use Rattle.rm_session.proofs.Waking.{waking-sound}
use Rattle.rm_machine_laws.specs.Holds.{HoldsRest, View, saved_in}
use Rattle.rm_site.specs.{Faults.{IsBadFirst, fault_at, fault_in}, Opens.{AreValid, Opens, Shows}}

-- a list of all in order is one of what was asked for
answered : (ks rs s : List Record) → IsPermutation ks rs → IsOrderOf s rs → IsOrderOf s ks
answered ks rs s asked is = record { permutation = IsPermutation-trans ks rs s asked is.permutation; order = is.order }

-- what is so of the records that were loaded, in order, is so of those that are kept
pub of-kept : (Is : List Record → Type 0) (kept : Option (List Record)) (rs s : List Record) → Answers kept rs → IsOrderOf s rs → Is s → IfSome kept (λ ks. (s : List Record) × IsOrderOf s ks × Is s)
of-kept Is None rs s asked order is = tt
of-kept Is (Some ks) rs s asked order is = (s, answered ks rs s asked order, is)

-- the records of a database at rest are valid, and in order
valid-at-rest : (c : Option TypedCatalog) (r : Rest) → r.catalog ≡ c → IsSoundRest r → IsValid (all_records c) × InOrder (all_records c)
valid-at-rest None r is sound = (All-nil _, search rules)
valid-at-rest (Some c) r is sound =
    let borne = subst (λ o. IsSoundRestBy o r.history r.objects r.made r.touched) is sound in
    let valid = typed_catalog-valid c borne.catalog in
    (valid.valid, valid.order)

-- what is loaded of them is the catalog
pub loaded-is : (held : Option Held) (kept : Option (List Record)) (rs : List Record) (c : Option TypedCatalog) (r : Rest) → HoldsRest held kept r → Answers kept rs
    → ((s : List Record) → IsOrderOf s rs → IsValid s → IsTaken (records_in (Ok c)) s) → c ≡ r.catalog
loaded-is held kept rs c r holds asked only =
    let valid = valid-at-rest r.catalog r refl holds.sound in
    let s = all_records r.catalog in
    let asked_is : IsPermutation s rs = subst (λ (k : Option (List Record)). Answers k rs) holds.keeper asked in
    one-catalog c r.catalog (only s (record { permutation = IsPermutation-sym s rs asked_is; order = valid.1 }) valid.0)

-- the parts of its saved site
parts-of : (o : Option State) (r : Rest) → IsSoundRestBy (catalog_in o) r.history r.objects r.made r.touched → HaveParts r.objects r.made r.touched (saved_in o)
parts-of None r sound = tt
parts-of (Some s) r sound = sound.parts

-- so the machine wakes, for which the site stands
pub opened : (held : Option Held) (kept : Option (List Record)) (v : View) → IfSome v.state IsSound → ((r : Rest) → HoldsRest held kept r → catalog_in v.state ≡ r.catalog)
    → IfSome held (λ h. IfSome v.state (IsLoaded h)) → Opens held kept v
opened held kept v sound catalog loaded r holds tell =
    let is = catalog r holds in
    let m : Machine = record { state = v.state; history = r.history; objects = r.objects; made = r.made; touched = r.touched } in
    let wakes : Wakes r m = record {
      rest = ap (λ (c : Option TypedCatalog). record { catalog = c; history = r.history; objects = r.objects; made = r.made; touched = r.touched }) is;
      loaded = subst (λ (h : Option Held). IfSome h (λ h. IfSome v.state (IsLoaded h))) holds.store loaded;
    } in
    let rests = subst (λ c. IsSoundRestBy c r.history r.objects r.made r.touched) (sym is) holds.sound in (
      m,
      wakes,
      refl,
      record {
        store = holds.store;
        keeper = holds.keeper ∙ ap (λ (c : Option TypedCatalog). Some (all_records c)) (sym is);
        sound = waking-sound r m holds.sound tell wakes sound;
        parts = parts-of v.state r rests;
      },
    )

-- a record that breaks a rule is told of those that are kept
pub told-bad : (fault : CatalogFault) (kept : Option (List Record)) (rs : List Record) → Answers kept rs → IsBadRow rs fault → IfSome kept (IsBadFirst (fault_at fault))
told-bad (BadRow kind id) None rs asked bad = tt
told-bad (BadRow kind id) (Some ks) rs asked bad = (bad.0, answered ks rs bad.0 asked bad.1, bad.2)
told-bad catalog.NoMemory None rs asked bad = tt
told-bad catalog.NoMemory (Some ks) rs asked bad = tt

-- where the store failed, they are valid
pub told-valid : (fault : EvidenceFault) (kept : Option (List Record)) → IfSome kept AreValid → IfSome kept (IsBadFirst (fault_in fault))
told-valid fault None valid = tt
told-valid evidence.StoreFault (Some ks) valid = valid
told-valid evidence.NoMemory (Some ks) valid = tt

-- what is so of the error that was handed on
pub told-err : {T E : Type 0} (r : Result T E) (e : E) (P : E → Type 0) → IsErrAnd r (λ x. x ≡ e) → P e → IfErr r P
told-err (Ok x) e P is p = tt
told-err (Err x) e P is p = subst P (sym is) p

-- a database, of whose catalog what runs is loaded
pub opened-some : (held : Option Held) (kept : Option (List Record)) (rs : List Record) (found : Result (Option TypedCatalog) CatalogFault) (o : Option State) (s : State) (c : Option TypedCatalog) (b : TypedCatalog)
    → Answers kept rs → ((s : List Record) → IsOrderOf s rs → IsValid s → IsTaken (records_in found) s) → found ≡ Ok c → c ≡ Some b → o ≡ Some s → s.catalog ≡ b
    → IfSome held (λ h. IsLoaded h s) → IsSound s → Opens held kept (record { state = o; live = true; applied = false })
opened-some held kept rs found o s c b asked only is some state catalog loaded sound =
    subst (λ (x : Option State). Opens held kept (record { state = x; live = true; applied = false })) (sym state)
    (opened held kept (record { state = Some s; live = true; applied = false }) sound
    (λ r holds. ap Some catalog ∙ sym some ∙ loaded-is held kept rs c r holds asked (subst (λ x. (s : List Record) → IsOrderOf s rs → IsValid s → IsTaken (records_in x) s) is only))
    loaded)

-- and none
pub opened-none : (held : Option Held) (kept : Option (List Record)) (rs : List Record) (found : Result (Option TypedCatalog) CatalogFault) (o : Option State) (c : Option TypedCatalog)
    → Answers kept rs → ((s : List Record) → IsOrderOf s rs → IsValid s → IsTaken (records_in found) s) → found ≡ Ok c → c ≡ None → o ≡ None
    → Opens held kept (record { state = o; live = true; applied = false })
opened-none held kept rs found o c asked only is none state =
    subst (λ (x : Option State). Opens held kept (record { state = x; live = true; applied = false })) (sym state)
    (opened held kept (record { state = None; live = true; applied = false }) tt
    (λ r holds. sym none ∙ loaded-is held kept rs c r holds asked (subst (λ x. (s : List Record) → IsOrderOf s rs → IsValid s → IsTaken (records_in x) s) is only))
    (all-some held))
  where
    all-some : (held : Option Held) → IfSome held (λ h. Unit {0})
    all-some None = tt
    all-some (Some h) = tt

-- the records that were loaded, in order, are those that are kept
kept-order : (kept : Option (List Record)) (rs s : List Record) → Answers kept rs → IsOrderOf s rs → IfSome kept (IsOrderOf s)
kept-order None rs s asked order = tt
kept-order (Some ks) rs s asked order = answered ks rs s asked order

-- and where they ascend, they are the same list
kept-same : (kept : Option (List Record)) (rs s : List Record) → Answers kept rs → IfSome kept Ascends → IsOrderOf s rs → IfSome kept (λ ks. ks ≡ s)
kept-same None rs s asked up order = tt
kept-same (Some ks) rs s asked up order = sym (loaded_in_order ks rs s up asked order)

-- what the site shows of a database, whose catalog was loaded, and what runs of it
pub shows-some : (held : Option Held) (kept : Option (List Record)) (rs : List Record) (o : Option State) (s : State) (c : Option TypedCatalog) (b : TypedCatalog)
    → Answers kept rs → IfSome kept Ascends → IsOrderOf (all_records c) rs → c ≡ Some b → o ≡ Some s → s.catalog ≡ b → IfSome held (λ h. IsLoaded h s) → Shows held kept (record { state = o; live = true; applied = false })
shows-some held kept rs o s c b asked up order some state catalog loaded =
    let here : IsOrderOf (all_records (Some s.catalog)) rs = subst (λ (x : Option TypedCatalog). IsOrderOf (all_records x) rs) (some ∙ ap Some (sym catalog)) order in
    subst (λ (x : Option State). Shows held kept (record { state = x; live = true; applied = false })) (sym state) (record {
      records = kept-order kept rs (all_records (Some s.catalog)) asked here;
      same = kept-same kept rs (all_records (Some s.catalog)) asked up here;
      loaded = loaded;
    })

-- and where there is none
pub shows-none : (held : Option Held) (kept : Option (List Record)) (rs : List Record) (o : Option State) (c : Option TypedCatalog)
    → Answers kept rs → IfSome kept Ascends → IsOrderOf (all_records c) rs → c ≡ None → o ≡ None → Shows held kept (record { state = o; live = true; applied = false })
shows-none held kept rs o c asked up order none state =
    let here : IsOrderOf (all_records None) rs = subst (λ (x : Option TypedCatalog). IsOrderOf (all_records x) rs) none order in
    subst (λ (x : Option State). Shows held kept (record { state = x; live = true; applied = false })) (sym state) (record {
      records = kept-order kept rs (all_records None) asked here;
      same = kept-same kept rs (all_records None) asked up here;
      loaded = nothing-loaded held;
    })
  where
    nothing-loaded : (held : Option Held) → IfSome held (λ h. Unit {0})
    nothing-loaded None = tt
    nothing-loaded (Some h) = tt
