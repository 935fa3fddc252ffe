-- What was saved is at rest.
use Rattle.std.proofs.Common.{◌≡◌, ◌≢◌, ◌+◌, ◌-◌, ◌∙◌, inl, inr, ℕ, List, [], Some, None, false, refl, ap, sym, subst, arith, Contains, slice_index_or}
use Rattle.std.proofs.lemmas.List.Elements.{All-contains, Contains-append_cases, Contains-append_left, Contains-append_right}
use Rattle.std.proofs.lemmas.Option.{slice_get_within}
use Rattle.rm_base.{specs.declared.block.Change.{Change}, proofs.{Slots.{index-get}, Standing.{each-in}}}
use Rattle.rm_commit.specs.{Names.{bytes_of, name_of}, declared.commit.Object.{Object}}
use Rattle.rm_commit.proofs.Standing.{AreApart, each-stands, others-stay}
use Rattle.rm_history.proofs.Highs.{high-least}
use Rattle.rm_catalog_typed.{specs.Worlds.{database_of}, proofs.Lookups.{item-at}}
use Rattle.rm_evidence.{specs.Names.{site_name}, proofs.Names.{site-name-tells}}
use Rattle.rm_machine.specs.{Damage.{has_file, without_damaged}, Effect.{Made}}
use Rattle.rm_machine.specs.Machine.{HaveArtefacts, HistoryFits, IsBorneOut, IsSoundBy, IsSoundMachine, IsTrueArtefact, Machine}
use Rattle.rm_machine.specs.{Marks.{lacks_ids}, Rest.{HasPartArtefact, HaveParts, IsRestBorneOut, IsSoundRest, IsSoundRestBy, Rest}}
use Rattle.rm_machine.specs.Saved.{IsOfPart, spelling_of}
use Rattle.rm_machine.specs.Saving.{IsSavedAs, SitePart, entry_of, made_of, object_of, parts_of, saved_of, with_ids, with_site}
use Rattle.rm_machine.specs.{Sound.{IsSound}, State.{ledger, counted, placed, world}, declared.state.State.{State}}
use Rattle.rm_machine.proofs.{Dropping.{no-site}, Kept.{StandOn, kept-on, stays-so}, LosingFits.{losing-fits}, Undamaged.{sound-undamaged}}
use Rattle.rm_machine.proofs.PartIds.{ids-from, ids-pairs}
use Rattle.rm_session.proofs.PartsOf.{IsOther, IsPartOf, file-valid, of_file, of_thread, part-of, parts-apart}
use Rattle.rm_session.proofs.Sites.{ids-left, next_after, site-typed_catalog}

abbrev pub objects_of : State → List Object
objects_of s = with_ids object_of (ledger s).base.next_id (parts_of s)

-- the artefact of each part is true
part-true : (s : State) (h : List Change) → IsSound s → HistoryFits s h → s.instance.damaged ≡ [] → (p : SitePart) → IsPartOf s p → IsTrueArtefact (world s) h p.artefact
part-true s h sound keeps none _ (of_file k x at) =
    let inside = slice_get_within s.instance.place k (Some x) at in
    let many = sound.place.many in
    let file = item-at (ledger s).files k (omega (arith, inside, many)) in
    let is = sound.place.each k file.0 x file.1 at in
    let back : k + 1 - 1 ≡ k = omega arith in
    let stands : placed s (k + 1) ≡ Some x = ap (λ n. slice_index_or s.instance.place n None) back ∙ index-get s.instance.place k x at in
    record {
      agrees = keeps.place (k + 1) x stands (ap (λ ds. has_file ds x.file) none);
      valid = file-valid s sound k x at;
      within = (is.there, high-least (counted s x).checkpoint (counted s x).rows, is.high);
      of = omega (arith, is.file, inside, many);
    }
part-true s h sound keeps none _ (of_thread t there found) = record {
  agrees = keeps.online t there found;
  valid = (sound.logs.each t there found).valid;
  within = (sound.logs.there, omega arith);
  of = tt;
}

-- a part of a datafile is a piece, and one of a thread a log
of-part : (s : State) (p : SitePart) (id : ℕ) → IsPartOf s p → IsOfPart (entry_of id p) p.artefact
of-part s _ id (of_file k x at) = omega arith
of-part s _ id (of_thread t there found) = refl

module _ (m : Machine) (s : State) (r : Rest) (borne : IsBorneOut s m.history m.objects m.made m.touched) (none : s.instance.damaged ≡ []) (ids : lacks_ids s 0 ≡ false) (saved : IsSavedAs m s r) where
  abbrev next : ℕ
  next = (ledger s).base.next_id

  names-apart : AreApart name_of (objects_of s)
  names-apart =
      let left = ids-left s borne.state ids in
      ids-pairs object_of IsOther (λ x y. x.name ≢ y.name) (next_after s)
      (λ i j p q less most other same. let e = site-name-tells i j (omega (arith, less, most, left)) (omega (arith, most, left)) same in omega (arith, e, less))
      next (parts_of s) (omega arith) (parts-apart s)

  -- the object of each part stands under its name
  pub object-stands : (id : ℕ) (p : SitePart) → Contains (objects_of s) (object_of id p) → r.objects (site_name id) ≡ Some (spelling_of p.artefact)
  object-stands id p has =
      All-contains (λ (x : Object). r.objects x.name ≡ Some x.bytes) (objects_of s) (object_of id p) (each-stands name_of bytes_of (objects_of s) m.objects r.objects saved.objects names-apart) has

  -- what stands under the names of records stays
  stand : StandOn m.objects r.objects m.touched r.touched (ledger s) (with_site s).ledger
  stand name bytes names names' (inl given) = inl (subst (λ (ns : List (List ℕ)). Contains ns name) (sym saved.touched) given)
  stand name bytes names names' (inr is) =
      inr (others-stay name_of bytes_of (objects_of s) m.objects r.objects name saved.objects
      (each-in (λ (x : Object). name ≢ x.name) (objects_of s) (λ x has same.
      let from = ids-from object_of next (parts_of s) x has in
      no-site (ledger s) name names (next + from.at) (same ∙ sym (ap (λ (y : Object). y.name) from.is))))
      ∙ is)

  more : (a : Made) → Contains m.made a → Contains r.made a
  more a has = subst (λ (xs : List Made). Contains xs a) (sym saved.made) (Contains-append_left m.made (with_ids made_of next (parts_of s)) a has)

  records : HaveArtefacts r.objects r.made r.touched (with_site s).ledger
  records = kept-on m.objects r.objects m.made r.made m.touched r.touched (ledger s) (with_site s).ledger (stays-so (database_of (ledger s))) stand more (λ e has. inl has) (λ e has. inl has) (λ e has. inl has) borne.records

  parts-have : HaveParts r.objects r.made r.touched (Some (saved_of s))
  parts-have e has =
      let from = ids-from entry_of next (parts_of s) e has in
      let id = next + from.at in
      let p = from.part in
      subst (HasPartArtefact r.objects r.made r.touched) from.is (record {
        artefact = p.artefact;
        of = of-part s p id (part-of s borne.state p from.held);
        is = subst (λ (xs : List Made). Contains xs (made_of id p)) (sym saved.made) (Contains-append_right m.made (with_ids made_of next (parts_of s)) (made_of id p) (from.under made_of));
        digest = record { size = refl; sha = refl };
        there = inr (object-stands id p (from.under object_of));
      })

  true-made : (a : Made) → Contains r.made a → IsTrueArtefact (world s) m.history a.artefact
  true-made a has = elim (Contains-append_cases m.made (with_ids made_of next (parts_of s)) a (subst (λ (xs : List Made). Contains xs a) saved.made has)) [
    | inl old ↦ borne.artefacts a old
    | inr new ↦
        let from = ids-from made_of next (parts_of s) a new in
        subst (λ (x : Made). IsTrueArtefact (world s) m.history x.artefact) from.is (part-true s m.history borne.state borne.keeps none from.part (part-of s borne.state from.part from.held))
  ]

  pub rest-borne : IsRestBorneOut (with_site s) r.history r.objects r.made r.touched
  rest-borne = subst (λ (h : List Change). IsRestBorneOut (with_site s) h r.objects r.made r.touched) (sym saved.history) (record {
    catalog = site-typed_catalog s borne.state ids;
    dbid = borne.state.dbid;
    history = borne.keeps.history;
    below = borne.keeps.below;
    artefacts = true-made;
    records = records;
    parts = parts-have;
  })

borne-out : (m : Machine) (s : State) → IsSoundMachine m → m.state ≡ Some s → IsBorneOut s m.history m.objects m.made m.touched
borne-out m s sound is = subst (λ o. IsSoundBy o m.history m.objects m.made m.touched) is sound

-- and so is the database where each datafile with a damaged block is lost
pub borne-without : (m : Machine) (s : State) → IsSoundMachine m → m.state ≡ Some s → IsBorneOut (without_damaged s) m.history m.objects m.made m.touched
borne-without m s sound is =
    let borne = borne-out m s sound is in
    record { state = sound-undamaged s borne.state; keeps = losing-fits s m.history borne.state borne.keeps; artefacts = borne.artefacts; records = borne.records }

pub rests : (m : Machine) (s : State) (r : Rest) → IsSoundMachine m → m.state ≡ Some s → s.catalog.saved ≡ None → lacks_ids s 0 ≡ false → IsSavedAs m (without_damaged s) r → IsSoundRest r
rests m s r sound is none ids saved =
    subst (λ o. IsSoundRestBy o r.history r.objects r.made r.touched) (sym saved.catalog) (rest-borne m (without_damaged s) r (borne-without m s sound is) refl ids saved)
