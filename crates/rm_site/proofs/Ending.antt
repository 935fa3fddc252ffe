-- What a save of a database leaves, and what a stop leaves of it.
use Rattle.std.specs.{Prelude.{is_none, MatchBool, Result, Ok, Err, OnOk, OnErr}, Option.{option_map}}
use Rattle.std.proofs.Common.{◌≡◌, ◌∙◌, ◌++◌, ◌⊎◌, ◌&&◌, not, inl, inr, ℕ, Bool, List, [], Option, Some, None, true, false, refl, ap, sym, subst}
use Rattle.rm_base.{specs.Store.{Held}, proofs.Both.{both-map, both-told}}
use Rattle.rm_catalog.specs.{Edits.{after_edits}, declared.record.Record.{Record}}
use Rattle.rm_commit.specs.Carrying.{AreMoved, ArePut, Carried, Halted, after_the_edits, before_the_edits}
use Rattle.rm_commit.specs.{Names.{SameBeyondPuts, HasPuts, HasRemoves, is_named, itself, name_of}, declared.commit.Commit.{Commit}}
use Rattle.rm_catalog_typed.specs.TypedCatalog.{Saved, all_records, records_of}
use Rattle.rm_evidence.{specs.Names.{roll_name}, proofs.Names.{roll-no-site}}
use Rattle.rm_machine.specs.{Damage.{without_damaged}, Machine.{Machine}, Marks.{lacks_ids}, Rest.{Rest, at_rest, catalog_in}}
use Rattle.rm_machine.specs.{Saving.{IsSavedAs, IsSavedBy, made_of, object_of, parts_of, with_ids, with_site}, State.{ledger}}
use Rattle.rm_machine.{specs.declared.state.State.{State}, proofs.Dropping.{IsNoSite}}
use Rattle.rm_session.proofs.Resting.{rests as saved-rests}
use Rattle.rm_machine_laws.specs.{Holds.{Holds, HoldsRest, Stands, View, records, saved_in}, Loose.{IsNamedIn}}
use Rattle.rm_machine_laws.{specs.{Saves.{IsEnded, Saves, StopsSaving}, Stopped.{IsLeft}}, proofs.Dropping.{unnamed-site}}
use Rattle.rm_machine_laws.proofs.{Halting.{StaysUnder, is-left, left, left-holds, no-part, rests}, LowNames.{StayRolls}}
use Rattle.rm_site.specs.{Saved.{EndsOut, PutsSite, PutsWhat, SavesAt, StopsSavingAt}, Untouched.{AreSame}}

pub ok-then : {T E : Type 0} {P Q : Type 0} (r : Result T E) → (P → Q) → OnOk r P → OnOk r Q
ok-then (Ok x) f p = f p
ok-then (Err e) f p = tt

pub err-then : {T E : Type 0} {P Q : Type 0} (r : Result T E) → (P → Q) → OnErr r P → OnErr r Q
err-then (Ok x) f p = tt
err-then (Err e) f p = f p

module _ (held : Option Held) (kept : Option (List Record)) (s : State) where
  -- where a saved site stands, or the ids of a save are not left, all stays as it is
  ended-same : (m : Machine) (saved : Option Saved) (lacks : Bool) → (is_none saved ≡ false) ⊎ (lacks ≡ true)
      → MatchBool (true && is_none saved) (MatchBool lacks (at_rest m ≡ at_rest m) (IsSavedAs m (without_damaged s) (at_rest m))) (at_rest m ≡ at_rest m)
  ended-same m None true why = refl
  ended-same m None false (inl is) = absurd (cc)
  ended-same m None false (inr is) = absurd (cc)
  ended-same m (Some site) lacks why = refl

  pub saves-nothing : (is_none s.catalog.saved ≡ false) ⊎ (lacks_ids s 0 ≡ true) → SavesAt held kept s held kept
  saves-nothing why m is holds =
      (at_rest m, subst (λ o. MatchBool (true && is_none (saved_in o)) (IsSavedBy o m (at_rest m)) (at_rest m ≡ at_rest m)) (sym is) (ended-same m s.catalog.saved (lacks_ids s 0) why), rests held kept m holds)

  module _ (none : s.catalog.saved ≡ None) (ids : lacks_ids s 0 ≡ false) (x : Commit) (puts : x.objects ≡ with_ids object_of (ledger s).base.next_id (parts_of (without_damaged s)))
      (edits : after_edits x.edits (records_of s.catalog) ≡ records_of (with_site (without_damaged s))) (removes : x.removes ≡ []) where
    -- what is saved: each datafile of which a block is damaged is lost
    abbrev t : State
    t = without_damaged s

    -- the machine at rest, where its site was saved
    abbrev saved : Machine → Held → Rest
    saved m objects = record { catalog = Some (with_site t); history = m.history; objects = objects; made = m.made ++ with_ids made_of (ledger s).base.next_id (parts_of t); touched = m.touched }

    is-ended : (m : Machine) (r : Rest) → m.state ≡ Some s → IsSavedAs m t r → IsEnded true m r
    is-ended m r is done =
        subst (λ o. MatchBool (true && is_none (saved_in o)) (IsSavedBy o m r) (r ≡ at_rest m)) (sym is)
        (subst (λ (v : Option Saved). MatchBool (true && is_none v) (MatchBool (lacks_ids s 0) (r ≡ at_rest m) (IsSavedAs m t r)) (r ≡ at_rest m)) (sym none)
        (subst (λ (b : Bool). MatchBool b (r ≡ at_rest m) (IsSavedAs m t r)) (sym ids) done))

    saved-as : (m : Machine) (put objects : Held) → HasPuts x.objects m.objects put → ((name : List ℕ) → objects name ≡ put name) → IsSavedAs m t (saved m objects)
    saved-as m put objects has same = record {
      catalog = refl;
      history = refl;
      objects = λ name. same name ∙ subst (λ y. HasPuts y m.objects put) puts has name;
      made = refl;
      touched = refl;
    }

    keeper-has : (kept' : Option (List Record)) (m : Machine) → m.state ≡ Some s → kept ≡ Some (records m) → kept' ≡ option_map (after_edits x.edits) kept → kept' ≡ Some (records_of (with_site t))
    keeper-has kept' m is keeper made =
        made ∙ ap (option_map (after_edits x.edits)) keeper ∙ ap Some (ap (λ (o : Option State). after_edits x.edits (all_records (catalog_in o))) is ∙ edits)

    saved-holds : (m : Machine) (objects : Held) (held' : Option Held) (kept' : Option (List Record)) → m.state ≡ Some s → Holds held kept m → IsSavedAs m t (saved m objects)
        → held' ≡ Some objects → kept' ≡ option_map (after_edits x.edits) kept → HoldsRest held' kept' (saved m objects)
    saved-holds m objects held' kept' is holds done store made = record {
      store = store;
      keeper = keeper-has kept' m is holds.keeper made;
      sound = saved-rests m s (saved m objects) holds.sound is none ids done;
    }

    pub saves-all : (held' : Option Held) (kept' : Option (List Record)) → Carried x held kept held' kept' → SavesAt held kept s held' kept'
    saves-all held' kept' all m is holds =
        let now = both-told (AreMoved x) held held' m.objects holds.store all.objects in
        let same : (name : List ℕ) → now.0 name ≡ now.1.put name = subst (λ (ys : List (List ℕ)). HasRemoves ys now.1.put now.0) removes now.1.removes in
        let done = saved-as m now.1.put now.0 now.1.puts same in
        (saved m now.0, is-ended m (saved m now.0) is done, saved-holds m now.0 held' kept' is holds done now.2 all.records)

    -- so it is whether or not a machine stands behind what they hold
    pub puts-site : (held' : Option Held) (kept' : Option (List Record)) → Carried x held kept held' kept' → PutsSite held kept s held' kept'
    puts-site held' kept' all =
        let at : ℕ = (ledger s).base.next_id in
        record {
          store =
              both-map (AreMoved x) (HasPuts (with_ids object_of at (parts_of t)))
              (λ before after moved name.
              let same : after name ≡ moved.put name = subst (λ (ys : List (List ℕ)). HasRemoves ys moved.put after) removes moved.removes name in
              same ∙ subst (λ y. HasPuts y before moved.put) puts moved.puts name)
              held held' all.objects;
          keeper = λ tells. all.records ∙ ap (option_map (after_edits x.edits)) tells ∙ ap Some edits;
        }

    -- what has another name than a part stays
    stays-beside : (m : Machine) (objects : Held) → SameBeyondPuts x.objects m.objects objects → (name : List ℕ) → IsNoSite name → objects name ≡ m.objects name
    stays-beside m objects same name other = same name (ap (λ ys. is_named name_of ys name) puts ∙ unnamed-site (ledger s).base.next_id (parts_of t) name other)

    -- so do the objects of records, and increments
    stays-under : (m : Machine) (objects : Held) → m.state ≡ Some s → SameBeyondPuts x.objects m.objects objects → StaysUnder [] m.state m.objects objects
    stays-under m objects is same name names = inr (stays-beside m objects same name (no-part s name none (subst (λ o. IsNamedIn o name) is names)))

    rolls-stay : (m : Machine) (objects : Held) → SameBeyondPuts x.objects m.objects objects → StayRolls [] m.state m.objects objects
    rolls-stay m objects same id given = inr (stays-beside m objects same (roll_name id) (roll-no-site id))

    pub stops-saving : (held' : Option Held) (kept' : Option (List Record)) → Halted x held kept held' kept' → StopsSavingAt held kept s held' kept'
    stops-saving held' kept' (before_the_edits b) m is holds =
        let now = both-told (SameBeyondPuts x.objects) held held' m.objects holds.store b.objects in
        let same = stays-under m now.0 is now.1 in
        (left [] m now.0, inl (is-left [] m now.0 same (rolls-stay m now.0 now.1)), left-holds [] m now.0 held' kept' holds.sound holds.parts same now.2 (b.records ∙ holds.keeper))
    stops-saving held' kept' (after_the_edits a) m is holds =
        let now = both-told (ArePut x) held held' m.objects holds.store a.objects in
        let same : (name : List ℕ) → now.0 name ≡ now.1.put name = λ name. now.1.removes name (ap (λ (ys : List (List ℕ)). is_named itself ys name) removes) in
        let done = saved-as m now.1.put now.0 now.1.puts same in
        (saved m now.0, inr (is-ended m (saved m now.0) is done), saved-holds m now.0 held' kept' is holds done now.2 a.records)

  -- where nothing was done yet
  pub stops-before : StopsSavingAt held kept s held kept
  stops-before m is holds =
      let same : StaysUnder [] m.state m.objects m.objects = λ name names. inr refl in
      (at_rest m, inl (is-left [] m m.objects same (λ id given. inr refl)), rests held kept m holds)

-- over the site, where nothing is to be saved
module _ (held : Option Held) (kept : Option (List Record)) (v : View) where
  same-by : ((m : Machine) → Stands v m → IsEnded v.applied m (at_rest m)) → Saves held kept v held kept
  same-by ended m stands holds = (at_rest m, ended m stands, rests held kept m holds)

  either : (b : Bool) (m : Machine) → MatchBool b (at_rest m ≡ at_rest m) (at_rest m ≡ at_rest m)
  either true m = refl
  either false m = refl

  pub unapplied-saves : v.applied ≡ false → Saves held kept v held kept
  unapplied-saves none = same-by (λ m stands. subst (λ (b : Bool). IsEnded b m (at_rest m)) (sym none) refl)

  pub nothing-saves : v.state ≡ None → Saves held kept v held kept
  nothing-saves none =
      same-by (λ m stands. subst (λ o. MatchBool (v.applied && is_none (saved_in o)) (IsSavedBy o m (at_rest m)) (at_rest m ≡ at_rest m)) (sym (stands ∙ none)) (either (v.applied && true) m))

  pub unsaved-saves : (s : State) → v.state ≡ Some s → (is_none s.catalog.saved ≡ false) ⊎ (lacks_ids s 0 ≡ true) → v.applied ≡ true → Saves held kept v held kept
  unsaved-saves s is why applied m stands holds =
      let on = saves-nothing held kept s why m (stands ∙ is) holds in
      (on.0, subst (λ (b : Bool). IsEnded b m on.0) (sym applied) on.1, on.2)

  -- and where it is saved
  pub state-saves : (s : State) (held' : Option Held) (kept' : Option (List Record)) → v.state ≡ Some s → v.applied ≡ true → SavesAt held kept s held' kept' → Saves held kept v held' kept'
  state-saves s held' kept' is applied saves m stands holds =
      let on = saves m (stands ∙ is) holds in
      (on.0, subst (λ (b : Bool). IsEnded b m on.0) (sym applied) on.1, on.2)

  pub state-stops : (s : State) (held' : Option Held) (kept' : Option (List Record)) → v.state ≡ Some s → v.applied ≡ true → StopsSavingAt held kept s held' kept' → StopsSaving held kept v held' kept'
  state-stops s held' kept' is applied stops m stands holds =
      let on = stops m (stands ∙ is) holds in
      (on.0, subst (λ (b : Bool). IsLeft [] m on.0 ⊎ IsEnded b m on.0) (sym applied) on.1, on.2)

-- How the session ends, whatever they hold.
module _ (held : Option Held) (kept : Option (List Record)) (o : Option State) (applied : Bool) where
  pub ends-unapplied : applied ≡ false → EndsOut applied held kept o held kept
  ends-unapplied none = subst (λ (b : Bool). EndsOut b held kept o held kept) (sym none) (refl, refl)

  either-ends : (b : Bool) → PutsWhat held kept o held kept → EndsOut b held kept o held kept
  either-ends true puts = puts
  either-ends false puts = (refl, refl)

  -- there is no database
  pub ends-none : o ≡ None → EndsOut applied held kept o held kept
  ends-none none = either-ends applied (subst (λ (p : Option State). PutsWhat held kept p held kept) (sym none) (refl, refl))

  module _ (s : State) (is : o ≡ Some s) (all : applied ≡ true) (held' : Option Held) (kept' : Option (List Record)) where
    ends-by : (b : Bool) → (is_none s.catalog.saved && not (lacks_ids s 0)) ≡ b → MatchBool b (PutsSite held kept s held' kept') (AreSame held kept held' kept') → EndsOut applied held kept o held' kept'
    ends-by b to left =
        subst (λ (a : Bool). EndsOut a held kept o held' kept') (sym all)
        (subst (λ (p : Option State). PutsWhat held kept p held' kept') (sym is) (subst (λ (a : Bool). MatchBool a (PutsSite held kept s held' kept') (AreSame held kept held' kept')) (sym to) left))

    stays : (a b : Bool) → (a ≡ false) ⊎ (b ≡ true) → (a && not b) ≡ false
    stays a b (inl none) = ap (λ c. c && not b) none
    stays true b (inr lacks) = ap not lacks
    stays false b (inr lacks) = refl

    -- nothing is to be saved
    pub ends-same : (is_none s.catalog.saved ≡ false) ⊎ (lacks_ids s 0 ≡ true) → AreSame held kept held' kept' → EndsOut applied held kept o held' kept'
    ends-same why same = ends-by false (stays (is_none s.catalog.saved) (lacks_ids s 0) why) same

    -- the site is saved
    pub ends-saved : s.catalog.saved ≡ None → lacks_ids s 0 ≡ false → PutsSite held kept s held' kept' → EndsOut applied held kept o held' kept'
    ends-saved none ids puts = ends-by true (λ i. is_none (none i) && not (ids i)) puts
