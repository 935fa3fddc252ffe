-- What a stop leaves, wherever it came.
use Rattle.std.proofs.Common.{◌≡◌, ◌∙◌, ◌++◌, ◌⊎◌, inl, inr, ℕ, List, Option, Some, None, IsSomeAnd, true, false, refl, ap, sym, subst, arith, Contains}
use Rattle.std.proofs.lemmas.{Bool.{cases_Bool}, List.Elements.{Contains-append_left, Contains-append_right}}
use Rattle.rm_base.{specs.{Store.{Held}, declared.block.Change.{Change as BlockChange}}, proofs.Both.{both-told}}
use Rattle.rm_catalog.specs.declared.record.{PartEntry.{PartEntry}, Record.{Record}}
use Rattle.rm_commit.specs.Carrying.{ArePut, Halted, after_the_edits, before_the_edits}
use Rattle.rm_commit.specs.{Names.{SameBeyondPuts, after_all, is_named, itself, name_of, nothing}, declared.commit.Commit.{Commit}}
use Rattle.rm_commit.proofs.Named.{unnamed-stays}
use Rattle.rm_lang_statement.specs.declared.command.Command.{Command}
use Rattle.rm_report.specs.{Reply.{said}, declared.line.{Line.{Line}, Reply.{Reply}}}
use Rattle.rm_evidence.{specs.Names.{roll_name, site_name}, proofs.Names.{roll-no-site}}
use Rattle.rm_catalog_typed.specs.TypedCatalog.{Saved}
use Rattle.rm_machine.specs.{Effect.{Artefact, Made}, Laws.{LeadsOn, StaysSound}}
use Rattle.rm_machine.specs.Machine.{HoldsUnder, IsBorneOut, IsSoundBy, IsSoundMachine, Machine}
use Rattle.rm_machine.specs.{Rest.{HaveParts, IsSoundRestBy, Rest, at_rest, catalog_in}, Saved.{spelling_of}, State.{ledger}}
use Rattle.rm_machine.{specs.{Step.{IsStatement, Step, names_in}, declared.state.State.{State}}, proofs.Dropping.{IsNoSite, no-site}}
use Rattle.rm_machine.proofs.{Kept.{StandOn}, Later.{borne-beside}}
use Rattle.rm_machine_laws.specs.{Carries.{IsHanded}, Holds.{Holds, HoldsRest, records, saved_in}}
use Rattle.rm_machine_laws.specs.Loose.{IsLoose, IsLowIn, IsNamedBy, IsNamedIn, StaysLoose, is_roll, of_object, of_part}
use Rattle.rm_machine_laws.{specs.{Moments.{IsMomentIn, moment_of}, Stopped.{IsLeft, Stopped, StopsAt}}, proofs.Dropping.{named-first}}
use Rattle.rm_machine_laws.proofs.{Carried.{edited, finished, no-parts}, Loosening.{loose-from}}
use Rattle.rm_machine_laws.proofs.LowNames.{StayRolls, StaysLow, low-put, low-removed, step-low}

-- under each name of a record stands what stood there, but for those that were given
abbrev pub StaysUnder : List (List ℕ) → Option State → Held → Held → Type 0
StaysUnder given o before after = (name : List ℕ) → IsNamedIn o name → Contains given name ⊎ (after name ≡ before name)

-- the machine n at rest, where other objects are left
abbrev pub left : List (List ℕ) → Machine → Held → Rest
left given n objects = record { catalog = catalog_in n.state; history = n.history; objects = objects; made = n.made; touched = given ++ n.touched }

stand-left : (given : List (List ℕ)) (s : State) (before after : Held) (touched : List (List ℕ)) → StaysUnder given (Some s) before after → StandOn before after touched (given ++ touched) (ledger s) (ledger s)
stand-left given s before after touched same name bytes names again (inl was) = inl (Contains-append_right given touched name was)
stand-left given s before after touched same name bytes names again (inr is) = elim (same name (of_object name names)) [
  | inl by ↦ inl (Contains-append_left given touched name by)
  | inr still ↦ inr (still ∙ is)
]

-- the parts of a saved site go on to have their artefacts
parts-left : (given : List (List ℕ)) (saved : Option Saved) (before after : Held) (made : List Made) (touched : List (List ℕ))
    → ((p : PartEntry) → IsSomeAnd saved (λ site. Contains site.parts p) → Contains given (site_name p.id) ⊎ (after (site_name p.id) ≡ before (site_name p.id)))
    → HaveParts before made touched saved → HaveParts after made (given ++ touched) saved
parts-left given None before after made touched same have = tt
parts-left given (Some site) before after made touched same have = λ p has.
    let was = have p has in
    record { artefact = was.artefact; of = was.of; is = was.is; digest = was.digest; there = there p has was.artefact was.there }
  where
    there : (p : PartEntry) (has : Contains site.parts p) (a : Artefact) → HoldsUnder before touched (site_name p.id) (spelling_of a) → HoldsUnder after (given ++ touched) (site_name p.id) (spelling_of a)
    there p has a (inl was) = inl (Contains-append_right given touched (site_name p.id) was)
    there p has a (inr is) = elim (same p has) [
      | inl by ↦ inl (Contains-append_left given touched (site_name p.id) by)
      | inr still ↦ inr (still ∙ is)
    ]

-- what is left of a database is sound
rest-sound : (s : State) (h : List BlockChange) (objects : Held) (made : List Made) (touched : List (List ℕ)) → IsBorneOut s h objects made touched → HaveParts objects made touched s.catalog.saved → IsSoundRestBy (Some s.catalog) h objects made touched
rest-sound s h objects made touched is parts = record {
  catalog = is.state.catalog;
  dbid = is.state.dbid;
  history = is.keeps.history;
  below = is.keeps.below;
  artefacts = is.artefacts;
  records = is.records;
  parts = parts;
}

sound-by : (given : List (List ℕ)) (o : Option State) (h : List BlockChange) (before after : Held) (made : List Made) (touched : List (List ℕ)) → StaysUnder given o before after → IsSoundBy o h before made touched
    → HaveParts before made touched (saved_in o) → IsSoundRestBy (catalog_in o) h after made (given ++ touched)
sound-by given None h before after made touched same is parts = is
sound-by given (Some s) h before after made touched same is parts =
    rest-sound s h after made (given ++ touched) (borne-beside s h before after made touched (given ++ touched) is (stand-left given s before after touched same))
    (parts-left given s.catalog.saved before after made touched (λ p has. same (site_name p.id) (of_part p has)) parts)

-- and the devices hold it
pub left-holds : (given : List (List ℕ)) (n : Machine) (objects : Held) (held : Option Held) (kept : Option (List Record)) → IsSoundMachine n → HaveParts n.objects n.made n.touched (saved_in n.state) → StaysUnder given n.state n.objects objects
    → held ≡ Some objects → kept ≡ Some (records n) → HoldsRest held kept (left given n objects)
left-holds given n objects held kept sound parts same store keeper = record {
  store = store;
  keeper = keeper;
  sound = sound-by given n.state n.history n.objects objects n.made n.touched same sound parts;
}

pub is-left : (given : List (List ℕ)) (n : Machine) (objects : Held) → StaysUnder given n.state n.objects objects → StayRolls given n.state n.objects objects
    → IsLeft given n (left given n objects)
is-left given n objects same rolls = record { catalog = refl; history = refl; made = refl; touched = refl; objects = same; rolls = rolls }

-- the name of a log or a piece is none of a part
pub no-part : (t : State) (name : List ℕ) → t.catalog.saved ≡ None → IsNamedBy t name → IsNoSite name
no-part t _ none (of_object name names) = no-site (ledger t) name names
no-part t _ none (of_part p has) = absurd (subst (λ o. IsSomeAnd o (λ site. Contains site.parts p)) none has)

module _ (c : Command) (law : LeadsOn c) (stays : StaysSound c) (loose : StaysLoose c) (held : Option Held) (kept : Option (List Record)) (o : Option State) (moment : ℕ) (lines : List Line) (x : Commit) (t : State)
    (well : IsStatement c) (at : IsMomentIn o moment) (handed : IsHanded held o c moment lines x t) where
  loose-of : (m : Machine) → m.state ≡ o → Holds held kept m → IsLoose o c handed.effect t
  loose-of m is holds = loose-from c loose o m moment lines handed.effect t is holds.sound at (handed.comes m.objects holds.store)

  before-stays : (m : Machine) → m.state ≡ o → Holds held kept m → (after : Held) → SameBeyondPuts x.objects m.objects after → StaysUnder (names_in c) m.state m.objects after
  before-stays m is holds after same name names = elim (cases_Bool (is_named name_of x.objects name)) [
    | inl put ↦ inl ((loose-of m is holds).puts name (subst (λ y. IsNamedIn y name) is names) (subst (λ ys. is_named name_of ys name ≡ true) handed.puts put))
    | inr other ↦ inr (same name other)
  ]

  low-of : (m : Machine) → m.state ≡ o → Holds held kept m → (name : List ℕ) → IsLowIn m.state name → is_named name_of x.objects name ≡ true → Contains (names_in c) name
  low-of m is holds name low put = (loose-of m is holds).low name (subst (λ y. IsLowIn y name) is low) (subst (λ ys. is_named name_of ys name ≡ true) handed.puts put)

  rolls-stay : (m : Machine) → m.state ≡ o → Holds held kept m → (after : Held) → SameBeyondPuts x.objects m.objects after → StayRolls (names_in c) m.state m.objects after
  rolls-stay m is holds after same id given = elim (cases_Bool (is_named name_of x.objects (roll_name id))) [
    | inl put ↦ inl (low-of m is holds (roll_name id) (id, is_roll, given) put)
    | inr other ↦ inr (same (roll_name id) other)
  ]

  pub halts : (held' : Option Held) (kept' : Option (List Record)) → Halted x held kept held' kept' → StopsAt held kept o c moment held' kept'
  halts held' kept' (before_the_edits b) m is holds tell =
      let now = both-told (SameBeyondPuts x.objects) held held' m.objects holds.store b.objects in
      let same = before-stays m is holds now.0 now.1 in (
        left (names_in c) m now.0,
        record { machine = m; one = inl refl; left = is-left (names_in c) m now.0 same (rolls-stay m is holds now.0 now.1); low = low-put (names_in c) m.state x.objects (low-of m is holds) m.objects now.0 m.objects now.1 },
        left-holds (names_in c) m now.0 held' kept' holds.sound holds.parts same now.2 (b.records ∙ holds.keeper),
      )
  halts held' kept' (after_the_edits a) m is holds tell =
      let now = both-told (ArePut x) held held' m.objects holds.store a.objects in
      let all : Held = λ name. after_all itself nothing x.removes name (now.1.put name) in
      let last = finished c law stays held kept o moment lines x t well at handed m is holds tell now.1.put all now.1.puts (λ name. refl) in
      let n = last.machine in
      let goes : (name : List ℕ) → IsNoSite name → is_named itself x.removes name ≡ true → is_named itself handed.effect.removes name ≡ true =
      λ name other gone. named-first o handed.effect name other (subst (λ ys. is_named itself ys name ≡ true) handed.removes gone) in
      let still : (name : List ℕ) → is_named itself x.removes name ≡ false → now.0 name ≡ n.objects name =
      λ name stays. now.1.removes name stays ∙ sym (unnamed-stays itself nothing x.removes name (now.1.put name) stays) ∙ sym (ap (λ (h : Held). h name) last.objects_are) in
      let same : StaysUnder (names_in c) n.state n.objects now.0 = λ name names. elim (cases_Bool (is_named itself x.removes name)) [
        | inl gone ↦
            let named = subst (λ y. IsNamedIn y name) last.state names in
            inl ((loose-of m is holds).removes name named (goes name (no-part t name last.unsaved_is named) gone))
        | inr stays ↦ inr (still name stays)
      ] in
      let rolls : StayRolls (names_in c) n.state n.objects now.0 = λ id given. elim (cases_Bool (is_named itself x.removes (roll_name id))) [
        | inl gone ↦ inl ((loose-of m is holds).rolls id (goes (roll_name id) (roll-no-site id) gone))
        | inr stays ↦ inr (still (roll_name id) stays)
      ] in
      let keeper = edited c law stays held kept o moment lines x t well at handed kept' m n is last.state holds.keeper a.records in (
        left (names_in c) n now.0,
        record {
          machine = n;
          one = inr (said lines, last.step);
          left = is-left (names_in c) n now.0 same rolls;
          low = low-removed (names_in c) m.state x.objects (low-of m is holds) m.objects x.removes now.1.put now.0 n.objects now.1.puts now.1.removes
              (λ name. ap (λ (h : Held). h name) last.objects_are);
        },
        left-holds (names_in c) n now.0 held' kept' last.sound (no-parts n t last.state last.unsaved_is) same now.2 keeper,
      )

-- what the store and the keeper hold of a machine they hold of what is left of it, with its objects
pub ends-here : (held : Option Held) (kept : Option (List Record)) (c : Command) (n : Machine) → Holds held kept n → (r : Rest) × IsLeft (names_in c) n r × HoldsRest held kept r × (r.objects ≡ n.objects)
ends-here held kept c n holds =
    let same : StaysUnder (names_in c) n.state n.objects n.objects = λ name names. inr refl in
    (left (names_in c) n n.objects, is-left (names_in c) n n.objects same (λ id given. inr refl), left-holds (names_in c) n n.objects held kept holds.sound holds.parts same holds.store holds.keeper, refl)

-- and of it at rest
pub rests : (held : Option Held) (kept : Option (List Record)) (m : Machine) → Holds held kept m → HoldsRest held kept (at_rest m)
rests held kept m holds = record { store = holds.store; keeper = holds.keeper; sound = by m.state holds.sound holds.parts }
  where
    by : (o : Option State) → IsSoundBy o m.history m.objects m.made m.touched → HaveParts m.objects m.made m.touched (saved_in o) → IsSoundRestBy (catalog_in o) m.history m.objects m.made m.touched
    by None is parts = is
    by (Some s) is parts = rest-sound s m.history m.objects m.made m.touched is parts

-- where nothing was done yet
pub nothing-done : (held : Option Held) (kept : Option (List Record)) (o : Option State) (c : Command) (moment : ℕ) → StopsAt held kept o c moment held kept
nothing-done held kept o c moment m is holds tell =
    let left = ends-here held kept c m holds in
    (left.0, record { machine = m; one = inl refl; left = left.1; low = λ name low. inr (inl (ap (λ (h : Held). h name) left.3)) }, left.2)

-- the clock's answer makes a moment
pub moment-in : (o : Option State) (h : List BlockChange) (objects : Held) (made : List Made) (touched : List (List ℕ)) (clock : ℕ)
    → IsSoundBy o h objects made touched → IsMomentIn o (moment_of o clock)
moment-in None h objects made touched clock sound = record { kept = omega arith; last = omega arith }
moment-in (Some s) h objects made touched clock sound = record { kept = omega arith; last = omega (arith, sound.state.catalog.ledger.base.moment) }

-- where all of it was done, and no word of its reply written
pub stopped-after : (c : Command) → StaysLoose c → (m n : Machine) (clock : ℕ) (reply : Reply) (held : Option Held) (kept : Option (List Record))
    → IsSoundMachine m → Step m c (moment_of m.state clock) reply n → Holds held kept n
    → (r : Rest) × Stopped m c (moment_of m.state clock) r × HoldsRest held kept r
stopped-after c loose m n clock reply held kept sound step holds =
    let left = ends-here held kept c n holds in
    let at = moment-in m.state m.history m.objects m.made m.touched clock sound in
    let low = step-low c loose m n (moment_of m.state clock) reply sound at step in
    let still = subst (λ (objects : Held). StaysLow (names_in c) m.state m.objects objects n.objects) (sym left.3) low in
    (left.0, record { machine = n; one = inr (reply, step); left = left.1; low = still }, left.2)
