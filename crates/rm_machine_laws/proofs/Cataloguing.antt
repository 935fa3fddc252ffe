-- CATALOG: where what stands there was recorded before, by a finished statement, it has a record again.
use Rattle.std.specs.{Prelude.{MatchOption}, Option.{option_map_or}}
use Rattle.std.proofs.Common.{◌≡◌, ◌≢◌, ◌≤◌, ◌∙◌, ◌++◌, ◌⊎◌, ◌-◌, inl, inr, ℕ, zero, suc, List, [], ◌∷◌, Option, Some, None, Bool, true, false, cond, codes, refl, ap, sym, subst, arith, get_or, slice_index_or, slice_set, Contains}
use Rattle.std.proofs.lemmas.List.Elements.{Contains-append_left, Contains-push, Contains-push_cases}
use Rattle.rm_base.specs.{Store.{Held}, declared.{block.Change.{Change}, refusal.Refusal.{Refusal}}}
use Rattle.rm_catalog.specs.declared.record.{LogEntry.{LogEntry}, PieceEntry.{PieceEntry}, SetEntry.{SetEntry}}
use Rattle.rm_history.specs.{Tree.{IsThere, end_of, parent_of, reset_of, with_end}, declared.tree.Incarnation.{Incarnation}}
use Rattle.rm_history.proofs.Owners.{end-there, parent-there, reset-there}
use Rattle.rm_catalog_typed.{specs.{TypedCatalog.{TypedCatalog}, Worlds.{database_of}}, proofs.Ones.{contains-with}}
use Rattle.rm_lang_statement.specs.declared.command.Command.{Command, TheVariants.{CatalogName}}
use Rattle.rm_piece.{specs.SetSpelling.{set_head}, proofs.{Fitting.{spelling_same as piece_same}, SetFitting.{spelling_same as set_same}}}
use Rattle.rm_piece.specs.Spelling as piece_format
use Rattle.rm_redo.proofs.LogFitting.{spelling_same as log_same}
use Rattle.rm_redo.specs.LogFormat as log_format
use Rattle.rm_report.specs.declared.line.Line.{Line}
use Rattle.rm_evidence.specs.Objects.{piece_entry}
use Rattle.rm_machine.specs.CatalogName.{Found, IsCatalogOutcome, IsFound, artefact_of, catalog_by, catalog_refusal, catalogued, catalogues, cataloguing, found_log, found_piece, inc_of, name_of, raised, top_of}
use Rattle.rm_machine.specs.{Effect.{Artefact, Effect, Made, a_log, a_piece, a_set, done, refused}, Honest.{IsHonest, IsRecorded}}
use Rattle.rm_machine.specs.Laws.{LeadsOn}
use Rattle.rm_machine.specs.Machine.{DigestsTell, EndsWithin, HasLogArtefact, HasPieceArtefact, IsBorneOut, IsTrueArtefact, IsValidArtefact, Machine}
use Rattle.rm_machine.specs.{Nature.{nature_of}, Saved.{spelling_of}, Sound.{IsSound}, SwitchLogfile.{log_entry}, Upkeep.{with_catalog}}
use Rattle.rm_machine.specs.{State.{ledger, tree, world}, declared.{nature.Nature.TheVariants.{Records}, state.State.{State}}}
use Rattle.rm_machine.proofs.Cataloguing.{accepted, found-fits, next-catalogued, saved-catalogued, sound-catalogued}
use Rattle.rm_machine.proofs.{Kept.{kept-on, stand-same, stays-so}, Later.{fits-with, resting}}
use Rattle.rm_machine_laws.{specs.Loose.{StaysLoose}, proofs.{Leading.{LeadsOnAsking, StaysBy, leads-asking}, Loosening.{nothing-named}}}
use Rattle.rm_machine_laws.proofs.{LooseQuiet.{loose-done}, Quiet.{same-stays, unchanged}, Roomy.{KeepsIds, LeavesIds, enough, leaves}}

-- What was done

-- this stands under the name, was not refused, and is recorded
record IsCatalogued (s : State) (held : Held) (name : List ℕ) (e : Effect) (t : State) : Type 0 where
  found : Found
  is : IsFound s held name found
  accepted_is : catalog_refusal s name found ≡ None
  effect : cataloguing found ≡ e
  state : with_catalog s (catalogued s found) ≡ t

module _ (s : State) (held : Held) (name : List ℕ) (lines : List Line) (e : Effect) (t : State) where
  never-refused : (b : Bool) (r q : Refusal) → ¬ (done lines e t ≡ cond b (refused r) (refused q))
  never-refused true r q is = cc
  never-refused false r q is = cc

  by-refusal : (x : Found) (o : Option Refusal) → IsFound s held name x → catalog_refusal s name x ≡ o
      → done lines e t ≡ option_map_or refused o (catalogues s x) → IsCatalogued s held name e t
  by-refusal x (Some r) found none is = absurd (cc)
  by-refusal x None found none is = record { found = x; is = found; accepted_is = none; effect = cc; state = cc }

  by-found : (id : ℕ) (o : Option Found) → MatchOption o ((x : Found) → ¬ IsFound s held name x) (IsFound s held name)
      → done lines e t ≡ catalog_by s name id o → IsCatalogued s held name e t
  by-found id None none is = absurd (never-refused _ _ _ is)
  by-found id (Some x) found is = by-refusal x (catalog_refusal s name x) found refl is

  catalogued-by : IsCatalogOutcome s held name (done lines e t) → IsCatalogued s held name e t
  catalogued-by does = by-found does.id does.found does.finds does.is

-- It is the artefact that was recorded

-- the third byte tells a log, a piece and a set
abbrev third : Artefact → ℕ
third (a_log a) = 76
third (a_piece a) = 80
third (a_set a) = 83

third-is : (a : Artefact) → get_or (spelling_of a) 2 0 ≡ third a
unfolding log_format.head_bytes piece_format.head_bytes set_head
third-is (a_log a) = refl
third-is (a_piece a) = refl
third-is (a_set a) = refl

same-kind : (a b : Artefact) → spelling_of a ≡ spelling_of b → third a ≡ third b
same-kind a b same = sym (third-is a) ∙ ap (λ (bytes : List ℕ). get_or bytes 2 0) same ∙ third-is b

same-artefact : (a b : Artefact) → IsValidArtefact a → IsValidArtefact b → spelling_of a ≡ spelling_of b → a ≡ b
same-artefact (a_log a) (a_log b) is other same = ap a_log (log_same a b is other same)
same-artefact (a_piece a) (a_piece b) is other same = ap a_piece (piece_same a b is other same)
same-artefact (a_set a) (a_set b) is other same = ap a_set (set_same a b is other same)
same-artefact (a_log a) (a_piece b) is other same = let kind = same-kind (a_log a) (a_piece b) same in absurd (omega (arith, kind))
same-artefact (a_log a) (a_set b) is other same = let kind = same-kind (a_log a) (a_set b) same in absurd (omega (arith, kind))
same-artefact (a_piece a) (a_log b) is other same = let kind = same-kind (a_piece a) (a_log b) same in absurd (omega (arith, kind))
same-artefact (a_piece a) (a_set b) is other same = let kind = same-kind (a_piece a) (a_set b) same in absurd (omega (arith, kind))
same-artefact (a_set a) (a_log b) is other same = let kind = same-kind (a_set a) (a_log b) same in absurd (omega (arith, kind))
same-artefact (a_set a) (a_piece b) is other same = let kind = same-kind (a_set a) (a_piece b) same in absurd (omega (arith, kind))

-- no site is saved, and what was recorded before stands under the name
abbrev WasRecorded : List ℕ → State → Held → List Made → Type 0
WasRecorded name s objects made = (s.catalog.saved ≡ None) × ((bytes : List ℕ) → objects name ≡ Some bytes → IsRecorded made bytes)

true-again : (s : State) (h : List Change) (made : List Made) (a : Artefact)
    → ((x : Made) → Contains made x → IsTrueArtefact (world s) h x.artefact) → IsValidArtefact a → IsRecorded made (spelling_of a) → IsTrueArtefact (world s) h a
true-again s h made a all valid was =
    let one = all was.one was.is in
    subst (IsTrueArtefact (world s) h) (same-artefact was.one.artefact a one.valid valid (sym was.spelled)) one

-- No end rises

set-own : (tree : List Incarnation) (k : ℕ) (d : Incarnation) → slice_set tree k (slice_index_or tree k d) ≡ tree
set-own [] k d = refl
set-own (x ∷ xs) zero d = refl
set-own (x ∷ xs) (suc k) d = ap (λ ys. x ∷ ys) (set-own xs k d)

-- its own end leaves the tree as it is
end-own : (tree : List Incarnation) (i end : ℕ) → IsThere tree i → end ≡ end_of tree i → with_end tree i end ≡ tree
end-own tree i end there is =
    let none : Incarnation = record { parent = 0; reset = 0; end = 0 } in
    let to = is ∙ end-there tree i none there in
    let same : record { parent = parent_of tree i; reset = reset_of tree i; end = end } ≡ slice_index_or tree (i - 1) none =
    λ k. record { parent = parent-there tree i none there k; reset = reset-there tree i none there k; end = to k } in
    ap (slice_set tree (i - 1)) same ∙ set-own tree (i - 1) none

-- it tells of SCNs up to the end of its incarnation
within : (ns : List Incarnation) (x : Found) → EndsWithin ns (artefact_of x) → IsThere ns (inc_of x) × (top_of x ≤ end_of ns (inc_of x))
within ns (found_log id a) is = is
within ns (found_piece copy id a) is = (is.0, is.2)

-- so the catalog after it has the incarnations that were there
abbrev with_tree : TypedCatalog → List Incarnation → TypedCatalog
with_tree r ns = record r { ledger = record r.ledger { tree = ns } }

settled : (s : State) (x : Found) → (raised s x).ledger.tree ≡ tree s → catalogued s x ≡ resting s (catalogued s x)
settled s (found_log id a) same = ap (with_tree (catalogued s (found_log id a))) same
settled s (found_piece copy id a) same = ap (with_tree (catalogued s (found_piece copy id a))) same

-- What stands after it

-- no set is catalogued
sets-of : (s : State) (x : Found) (e : SetEntry) → Contains (catalogued s x).ledger.sets e → Contains (ledger s).sets e
sets-of s (found_log id a) e has = has
sets-of s (found_piece copy id a) e has = has

-- its record has its artefact, and each other one was there
module _ (s : State) (after : Held) (made : List Made) (touched : List (List ℕ)) where
  logs-of : (x : Found) → Contains made (record { name = name_of x; artefact = artefact_of x }) → after (name_of x) ≡ Some (spelling_of (artefact_of x))
      → (e : LogEntry) → Contains (catalogued s x).ledger.logs e → Contains (ledger s).logs e ⊎ HasLogArtefact after made touched e
  logs-of (found_piece copy id a) is stands = λ e has. inl has
  logs-of (found_log id a) is stands =
      contains-with (λ (e : LogEntry). e.id) (λ e. Contains (ledger s).logs e ⊎ HasLogArtefact after made touched e) (log_entry id a) (ledger s).logs (λ e was. inl was)
      (inr (record {
        artefact = a;
        is = is;
        fields = record { inc = refl; thread = refl; sequence = refl; first = refl; next = refl };
        digest = record { size = refl; sha = refl };
        there = inr stands;
      }))

  pieces-of : (x : Found) → Contains made (record { name = name_of x; artefact = artefact_of x }) → after (name_of x) ≡ Some (spelling_of (artefact_of x))
      → (e : PieceEntry) → Contains (catalogued s x).ledger.pieces e → Contains (ledger s).pieces e ⊎ HasPieceArtefact after made touched e
  pieces-of (found_log id a) is stands = λ e has. inl has
  pieces-of (found_piece copy id a) is stands =
      let new = piece_entry copy false (codes "CATALOGUED") (ledger s).base.moment id a in
      contains-with (λ (e : PieceEntry). e.id) (λ e. Contains (ledger s).pieces e ⊎ HasPieceArtefact after made touched e) new (ledger s).pieces (λ e was. inl was)
      (inr (record {
        artefact = a;
        is = is;
        fields = record { kind = refl; inc = refl; file = refl; from = refl; checkpoint = refl; high = refl; rows = refl };
        digest = record { size = refl; sha = refl };
        there = inr stands;
      }))

-- a sound catalog that rests on the same facts, with one artefact more
module _ (s : State) (x : Found) (h : List Change) (objects after : Held) (made : List Made) (touched : List (List ℕ)) where
  abbrev new : Made
  new = record { name = name_of x; artefact = artefact_of x }

  abbrev q : TypedCatalog
  q = catalogued s x

  borne-catalogued : IsSound (with_catalog s q) → IsTrueArtefact (world s) h (artefact_of x)
      → ((n : List ℕ) → after n ≡ objects n) → objects (name_of x) ≡ Some (spelling_of (artefact_of x))
      → IsBorneOut s h objects made touched → IsBorneOut (with_catalog s q) h after (made ++ new ∷ []) touched
  borne-catalogued sound is same stands borne =
      let there = within (tree s) x is.within in
      let as_was : q ≡ resting s q = settled s x (end-own (tree s) (inc_of x) _ there.0 (omega (arith, there.1))) in
      let rests : IsSound (with_catalog s (resting s q)) = subst (λ r. IsSound (with_catalog s r)) as_was sound in
      let here = same (name_of x) ∙ stands in
      subst (λ r. IsBorneOut (with_catalog s r) h after (made ++ new ∷ []) touched) (sym as_was) (record {
        state = rests;
        keeps = fits-with s q rests.catalog h borne.keeps;
        artefacts = λ y has. elim (Contains-push_cases made new y has) [
          | inl old ↦ borne.artefacts y old
          | inr one ↦ subst (λ (z : Made). IsTrueArtefact (world s) h z.artefact) one is
        ];
        records = kept-on objects after made (made ++ new ∷ []) touched touched (ledger s) (resting s q).ledger (stays-so (database_of (ledger s)))
            (stand-same objects after touched (ledger s) (resting s q).ledger same)
            (λ y has. Contains-append_left made (new ∷ []) y has)
            (logs-of s after (made ++ new ∷ []) touched x (Contains-push made new) here)
            (pieces-of s after (made ++ new ∷ []) touched x (Contains-push made new) here)
            (λ e has. inl (sets-of s x e has)) borne.records;
      })

-- The laws of the statement

sound-after : (s : State) (held : Held) (name : List ℕ) (e : Effect) (t : State) → IsSound s → s.catalog.saved ≡ None
    → (by : IsCatalogued s held name e t) → IsSound (with_catalog s (catalogued s by.found))
sound-after s held name e t sound unsaved by = sound-catalogued s by.found sound (found-fits s held name by.found sound unsaved by.is by.accepted_is)

pub catalog-on : (name : List ℕ) → LeadsOnAsking (CatalogName name) (WasRecorded name)
catalog-on name s h objects made touched lines e t after well borne tells was none does leaves =
    let by = catalogued-by s objects name lines e t does in
    let x = by.found in
    let stands = subst (λ n. objects n ≡ Some (spelling_of (artefact_of x))) by.is.is by.is.stands in
    let again = true-again s h made (artefact_of x) borne.artefacts by.is.valid (was.1 (spelling_of (artefact_of x)) by.is.stands) in
    unchanged (with_catalog s (catalogued s x)) (cataloguing x) h objects made touched e t after refl by.effect by.state leaves (λ left.
    borne-catalogued s x h objects after made touched (sound-after s objects name e t borne.state was.0 by) again
    (λ n. left.removes n ∙ left.puts n) stands borne)

pub catalog-leads : (name : List ℕ) → LeadsOn (CatalogName name)
catalog-leads name =
    leads-asking (CatalogName name) (WasRecorded name)
    (λ m s moment lines e t honest is comes. (refl, λ bytes at. honest.catalogues name bytes s t moment lines e refl is comes at)) (catalog-on name)

pub catalog-stays : (name : List ℕ) → StaysBy (CatalogName name)
catalog-stays name s objects lines e t well sound unsaved none does =
    let by = catalogued-by s objects name lines e t does in
    same-stays (with_catalog s (catalogued s by.found)) t by.state (sound-after s objects name e t sound unsaved by) (saved-catalogued s by.found ∙ unsaved)

pub catalog-loose : (name : List ℕ) → StaysLoose (CatalogName name)
catalog-loose name = loose-done (CatalogName name) (λ s held lines e t sound none does.
    let by = catalogued-by s held name lines e t does in
    nothing-named (Some s) (CatalogName name) e t (sym (ap (λ (y : Effect). y.puts) by.effect)) (sym (ap (λ (y : Effect). y.removes) by.effect)))

pub catalog-roomy : (name : List ℕ) → LeavesIds (CatalogName name)
catalog-roomy name = leaves (CatalogName name) (λ s held lines e t sound none does.
    let by = catalogued-by s held name lines e t does in
    let x = by.found in
    let left = (accepted s name x by.accepted_is).ids in
    let next = next-catalogued s x in
    subst (KeepsIds s) by.state (enough s (with_catalog s (catalogued s x)) (omega (arith, next)) (omega (arith, left, next))))

-- of no other statement more is asked than that digests tell
pub asks-no-more : (m : Machine) (c : Command) → nature_of c ≢ Records → DigestsTell m → IsHonest m c
asks-no-more m c other tell = record { digests = tell; catalogues = λ name bytes s t moment lines e is. absurd (other (ap nature_of is)) }
