-- What is in place of a duplicate when it is opened first: nothing.
use Rattle.std.specs.{Prelude.{replicate}, List.{filter_map}}
use Rattle.std.proofs.Common.{◌≡◌, ◌+◌, ◌&&◌, ◌∙◌, ℕ, zero, suc, Bool, true, false, cond, [], ◌∷◌, Option, Some, None, map, not, ◌++◌, length, refl, ap, subst}
use Rattle.rm_base.specs.Store.{Held}
use Rattle.rm_blocks.specs.File.{File}
use Rattle.rm_catalog_typed.{specs.{TypedCatalog.{Saved, TypedCatalog, records_of}, Switches.{enabled_at}}, proofs.Recorded.{one-catalog}}
use Rattle.rm_dup.specs.Entries.{nothing}
use Rattle.rm_history.specs.Tree.{end_of}
use Rattle.rm_machine.specs.{Damage.{undamaged}, Loading.{IsLoaded, IsLoadedBy, lost_instance}, Recovery.{in_place, online_logs}}
use Rattle.rm_machine.specs.{State.{counted, is_lost, is_online, ledger, online}, declared.state.{Instance.{Instance}, State.{State}}}
use Rattle.rm_machine.proofs.AllLost.{all-lost}
use Rattle.rm_redo.specs.Online.{has_log}

-- where each is lost, none is in place
none-placed : (k n : ℕ) → filter_map (λ (o : Option File). o) (undamaged [] k (replicate n None)) ≡ []
none-placed k zero = refl
none-placed k (suc n) = none-placed (k + 1) n

not-both : (a b : Bool) → b ≡ a → (a && not b) ≡ false
not-both true b is = ap not is
not-both false b is = refl

pub none-online : (s : State) (t n : ℕ) → ((u : ℕ) → is_online s.instance.logs u ≡ false) → online_logs s t n ≡ []
none-online s t zero none = refl
none-online s t (suc n) none = ap (λ (b : Bool). cond b (online s t ∷ []) [] ++ online_logs s (t + 1) n) (none t) ∙ none-online s (t + 1) n none

pub lost-logs : (c : TypedCatalog) (u : ℕ) → is_online (lost_instance c.ledger).logs u ≡ false
lost-logs c u = not-both (has_log (lost_instance c.ledger).logs u) (is_lost (lost_instance c.ledger).logs u) (all-lost c.ledger.base.dbid c.ledger.base.current (enabled_at c.ledger c.ledger.base.current (end_of c.ledger.tree c.ledger.base.current)) u)

pub lost-place : (c : TypedCatalog) → in_place (record { catalog = c; instance = lost_instance c.ledger }) ≡ nothing
lost-place c =
    let s : State = record { catalog = c; instance = lost_instance c.ledger } in
    let files = none-placed 1 (length c.ledger.files) in
    let logs = none-online s 1 4 (lost-logs c) in
    λ i. record { files = map (counted s) (files i); logs = logs i }

-- without a saved site nothing is loaded
unsaved : (held : Held) (s : State) (saved : Option Saved) → s.catalog.saved ≡ saved → saved ≡ None → IsLoaded held s → s.instance ≡ lost_instance (ledger s)
unsaved held s saved is none loaded = subst (IsLoadedBy held s) (is ∙ none) loaded

-- what is loaded of records without a saved site: their catalog, and all is lost
pub first-loaded : (held : Held) (s : State) (c : TypedCatalog) → records_of s.catalog ≡ records_of c → c.saved ≡ None → IsLoaded held s → (s.catalog ≡ c) × (s.instance ≡ lost_instance (ledger s))
first-loaded held s c same none loaded =
    let catalogs : Some s.catalog ≡ Some c = one-catalog (Some s.catalog) (Some c) same in
    let one : s.catalog ≡ c = cc in
    (one, unsaved held s s.catalog.saved refl (ap (λ (k : TypedCatalog). k.saved) one ∙ none) loaded)

pub first-place : (held : Held) (s : State) (c : TypedCatalog) → records_of s.catalog ≡ records_of c → c.saved ≡ None → IsLoaded held s → in_place s ≡ nothing
first-place held s c same none loaded =
    ap (λ (i : Instance). in_place (record { catalog = s.catalog; instance = i })) (first-loaded held s c same none loaded).1 ∙ lost-place s.catalog
