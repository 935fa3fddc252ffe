-- Exactly the obsolete records go, with their objects: nothing that a target of the window needs is lost, and a second time none is found.
use Rattle.std.{specs.List.{list_any}, proofs.Common.{◌≡◌, ◌∙◌, ◌⊎◌, ◌==◌, inl, inr, ℕ, List, [], ◌∷◌, refl, ap, sym, subst, Contains}}
use Rattle.std.proofs.lemmas.{Bool.{cases_Bool, eq-eqb, eqb-true, false≢true}, Option.{same_Some}}
use Rattle.rm_base.specs.{Store.{Held}, declared.{block.Change.{Change}, kinds.Policy.{Policy, TheVariants.{Nothing, Redundancy, Window}}}}
use Rattle.rm_base.proofs.{Lists.{any_from, any_none}, Members.{in-front}}
use Rattle.rm_catalog.specs.{Keys.{at, key_of, place, place_of}, Rules.{IsCatalog}, declared.record.LogEntry.{LogEntry}}
use Rattle.rm_catalog.{specs.declared.record.{PieceEntry.{PieceEntry}, Record.{Record}, SetEntry.{SetEntry}}, proofs.Numbering.{at-is}}
use Rattle.rm_catalog.specs.declared.record.Record.TheVariants as kind
use Rattle.rm_evidence.specs.{Database.{database_in}, Known.{known_of}, declared.evidence.Evidence.{Evidence}}
use Rattle.rm_evidence.proofs.{Unique.{evidence_one}, Worlds.{is_world}, Current.{current_is}}
use Rattle.rm_history.specs.{History.{IsHistory}, Evidence.{Agrees}, FirstGap.{IsRecoverable, IsTarget}, Known.{Determined}}
use Rattle.rm_history.specs.declared.world.World.{World}
use Rattle.rm_catalog_typed.specs.{Ledger.{Ledger, ledger_records}, Facts.{IsTypedCatalog}, TypedCatalog.{TypedCatalog, records_of}}
use Rattle.rm_catalog_typed.proofs.Lookups.{IsOwn, own-has, record-own}
use Rattle.rm_catalog_typed.proofs.Members.{either-of, ledger-has, log-has, log-in, piece-has, piece-in, set-has, set-in, site-has}
use Rattle.rm_catalog_typed.proofs.{Valid.{typed_catalog-valid}, Records.{base-told, database-told, world-told}}
use Rattle.rm_retain.specs.{Catalogued.{AreObsolete, IsObsoleteRecord}, Chosen.{Retention}, Cleared.{IsCleared}}
use Rattle.rm_retain.{specs.Losing.{FitsHistory, LosesNeedless}, proofs.{Clearing.{gathered_left}, CopiesLeft.{was_obsolete}}}
use Rattle.rm_retain.proofs.{Safe.{safe_recoverable, safe_told}, WholeCopies.{copies_whole}}
use Rattle.rm_machine.specs.{Effect.{Made}, Machine.{DigestsTellFor, IsBorneOut}}
use Rattle.rm_machine.specs.{Obsolete.{AreObsoleteIn, IsSafe, IsSafeBy, KeepsTargets, retention_of}, Recovery.{IsAtHand, in_place}}
use Rattle.rm_machine.specs.{Sound.{IsSound}, State.{ledger}, Upkeep.{with_catalog, without_all, without_record}}
use Rattle.rm_machine.{specs.declared.state.State.{State}, proofs.{Entries.{with_entries}, Upkeep.{all-on}}}
use Rattle.rm_machine.specs.Names as names
use Rattle.rm_machine_laws.proofs.{Agreeing.{evidence-agrees}, Deleting.{left-log, left-piece, left-set, stays-log, stays-piece, stays-set}}

-- an id is one of these, or none
among : (ids : List ℕ) (n : ℕ) → Contains ids n ⊎ (¬ Contains ids n)
among ids n = elim (cases_Bool (list_any (λ k. k == n) ids)) [
  | inl some ↦ let found = any_from (λ k. k == n) ids some in inl (subst (Contains ids) (eqb-true found.0 n found.2) found.1)
  | inr none ↦ inr (λ held. false≢true (sym (any_none (λ k. k == n) ids none n held) ∙ eq-eqb n n refl))
]

-- a catalog has one record at each place
one-record : (rs : List Record) (x y : Record) → IsCatalog rs → Contains rs x → Contains rs y → place_of x ≡ place_of y → x ≡ y
one-record rs x y catalog has_x has_y same = same_Some x y (sym (at-is rs x catalog has_x) ∙ ap (λ n. at n rs) same ∙ at-is rs y catalog has_y)

module _ (l : Ledger) (ls : List LogEntry) (ps : List PieceEntry) (es : List SetEntry) (X : Record → Type 0) (logs : (e : LogEntry) → Contains l.logs e → X (kind.Log e)) (pieces : (p : PieceEntry) → Contains l.pieces p → X (kind.Piece p)) (sets : (e : SetEntry) → Contains l.sets e → X (kind.Set e)) where
  -- the ledger with other records of logs, pieces and sets
  abbrev others : Ledger
  others = record l { logs = ls; pieces = ps; sets = es }

  -- what holds of records of logs, pieces and sets, and of the records that such a ledger has, holds of all
  by-kind : ((x : Record) → Contains (ledger_records others) x → X x) → (x : Record) → IsOwn l x → X x
  by-kind rest (kind.Log e) own = logs e own
  by-kind rest (kind.Piece p) own = pieces p own
  by-kind rest (kind.Set e) own = sets e own
  by-kind rest x own = rest x (own-has others x own)

-- the same of all records of a catalog
by-record : (r : TypedCatalog) (ls : List LogEntry) (ps : List PieceEntry) (es : List SetEntry) (X : Record → Type 0) → ((e : LogEntry) → Contains r.ledger.logs e → X (kind.Log e)) → ((p : PieceEntry) → Contains r.ledger.pieces p → X (kind.Piece p))
    → ((e : SetEntry) → Contains r.ledger.sets e → X (kind.Set e)) → ((x : Record) → Contains (records_of (with_entries r ls ps es)) x → X x) → (x : Record) → Contains (records_of r) x → X x
by-record r ls ps es X logs pieces sets rest x has = elim (either-of r x has) [
  | inl here ↦ by-kind r.ledger ls ps es X logs pieces sets (λ y held. rest y (ledger-has (with_entries r ls ps es) y held)) x (record-own r.ledger x here)
  | inr site ↦ rest x (site-has (with_entries r ls ps es) x site)
]

-- records of logs, pieces and sets go alone
pub entries-left : (ids : List ℕ) (r : TypedCatalog) → without_all ids r ≡ with_entries r (without_all ids r).ledger.logs (without_all ids r).ledger.pieces (without_all ids r).ledger.sets
entries-left [] r = refl
entries-left (n ∷ ns) r = entries-left ns (without_record n r)

none-there : (xs : List ℕ) → ((n : ℕ) → ¬ Contains xs n) → xs ≡ []
none-there [] none = refl
none-there (x ∷ xs) none = absurd (none x (in-front x xs))

module _ (s : State) (ids : List ℕ) (sound : IsSound s) where
  abbrev rs : List Record
  rs = records_of s.catalog

  -- what is left
  abbrev rest : TypedCatalog
  rest = with_entries s.catalog (without_all ids s.catalog).ledger.logs (without_all ids s.catalog).ledger.pieces (without_all ids s.catalog).ledger.sets

  abbrev left : State
  left = with_catalog s rest

  catalog : IsCatalog rs
  catalog = typed_catalog-valid s.catalog sound.catalog

  rules-left : IsTypedCatalog rest
  rules-left = subst IsTypedCatalog (entries-left ids s.catalog) ((all-on ids s sound).sound sound).catalog

  had : (x : Record) → Contains (records_of rest) x → Contains rs x
  had = by-record rest (ledger s).logs (ledger s).pieces (ledger s).sets (Contains rs) (λ e has. log-has s.catalog e (left-log ids s.catalog e has).0) (λ p has. piece-has s.catalog p (left-piece ids s.catalog p has).0)
      (λ e has. set-has s.catalog e (left-set ids s.catalog e has).0) (λ x has. has)

  -- a record that is left has none of the ids, where it can be obsolete
  not-left : (r : Retention) (x : Record) → Contains (records_of rest) x → IsObsoleteRecord r x → ¬ Contains ids (key_of x).id
  not-left r (kind.Log l) has is = (left-log ids s.catalog l (log-in rest l rules-left has)).1
  not-left r (kind.Piece p) has is = (left-piece ids s.catalog p (piece-in rest p rules-left has)).1
  not-left r (kind.Set e) has is = (left-set ids s.catalog e (set-in rest e rules-left has)).1
  not-left r _ has is = absurd is

  -- a record is obsolete where one of its id is
  log-obsolete : (r : Retention) (l : LogEntry) → Contains rs (kind.Log l) → (x : Record) → Contains rs x → IsObsoleteRecord r x → (key_of x).id ≡ l.id → IsObsoleteRecord r (kind.Log l)
  log-obsolete r l has (kind.Log k) held is same = subst (IsObsoleteRecord r) (one-record rs (kind.Log k) (kind.Log l) catalog held has (ap (place 4) same)) is
  log-obsolete r l has (kind.Piece p) held is same = absurd (sound.catalog.ledger.ids.apart l p (log-in s.catalog l sound.catalog has) (piece-in s.catalog p sound.catalog held) (sym same))
  log-obsolete r l has (kind.Set e) held is same = absurd (sound.catalog.ledger.ids.logs_apart l e (log-in s.catalog l sound.catalog has) (set-in s.catalog e sound.catalog held) (sym same))
  log-obsolete r l has _ held is same = absurd is

  piece-obsolete : (r : Retention) (p : PieceEntry) → Contains rs (kind.Piece p) → (x : Record) → Contains rs x → IsObsoleteRecord r x → (key_of x).id ≡ p.id → IsObsoleteRecord r (kind.Piece p)
  piece-obsolete r p has (kind.Log l) held is same = absurd (sound.catalog.ledger.ids.apart l p (log-in s.catalog l sound.catalog held) (piece-in s.catalog p sound.catalog has) same)
  piece-obsolete r p has (kind.Piece q) held is same = subst (IsObsoleteRecord r) (one-record rs (kind.Piece q) (kind.Piece p) catalog held has (ap (place 5) same)) is
  piece-obsolete r p has (kind.Set e) held is same = absurd (sound.catalog.ledger.ids.pieces_apart p e (piece-in s.catalog p sound.catalog has) (set-in s.catalog e sound.catalog held) (sym same))
  piece-obsolete r p has _ held is same = absurd is

  set-obsolete : (r : Retention) (e : SetEntry) → Contains rs (kind.Set e) → (x : Record) → Contains rs x → IsObsoleteRecord r x → (key_of x).id ≡ e.id → IsObsoleteRecord r (kind.Set e)
  set-obsolete r e has (kind.Log l) held is same = absurd (sound.catalog.ledger.ids.logs_apart l e (log-in s.catalog l sound.catalog held) (set-in s.catalog e sound.catalog has) same)
  set-obsolete r e has (kind.Piece p) held is same = absurd (sound.catalog.ledger.ids.pieces_apart p e (piece-in s.catalog p sound.catalog held) (set-in s.catalog e sound.catalog has) same)
  set-obsolete r e has (kind.Set f) held is same = subst (IsObsoleteRecord r) (one-record rs (kind.Set f) (kind.Set e) catalog held has (ap (place 9) same)) is
  set-obsolete r e has _ held is same = absurd is

  -- what stays, and what goes
  stays-or : (r : Retention) → AreObsolete rs r ids → (x : Record) → Contains rs x → Contains (records_of rest) x ⊎ IsObsoleteRecord r x
  stays-or r are = by-record s.catalog rest.ledger.logs rest.ledger.pieces rest.ledger.sets (λ x. Contains (records_of rest) x ⊎ IsObsoleteRecord r x)
      (λ l has. elim (among ids l.id) [
        | inl goes ↦ let found = (are l.id).0 goes in inr (log-obsolete r l (log-has s.catalog l has) found.row found.held found.is found.number)
        | inr other ↦ inl (log-has rest l (stays-log ids s.catalog l has other))
      ])
      (λ p has. elim (among ids p.id) [
        | inl goes ↦ let found = (are p.id).0 goes in inr (piece-obsolete r p (piece-has s.catalog p has) found.row found.held found.is found.number)
        | inr other ↦ inl (piece-has rest p (stays-piece ids s.catalog p has other))
      ])
      (λ e has. elim (among ids e.id) [
        | inl goes ↦ let found = (are e.id).0 goes in inr (set-obsolete r e (set-has s.catalog e has) found.row found.held found.is found.number)
        | inr other ↦ inl (set-has rest e (stays-set ids s.catalog e has other))
      ])
      (λ x has. inl has)

  -- it is the same database
  same-base : database_in (records_of rest) ≡ database_in rs
  same-base = base-told rest ∙ sym (base-told s.catalog)

  module _ (held after : Held) (stays : (name : List ℕ) → names.IsObjectName (without_all ids s.catalog).ledger name → after name ≡ held name) where
    cleared : (r : Retention) → AreObsolete rs r ids → IsCleared r rs (records_of rest) held after
    cleared r are = record {
      had = had;
      stays = stays-or r are;
      logs = λ l has. stays _ (names.of_log l (log-in rest l rules-left has));
      pieces = λ p has. stays _ (names.of_piece p (piece-in rest p rules-left has));
      sets = λ e has. stays _ (names.of_set e (set-in rest e rules-left has));
    }

    -- a second time nothing is obsolete
    pub none-again : AreObsoleteIn s held ids → (more : List ℕ) → AreObsoleteIn left after more → more ≡ []
    none-again first more second = none-there more (λ n has.
        let r = retention_of s first.evidence in
        let found = (second.exact n).0 has in
        let was = was_obsolete held after rs (records_of rest) (in_place s) first.evidence second.evidence r.policy r.start first.at_hand second.at_hand (cleared r first.exact) same-base
        (world-told rest ∙ sym (world-told s.catalog)) refl found.row found.is in
        let goes = (first.exact n).1 (record { row = found.row; held = had found.row found.held; is = was; number = found.number }) in
        not-left r found.row found.held was (subst (Contains ids) (sym found.number) goes))

    module _ (h : List Change) (made : List Made) (touched : List (List ℕ)) (borne : IsBorneOut s h held made touched) (tells : DigestsTellFor held made touched (ledger s)) (obsolete : AreObsoleteIn s held ids) where
      module _ (days : ℕ) (old new : Evidence) (policy : (ledger s).base.policy ≡ Window days) (before : IsAtHand s held old) (later : IsAtHand left after new) where
        abbrev r : Retention
        r = retention_of s old

        are : AreObsolete rs r ids
        are = subst (λ (e : Evidence). AreObsolete rs (retention_of s e) ids) (evidence_one held rs (in_place s) obsolete.evidence old obsolete.at_hand before) obsolete.exact

        fits : FitsHistory h r (known_of old)
        fits =
            let current = current_is rs catalog (database-told s.catalog) in
            let told = sym (world-told s.catalog) in
            record {
              world = is_world rs catalog (database-told s.catalog);
              there = current.there;
              end = current.end;
              history = subst (λ (w : World). IsHistory w h) told borne.keeps.history;
              agrees = subst (λ (w : World). Agrees w h (known_of old)) told (evidence-agrees s h held made touched borne tells old before);
            }

        loses : LosesNeedless r (known_of old) (known_of new)
        loses = gathered_left held after rs (records_of rest) r (cleared r are) same-base (in_place s) old new refl (copies_whole held rs (in_place s) old catalog before) before later

        keeps : KeepsTargets s old new
        keeps = record {
          told = λ i at f b v x window.
              subst (λ (w : World). IsTarget w i at f b → Determined w (known_of old) i at f b v x → Determined w (known_of new) i at f b v x) (world-told s.catalog)
              (safe_told h r (known_of old) (known_of new) days i at policy fits loses window f b v x);
          recoverable = λ i at window.
              subst (λ (w : World). IsRecoverable w (known_of old) i at → IsRecoverable w (known_of new) i at) (world-told s.catalog)
              (safe_recoverable h r (known_of old) (known_of new) days i at policy fits loses window);
        }

      safe-by : (p : Policy) → (ledger s).base.policy ≡ p → IsSafeBy p s held left after
      safe-by (Window days) policy = λ old new before later. keeps days old new policy before later
      safe-by (Redundancy n) policy = tt
      safe-by Nothing policy = tt

      -- each target of the window is kept
      pub is-safe : IsSafe s held (with_catalog s (without_all ids s.catalog)) after
      is-safe = subst (λ (q : TypedCatalog). IsSafe s held (with_catalog s q) after) (sym (entries-left ids s.catalog)) (safe-by (ledger s).base.policy refl)
