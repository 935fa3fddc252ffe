-- What is at hand rests on objects of records alone, and on no part of a saved site.
use Rattle.std.proofs.Common.{◌≡◌, ◌∙◌, inl, inr, ℕ, Bool, List, Option, sym, subst}
use Rattle.rm_base.specs.{Store.{Held}, declared.kinds.{Bad.{Bad}, Policy.{Policy, TheVariants.{Window}}}}
use Rattle.rm_catalog.specs.declared.record.{LogEntry.{LogEntry}, PieceEntry.{PieceEntry}, Record.{Record}, SetEntry.{SetEntry}}
use Rattle.rm_evidence.specs.Available.{HasLogObject, HasPieceObject, HasSetObject, IsBad, IsSkipped, a_log, a_piece, a_set}
use Rattle.rm_evidence.specs.Database.{Database, database_in}
use Rattle.rm_evidence.specs.Gathered.{ById, ByIdAndFile, IsBaseOf, IsLevel1Of, IsLogOf, IsPieceAmong, ListsBy}
use Rattle.rm_evidence.specs.{Names.{log_name, piece_name, set_name}, Objects.{IsLogObject, IsPieceObject, IsSetObject}}
use Rattle.rm_evidence.{specs.declared.evidence.Evidence.{Evidence}, proofs.Names.{log-no-site, piece-no-site, set-no-site}}
use Rattle.rm_piece.specs.declared.{piece.Piece.{Piece}, set.Set.{Set}}
use Rattle.rm_redo.specs.declared.log_file.LogFile.{LogFile}
use Rattle.rm_catalog_typed.specs.TypedCatalog.{records_of}
use Rattle.rm_machine.{specs.{Obsolete.{IsSafeBy}, Recovery.{IsAtHand}, declared.state.State.{State}}, proofs.Dropping.{IsNoSite}}

-- two stores hold the same, parts of a saved site left aside
abbrev pub SameBeside : Held → Held → Type 0
SameBeside held now = (name : List ℕ) → IsNoSite name → held name ≡ now name

module _ (held now : Held) (rs : List Record) (same : SameBeside held now) where
  same-log : (id : ℕ) → held (log_name id) ≡ now (log_name id)
  same-log id = same (log_name id) (log-no-site id)

  same-piece : (copy : Bool) (id : ℕ) → held (piece_name copy id) ≡ now (piece_name copy id)
  same-piece copy id = same (piece_name copy id) (piece-no-site copy id)

  same-set : (id : ℕ) → held (set_name id) ≡ now (set_name id)
  same-set id = same (set_name id) (set-no-site id)

  log-beside : (l : LogEntry) (a : LogFile) → HasLogObject held l a → HasLogObject now l a
  log-beside l a has = record { status = has.status; bytes = has.bytes; there = sym (same-log l.id) ∙ has.there; object = has.object }

  piece-beside : (p : PieceEntry) (a : Piece) → HasPieceObject held p a → HasPieceObject now p a
  piece-beside p a has = record { status = has.status; bytes = has.bytes; there = sym (same-piece p.copy p.id) ∙ has.there; object = has.object }

  set-beside : (base : Database) (e : SetEntry) (a : Set) → HasSetObject held base e a → HasSetObject now base e a
  set-beside base e a has = record { status = has.status; bytes = has.bytes; there = sym (same-set e.id) ∙ has.there; object = has.object }

  skipped-beside : (id : ℕ) (bad : Bad) → IsSkipped held rs id bad → IsSkipped now rs id bad
  skipped-beside _ bad (a_log l _ has status is) = a_log l bad has status (subst (λ (o : Option (List ℕ)). IsBad (λ bytes. (a : LogFile) × IsLogObject l bytes a) o bad) (same-log l.id) is)
  skipped-beside _ bad (a_piece p _ has status is) = a_piece p bad has status (subst (λ (o : Option (List ℕ)). IsBad (λ bytes. (a : Piece) × IsPieceObject p bytes a) o bad) (same-piece p.copy p.id) is)
  skipped-beside _ bad (a_set e _ has status is) = a_set e bad has status (subst (λ (o : Option (List ℕ)). IsBad (λ bytes. (a : Set) × IsSetObject (database_in rs) e bytes a) o bad) (same-set e.id) is)

  of-log : (id : ℕ) (a : LogFile) → IsLogOf held rs id a → IsLogOf now rs id a
  of-log id a is = (is.0, is.1, is.2, log-beside is.0 a is.3)

  of-record : (base : Database) (id : ℕ) (a : Piece) → IsPieceAmong held base rs id a → IsPieceAmong now base rs id a
  of-record base id a (inl own) = inl (own.0, own.1, own.2, piece-beside own.0 a own.3)
  of-record base id a (inr of) = inr (of.0, of.1, of.2, of.3, set-beside base of.0 of.3 of.4, of.5, of.6, of.7)

  of-base : (id : ℕ) (a : Piece) → IsBaseOf held rs id a → IsBaseOf now rs id a
  of-base id a is = (of-record (database_in rs) id a is.0, is.1)

  of-level1 : (id : ℕ) (a : Piece) → IsLevel1Of held rs id a → IsLevel1Of now rs id a
  of-level1 id a is = (of-record (database_in rs) id a is.0, is.1)

-- a list of what is so is one of what is so by other words
lists-as : (A : Type 0) (R : ℕ × A → ℕ × A → Type 0) (first : List (ℕ × A)) (Is As : ℕ → A → Type 0) (all : List (ℕ × A)) → ((id : ℕ) (a : A) → Is id a → As id a) → ((id : ℕ) (a : A) → As id a → Is id a) → ListsBy A R first Is all → ListsBy A R first As all
lists-as A R first Is As all to from lists = record {
  rest = lists.rest;
  list = lists.list;
  ascends = lists.ascends;
  exact = λ id a. (λ has. to id a ((lists.exact id a).0 has), λ is. (lists.exact id a).1 (from id a is));
}

-- the same is at hand
pub at-hand-beside : (s : State) (held now : Held) → SameBeside held now → (e : Evidence) → IsAtHand s held e → IsAtHand s now e
at-hand-beside s held now same e at_hand =
    let rs = records_of s.catalog in
    let back : SameBeside now held = λ name other. sym (same name other) in
    record {
      bases = lists-as Piece ByIdAndFile _ (IsBaseOf held rs) (IsBaseOf now rs) e.bases (of-base held now rs same) (of-base now held rs back) at_hand.bases;
      level1s = lists-as Piece ByIdAndFile _ (IsLevel1Of held rs) (IsLevel1Of now rs) e.level1s (of-level1 held now rs same) (of-level1 now held rs back) at_hand.level1s;
      logs = lists-as LogFile ById _ (IsLogOf held rs) (IsLogOf now rs) e.logs (of-log held now rs same) (of-log now held rs back) at_hand.logs;
      skipped = lists-as Bad ById _ (IsSkipped held rs) (IsSkipped now rs) e.skipped (skipped-beside held now rs same) (skipped-beside now held rs back) at_hand.skipped;
    }

-- so what is safe by the one is safe by the other
pub safe-beside : (policy : Policy) (s : State) (held : Held) (t : State) (after last : Held) → SameBeside last after → IsSafeBy policy s held t after → IsSafeBy policy s held t last
safe-beside (Window days) s held t after last same safe = λ old new before later. safe old new before (at-hand-beside t last after same new later)
safe-beside _ s held t after last same safe = tt
