-- A database whose records of logs, pieces and sets change: what stands goes on to be borne out.
use Rattle.std.specs.{Prelude.{IfSome}, Option.{option_map_or}}
use Rattle.std.proofs.Common.{◌≡◌, ◌<◌, ◌≤◌, ◌==◌, ◌⊎◌, inl, inr, ℕ, List, Option, Some, None, Bool, refl, sym, subst, find, get_or, Contains}
use Rattle.std.proofs.lemmas.List.Elements.{All-contains, All-weaker, Contains-get_or}
use Rattle.rm_base.specs.{Store.{Held}, declared.{block.Change.{Change}, kinds.Kind.{Kind, TheVariants.{Full, Level0, Level1, Place}}}}
use Rattle.rm_base.{specs.declared.kinds.Status.{Status}, proofs.Lists.{find_cases}}
use Rattle.rm_catalog.specs.{Objects.{FitsKind}, declared.record.{LogEntry.{LogEntry}, PieceEntry.{PieceEntry}, SetEntry.{SetEntry}}}
use Rattle.rm_catalog.specs.declared.record.SetPart.{SetPart}
use Rattle.rm_catalog_typed.specs.{LedgerFacts.{IsLogEntry, IsPieceEntry, IsSetEntry, IsSetPart}, Ledger.{Ledger}}
use Rattle.rm_catalog_typed.specs.{Changes.{with_log, with_piece, with_set, without_log, without_piece}, Facts.{IsTypedCatalog, IsSaved}}
use Rattle.rm_catalog_typed.specs.{Fitting.{FitsLog, FitsPiece, FitsSet, LacksId}, TypedCatalog.{TypedCatalog, Saved}, Worlds.{database_of}}
use Rattle.rm_catalog_typed.proofs.Fitted.{log_fits, no_log_fits, no_piece_fits, no_set_fits, piece_fits, set_fits}
use Rattle.rm_catalog_typed.proofs.Ones.{contains-with, contains-without}
use Rattle.rm_machine.specs.{Effect.{Made}, Machine.{HasLogArtefact, HasPieceArtefact, HasSetArtefact, IsBorneOut}, Sound.{IsSound}}
use Rattle.rm_machine.specs.{State.{ledger}, Upkeep.{log_changed, piece_changed, set_changed, with_catalog, without_record}}
use Rattle.rm_machine.{specs.declared.state.State.{State}, proofs.Later.{borne-same, sound-with}}

-- the catalog with other records of logs, pieces and sets
abbrev pub with_entries : TypedCatalog → List LogEntry → List PieceEntry → List SetEntry → TypedCatalog
with_entries r ls ps es = record r { ledger = record r.ledger { logs = ls; pieces = ps; sets = es } }

module _ (s : State) (ls : List LogEntry) (ps : List PieceEntry) (es : List SetEntry) (rules : IsTypedCatalog (with_entries s.catalog ls ps es)) where
  abbrev pub other : State
  other = with_catalog s (with_entries s.catalog ls ps es)

  pub sound-entries : IsSound s → IsSound other
  sound-entries = sound-with s other.catalog rules

  -- where each record was there, or has its artefact
  pub borne-entries : (h : List Change) (objects : Held) (made : List Made) (touched : List (List ℕ)) → IsBorneOut s h objects made touched
      → ((e : LogEntry) → Contains ls e → Contains (ledger s).logs e ⊎ HasLogArtefact objects made touched e)
      → ((p : PieceEntry) → Contains ps p → Contains (ledger s).pieces p ⊎ HasPieceArtefact objects made touched p)
      → ((e : SetEntry) → Contains es e → Contains (ledger s).sets e ⊎ HasSetArtefact objects made touched (database_of (ledger s)) e)
      → IsBorneOut other h objects made touched
  borne-entries = borne-same s other.catalog rules

-- a record that differs in its status and its keep alone
abbrev pub log_as : Status → Bool → LogEntry → LogEntry
log_as st keep e = record e { status = st; keep = keep }

abbrev pub piece_as : Status → Bool → PieceEntry → PieceEntry
piece_as st keep p = record p { status = st; keep = keep }

abbrev pub set_as : Status → Bool → SetEntry → SetEntry
set_as st keep e = record e { status = st; keep = keep }

-- it is of its kind as before
kind-as : (st : Status) (keep : Bool) (k : Kind) (p : PieceEntry) → FitsKind k p → FitsKind k (piece_as st keep p)
kind-as st keep Full p is = is
kind-as st keep Level0 p is = is
kind-as st keep Level1 p is = is
kind-as st keep Place p is = is

-- what is shown of a catalog that follows another in a state
pub record GoesOn (s : State) (r : TypedCatalog) : Type 0 where
  pub sound : IsSound s → IsSound (with_catalog s r)
  pub borne : (h : List Change) (objects : Held) (made : List Made) (touched : List (List ℕ)) → IsBorneOut s h objects made touched → IsBorneOut (with_catalog s r) h objects made touched
  pub saved : s.catalog.saved ≡ None → r.saved ≡ None

-- the same catalog
stays-as : (s : State) → GoesOn s s.catalog
stays-as s = record { sound = λ is. is; borne = λ h objects made touched is. is; saved = λ none. none }

-- no part of a saved site has the id of a log, a piece or a set
log-no-part : (l : Ledger) (o : Option Saved) (e : LogEntry) → IfSome o (IsSaved l) → Contains l.logs e → IfSome o (λ site. LacksId (λ p. p.id) e.id site.parts)
log-no-part l None e is has = tt
log-no-part l (Some site) e is has = λ k d inside same. is.logs e (get_or site.parts k d) has (Contains-get_or site.parts k d inside) (sym same)

piece-no-part : (l : Ledger) (o : Option Saved) (e : PieceEntry) → IfSome o (IsSaved l) → Contains l.pieces e → IfSome o (λ site. LacksId (λ p. p.id) e.id site.parts)
piece-no-part l None e is has = tt
piece-no-part l (Some site) e is has = λ k d inside same. is.pieces e (get_or site.parts k d) has (Contains-get_or site.parts k d inside) (sym same)

set-no-part : (l : Ledger) (o : Option Saved) (e : SetEntry) → IfSome o (IsSaved l) → Contains l.sets e → IfSome o (λ site. LacksId (λ p. p.id) e.id site.parts)
set-no-part l None e is has = tt
set-no-part l (Some site) e is has = λ k d inside same. is.sets e (get_or site.parts k d) has (Contains-get_or site.parts k d inside) (sym same)

-- a record that changes so fits its catalog
module _ (r : TypedCatalog) (rules : IsTypedCatalog r) (st : Status) (keep : Bool) where
  pub log-as-fits : (e : LogEntry) → Contains r.ledger.logs e → FitsLog r (log_as st keep e)
  log-as-fits e has =
      let l = r.ledger in
      let is = rules.ledger in
      let rule = All-contains (IsLogEntry l.tree) l.logs e is.logs has in
      record {
        log = record { there = rule.there; thread = rule.thread; sequence = rule.sequence; range = rule.range; size = rule.size };
        id = record { range = All-contains (λ (x : LogEntry). (1 ≤ x.id) × (x.id < l.base.next_id)) l.logs e is.ids.logs has; parts = log-no-part l r.saved e rules.saved has };
        pieces = λ k d inside same. is.ids.apart e (get_or l.pieces k d) has (Contains-get_or l.pieces k d inside) (sym same);
        sets = λ k d inside same. is.ids.logs_apart e (get_or l.sets k d) has (Contains-get_or l.sets k d inside) (sym same);
        room = inl (e, has, refl);
      }

  pub piece-as-fits : (p : PieceEntry) → Contains r.ledger.pieces p → FitsPiece r (piece_as st keep p)
  piece-as-fits p has =
      let l = r.ledger in
      let is = rules.ledger in
      let rule = All-contains (IsPieceEntry l.tree l.files) l.pieces p is.pieces has in
      record {
        piece = record {
          there = rule.there;
          file = record { number = rule.file.number; datafile = rule.file.datafile; is = rule.file.is; path = rule.file.path; rows = rule.file.rows };
          checkpoint = rule.checkpoint;
          high = rule.high;
          kind = kind-as st keep p.kind p rule.kind;
          tag = rule.tag;
          size = rule.size;
        };
        id = record { range = All-contains (λ (x : PieceEntry). (1 ≤ x.id) × (x.id < l.base.next_id)) l.pieces p is.ids.pieces has; parts = piece-no-part l r.saved p rules.saved has };
        logs = λ k d inside same. is.ids.apart (get_or l.logs k d) p (Contains-get_or l.logs k d inside) has same;
        sets = λ k d inside same. is.ids.pieces_apart p (get_or l.sets k d) has (Contains-get_or l.sets k d inside) (sym same);
        room = inl (p, has, refl);
      }

  -- each part goes by a few fields
  part-as : (e : SetEntry) (p : SetPart) → IsSetPart r.ledger.tree r.ledger.files e p → IsSetPart r.ledger.tree r.ledger.files (set_as st keep e) p
  part-as e p is = record { number = is.number; datafile = is.datafile; is = is.is; path = is.path; creation = is.creation; rows = is.rows; kind = is.kind; high = is.high }

  pub set-as-fits : (e : SetEntry) → Contains r.ledger.sets e → FitsSet r (set_as st keep e)
  set-as-fits e has =
      let l = r.ledger in
      let is = rules.ledger in
      let rule = All-contains (IsSetEntry l.tree l.files) l.sets e is.sets has in
      record {
        set = record {
          there = rule.there;
          checkpoint = rule.checkpoint;
          count = rule.count;
          ascend = rule.ascend;
          parts = All-weaker (IsSetPart l.tree l.files e) (IsSetPart l.tree l.files (set_as st keep e)) (part-as e) e.parts rule.parts;
          tag = rule.tag;
          size = rule.size;
        };
        id = record { range = All-contains (λ (x : SetEntry). (1 ≤ x.id) × (x.id < l.base.next_id)) l.sets e is.ids.sets has; parts = set-no-part l r.saved e rules.saved has };
        logs = λ k d inside same. is.ids.logs_apart (get_or l.logs k d) e (Contains-get_or l.logs k d inside) has same;
        pieces = λ k d inside same. is.ids.pieces_apart (get_or l.pieces k d) e (Contains-get_or l.pieces k d inside) has same;
        room = inl (e, has, refl);
      }

module _ (s : State) (sound : IsSound s) (st : Status) (keep : Bool) where
  -- a log's record
  log-there : (e : LogEntry) → Contains (ledger s).logs e → GoesOn s (with_log s.catalog (log_as st keep e))
  log-there e has =
      let l = ledger s in
      let new : LogEntry = log_as st keep e in
      let rules : IsTypedCatalog (with_log s.catalog new) = log_fits s.catalog new sound.catalog (log-as-fits s.catalog sound.catalog st keep e has) in
      record {
        sound = sound-entries s _ _ _ rules;
        borne = λ h objects made touched borne. borne-entries s _ _ _ rules h objects made touched borne
            (contains-with (λ (x : LogEntry). x.id) (λ x. Contains l.logs x ⊎ HasLogArtefact objects made touched x) new l.logs (λ y was. inl was)
            (inr (let was = borne.records.logs e has in record {
              artefact = was.artefact;
              is = was.is;
              fields = record { inc = was.fields.inc; thread = was.fields.thread; sequence = was.fields.sequence; first = was.fields.first; next = was.fields.next };
              digest = was.digest;
              there = was.there;
            })))
            (λ p was. inl was) (λ x was. inl was);
        saved = λ none. none;
      }

  -- a piece's record
  piece-there : (p : PieceEntry) → Contains (ledger s).pieces p → GoesOn s (with_piece s.catalog (piece_as st keep p))
  piece-there p has =
      let l = ledger s in
      let new : PieceEntry = piece_as st keep p in
      let rules : IsTypedCatalog (with_piece s.catalog new) = piece_fits s.catalog new sound.catalog (piece-as-fits s.catalog sound.catalog st keep p has) in
      record {
        sound = sound-entries s _ _ _ rules;
        borne = λ h objects made touched borne. borne-entries s _ _ _ rules h objects made touched borne (λ e was. inl was)
            (contains-with (λ (x : PieceEntry). x.id) (λ x. Contains l.pieces x ⊎ HasPieceArtefact objects made touched x) new l.pieces (λ y was. inl was)
            (inr (let was = borne.records.pieces p has in record {
              artefact = was.artefact;
              is = was.is;
              fields = record { kind = was.fields.kind; inc = was.fields.inc; file = was.fields.file; from = was.fields.from; checkpoint = was.fields.checkpoint; high = was.fields.high; rows = was.fields.rows };
              digest = was.digest;
              there = was.there;
            })))
            (λ e was. inl was);
        saved = λ none. none;
      }

  -- a set's record
  set-there : (e : SetEntry) → Contains (ledger s).sets e → GoesOn s (with_set s.catalog (set_as st keep e))
  set-there e has =
      let l = ledger s in
      let new : SetEntry = set_as st keep e in
      let rules : IsTypedCatalog (with_set s.catalog new) = set_fits s.catalog new sound.catalog (set-as-fits s.catalog sound.catalog st keep e has) in
      record {
        sound = sound-entries s _ _ _ rules;
        borne = λ h objects made touched borne. borne-entries s _ _ _ rules h objects made touched borne (λ x was. inl was) (λ p was. inl was)
            (contains-with (λ (x : SetEntry). x.id) (λ x. Contains l.sets x ⊎ HasSetArtefact objects made touched (database_of l) x) new l.sets (λ y was. inl was)
            (inr (let was = borne.records.sets e has in record {
              artefact = was.artefact;
              is = was.is;
              fields = record { dbid = was.fields.dbid; inc = was.fields.inc; checkpoint = was.fields.checkpoint; parts = was.fields.parts; files = was.fields.files };
              digest = was.digest;
              there = was.there;
            })));
        saved = λ none. none;
      }

-- a change of status and keep alone
abbrev pub LogAs : (LogEntry → LogEntry) → Type 0
LogAs f = (e : LogEntry) → (st : Status) × (keep : Bool) × (f e ≡ log_as st keep e)

abbrev pub PieceAs : (PieceEntry → PieceEntry) → Type 0
PieceAs f = (p : PieceEntry) → (st : Status) × (keep : Bool) × (f p ≡ piece_as st keep p)

abbrev pub SetAs : (SetEntry → SetEntry) → Type 0
SetAs f = (e : SetEntry) → (st : Status) × (keep : Bool) × (f e ≡ set_as st keep e)

-- of the first item that passes, if there is one
first-on : {X : Type 0} (s : State) (p : X → Bool) (xs : List X) (change : X → TypedCatalog) → ((x : X) → Contains xs x → GoesOn s (change x)) → GoesOn s (option_map_or change (find p xs) s.catalog)
first-on s p xs change each = elim (find_cases p xs) [
  | inl none ↦ subst (λ o. GoesOn s (option_map_or change o s.catalog)) (sym none) (stays-as s)
  | inr found ↦ subst (λ o. GoesOn s (option_map_or change o s.catalog)) (sym found.is) (each found.item found.held)
]

-- of the log of an id, if there is one
pub log-on : (s : State) (f : LogEntry → LogEntry) (n : ℕ) → LogAs f → IsSound s → GoesOn s (log_changed f n s.catalog)
log-on s f n as_is sound =
    first-on s (λ (e : LogEntry). e.id == n) (ledger s).logs (λ e. with_log s.catalog (f e)) (λ e has.
    let to = as_is e in
    subst (λ x. GoesOn s (with_log s.catalog x)) (sym to.2) (log-there s sound to.0 to.1 e has))

-- of the piece of an id
pub piece-on : (s : State) (f : PieceEntry → PieceEntry) (n : ℕ) → PieceAs f → IsSound s → GoesOn s (piece_changed f n s.catalog)
piece-on s f n as_is sound =
    first-on s (λ (p : PieceEntry). p.id == n) (ledger s).pieces (λ p. with_piece s.catalog (f p)) (λ p has.
    let to = as_is p in
    subst (λ x. GoesOn s (with_piece s.catalog x)) (sym to.2) (piece-there s sound to.0 to.1 p has))

-- of the set of an id
pub set-on : (s : State) (f : SetEntry → SetEntry) (n : ℕ) → SetAs f → IsSound s → GoesOn s (set_changed f n s.catalog)
set-on s f n as_is sound =
    first-on s (λ (e : SetEntry). e.id == n) (ledger s).sets (λ e. with_set s.catalog (f e)) (λ e has.
    let to = as_is e in
    subst (λ x. GoesOn s (with_set s.catalog x)) (sym to.2) (set-there s sound to.0 to.1 e has))

-- one after the other
pub then-on : (s : State) (r q : TypedCatalog) → GoesOn s r → GoesOn (with_catalog s r) q → GoesOn s q
then-on s r q one two = record {
  sound = λ is. two.sound (one.sound is);
  borne = λ h objects made touched is. two.borne h objects made touched (one.borne h objects made touched is);
  saved = λ none. two.saved (one.saved none);
}

-- without the record of an id
pub without-on : (s : State) (n : ℕ) → IsSound s → GoesOn s (without_record n s.catalog)
without-on s n sound =
    let l = ledger s in
    let rules : IsTypedCatalog (without_record n s.catalog) = no_set_fits (without_piece (without_log s.catalog n) n) n (no_piece_fits (without_log s.catalog n) n (no_log_fits s.catalog n sound.catalog)) in
    record {
      sound = sound-entries s _ _ _ rules;
      borne = λ h objects made touched borne. borne-entries s _ _ _ rules h objects made touched borne
          (contains-without (λ (x : LogEntry). x.id) (λ x. Contains l.logs x ⊎ HasLogArtefact objects made touched x) n l.logs (λ y was. inl was))
          (contains-without (λ (x : PieceEntry). x.id) (λ x. Contains l.pieces x ⊎ HasPieceArtefact objects made touched x) n l.pieces (λ y was. inl was))
          (contains-without (λ (x : SetEntry). x.id) (λ x. Contains l.sets x ⊎ HasSetArtefact objects made touched (database_of l) x) n l.sets (λ y was. inl was));
      saved = λ none. none;
    }

-- without the piece of an id
pub piece-out : (s : State) (n : ℕ) → IsSound s → GoesOn s (without_piece s.catalog n)
piece-out s n sound =
    let l = ledger s in
    let rules : IsTypedCatalog (without_piece s.catalog n) = no_piece_fits s.catalog n sound.catalog in
    record {
      sound = sound-entries s _ _ _ rules;
      borne = λ h objects made touched borne. borne-entries s _ _ _ rules h objects made touched borne (λ e was. inl was)
          (contains-without (λ (x : PieceEntry). x.id) (λ x. Contains l.pieces x ⊎ HasPieceArtefact objects made touched x) n l.pieces (λ y was. inl was)) (λ e was. inl was);
      saved = λ none. none;
    }
