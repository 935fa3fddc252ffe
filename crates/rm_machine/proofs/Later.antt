-- A later moment: the same database, without a saved site.
use Rattle.std.proofs.Common.{◌⊎◌, inl, refl, ℕ, List, Contains}
use Rattle.rm_base.specs.{Store.{Held}, declared.block.Change.{Change}}
use Rattle.rm_catalog.specs.declared.record.{LogEntry.{LogEntry}, PieceEntry.{PieceEntry}, SetEntry.{SetEntry}}
use Rattle.rm_catalog_typed.specs.{Changes.{with_moment}, Facts.{IsTypedCatalog}, TypedCatalog.{TypedCatalog}, Worlds.{database_of}}
use Rattle.rm_catalog_typed.proofs.{Changed.{unsaved_fits}, Fitted.{base_fits, moment_fits}}
use Rattle.rm_machine.specs.{Effect.{Made}, Laws.{IsMomentOf}}
use Rattle.rm_machine.specs.{Machine.{HasLogArtefact, HasPieceArtefact, HasSetArtefact, HistoryFits, IsBorneOut}, Sound.{IsSound}}
use Rattle.rm_machine.specs.{State.{at_moment, ledger}, Upkeep.{with_catalog}, declared.state.State.{State}}
use Rattle.rm_machine.proofs.{Kept.{StandOn, kept-on, names-of, stand-same, stays-so}, Tracked.{tracked-same}, Damaged.{damaged-same}}

-- other records, with the facts on which what runs rests
abbrev pub resting : State → TypedCatalog → TypedCatalog
resting s r = record r {
  ledger = record r.ledger {
    base = record r.ledger.base { dbid = (ledger s).base.dbid; threads = (ledger s).base.threads; current = (ledger s).base.current; tracking = (ledger s).base.tracking };
    tree = (ledger s).tree;
    files = (ledger s).files;
    switches = (ledger s).switches;
  };
}

module _ (s : State) (r : TypedCatalog) (rules : IsTypedCatalog (resting s r)) where
  abbrev pub rested : State
  rested = with_catalog s (resting s r)

  -- with them what runs stays sound
  pub sound-with : IsSound s → IsSound rested
  sound-with is = record {
    catalog = rules;
    dbid = is.dbid;
    place = record { many = is.place.many; each = is.place.each };
    logs = record { dbid = is.logs.dbid; there = is.logs.there; four = is.logs.four; threads = is.logs.threads; gone = is.logs.gone; each = is.logs.each };
    damaged = damaged-same s rested is.damaged;
    tracker = tracked-same s rested is.tracker;
    in_open = λ opened. let was = is.in_open opened in record { inc = was.inc; found = was.found; point = was.point };
    point = λ at here. let was = is.point at here in record { low = was.low; high = was.high; stands = was.stands };
  }

  -- and goes on to fit its history
  pub fits-with : (h : List Change) → HistoryFits s h → HistoryFits rested h
  fits-with h is = record { history = is.history; below = is.below; online = is.online; place = is.place; tracker = is.tracker; in_open = is.in_open; point = is.point }

  -- where each record was there, or has its artefact
  pub borne-with : (h : List Change) (objects after : Held) (made : List Made) (touched touched' : List (List ℕ)) → IsBorneOut s h objects made touched → StandOn objects after touched touched' (ledger s) (ledger rested)
      → ((e : LogEntry) → Contains (ledger rested).logs e → Contains (ledger s).logs e ⊎ HasLogArtefact after made touched' e)
      → ((p : PieceEntry) → Contains (ledger rested).pieces p → Contains (ledger s).pieces p ⊎ HasPieceArtefact after made touched' p)
      → ((e : SetEntry) → Contains (ledger rested).sets e → Contains (ledger s).sets e ⊎ HasSetArtefact after made touched' (database_of (ledger s)) e)
      → IsBorneOut rested h after made touched'
  borne-with h objects after made touched touched' is stand logs pieces sets = record {
    state = sound-with is.state;
    keeps = fits-with h is.keeps;
    artefacts = is.artefacts;
    records = kept-on objects after made made touched touched' (ledger s) (ledger rested) (stays-so (database_of (ledger s))) stand (λ a has. has) logs pieces sets is.records;
  }

  -- and the objects are the same
  pub borne-same : (h : List Change) (objects : Held) (made : List Made) (touched : List (List ℕ)) → IsBorneOut s h objects made touched
      → ((e : LogEntry) → Contains (ledger rested).logs e → Contains (ledger s).logs e ⊎ HasLogArtefact objects made touched e)
      → ((p : PieceEntry) → Contains (ledger rested).pieces p → Contains (ledger s).pieces p ⊎ HasPieceArtefact objects made touched p)
      → ((e : SetEntry) → Contains (ledger rested).sets e → Contains (ledger s).sets e ⊎ HasSetArtefact objects made touched (database_of (ledger s)) e)
      → IsBorneOut rested h objects made touched
  borne-same h objects made touched is = borne-with h objects objects made touched touched is (stand-same objects objects touched (ledger s) (ledger rested) (λ n. refl))

-- what runs stays sound at a later moment
pub sound-later : (s : State) (moment : ℕ) → IsSound s → IsMomentOf s moment → IsSound (at_moment s moment)
sound-later s moment is next = sound-with s (at_moment s moment).catalog
    (unsaved_fits (with_moment s.catalog moment) (base_fits s.catalog (record s.catalog.ledger.base { moment = moment }) is.catalog (moment_fits s.catalog moment is.catalog next.kept next.last))) is

pub borne-later : (s : State) (h : List Change) (objects after : Held) (made : List Made) (touched touched' : List (List ℕ)) (moment : ℕ)
    → IsBorneOut s h objects made touched → IsMomentOf s moment → StandOn objects after touched touched' (ledger s) (ledger s) → IsBorneOut (at_moment s moment) h after made touched'
borne-later s h objects after made touched touched' moment is next stand =
    borne-with s (at_moment s moment).catalog (sound-later s moment is.state next).catalog h objects after made touched touched' is
    (λ name bytes names names' was. stand name bytes names (names-of (ledger s) (ledger (at_moment s moment)) (λ e has. has) (λ e has. has) (λ e has. has) name names') was) (λ e has. inl has) (λ e has. inl has) (λ e has. inl has)

-- other objects under names that the records do not tell of
pub borne-beside : (s : State) (h : List Change) (objects after : Held) (made : List Made) (touched touched' : List (List ℕ))
    → IsBorneOut s h objects made touched → StandOn objects after touched touched' (ledger s) (ledger s) → IsBorneOut s h after made touched'
borne-beside s h objects after made touched touched' is stand = record {
  state = is.state;
  keeps = is.keeps;
  artefacts = is.artefacts;
  records = kept-on objects after made made touched touched' (ledger s) (ledger s) (stays-so (database_of (ledger s))) stand (λ a has. has) (λ e has. inl has) (λ e has. inl has) (λ e has. inl has) is.records;
}
