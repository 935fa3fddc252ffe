-- A record that is changed fits its catalog.
use Rattle.std.proofs.Common.{◌≡◌, ◌∙◌, ◌==◌, ℕ, Some, refl, sym, subst, find}
use Rattle.rm_catalog.specs.declared.record.{LogEntry.{LogEntry}, PieceEntry.{PieceEntry}, SetEntry.{SetEntry}}
use Rattle.rm_catalog_typed.specs.{Facts.{IsTypedCatalog}, Fitting.{FitsLog, FitsPiece, FitsSet}, TypedCatalog.{TypedCatalog}}
use Rattle.rm_machine.specs.{Sound.{IsSound}, Upkeep.{log_changed, piece_changed, set_changed, with_catalog}, declared.state.State.{State}}
use Rattle.rm_machine.proofs.Entries.{LogAs, PieceAs, SetAs, log-as-fits, log-on, piece-as-fits, piece-on, set-as-fits, set-on}
use Rattle.rm_base.proofs.Searched.{found-in}
use Rattle.rm_step_upkeep.specs.{Amended.{log_by, piece_by, set_by}, declared.amending.Amendment.{Amendment}}
use Rattle.rm_step_upkeep.specs.declared.amending.Amendment.TheVariants as by

-- only its status and its keep change
pub log-by-as : (a : Amendment) → LogAs (log_by a)
log-by-as (by.Status st) e = (st, e.keep, refl)
log-by-as (by.Keep keep) e = (e.status, keep, refl)

pub piece-by-as : (a : Amendment) → PieceAs (piece_by a)
piece-by-as (by.Status st) p = (st, p.keep, refl)
piece-by-as (by.Keep keep) p = (p.status, keep, refl)

pub set-by-as : (a : Amendment) → SetAs (set_by a)
set-by-as (by.Status st) e = (st, e.keep, refl)
set-by-as (by.Keep keep) e = (e.status, keep, refl)

module _ (r : TypedCatalog) (rules : IsTypedCatalog r) where
  -- the one that is found, changed so
  pub log-fits : (a : Amendment) (n : ℕ) (e x : LogEntry) → find (λ y. y.id == n) r.ledger.logs ≡ Some e → x ≡ log_by a e → FitsLog r x
  log-fits a n e x found is =
      let as_is = log-by-as a e in
      subst (FitsLog r) (sym (is ∙ as_is.2)) (log-as-fits r rules as_is.0 as_is.1 e (found-in (λ (y : LogEntry). y.id == n) r.ledger.logs e found).0)

  pub piece-fits : (a : Amendment) (n : ℕ) (p x : PieceEntry) → find (λ y. y.id == n) r.ledger.pieces ≡ Some p → x ≡ piece_by a p → FitsPiece r x
  piece-fits a n p x found is =
      let as_is = piece-by-as a p in
      subst (FitsPiece r) (sym (is ∙ as_is.2)) (piece-as-fits r rules as_is.0 as_is.1 p (found-in (λ (y : PieceEntry). y.id == n) r.ledger.pieces p found).0)

  pub set-fits : (a : Amendment) (n : ℕ) (e x : SetEntry) → find (λ y. y.id == n) r.ledger.sets ≡ Some e → x ≡ set_by a e → FitsSet r x
  set-fits a n e x found is =
      let as_is = set-by-as a e in
      subst (FitsSet r) (sym (is ∙ as_is.2)) (set-as-fits r rules as_is.0 as_is.1 e (found-in (λ (y : SetEntry). y.id == n) r.ledger.sets e found).0)

-- the log of an id is changed so
pub log-sound : (s t : State) (a : Amendment) (n : ℕ) → IsSound s → t ≡ with_catalog s (log_changed (log_by a) n s.catalog) → IsSound t
log-sound s t a n sound is = subst IsSound (sym is) ((log-on s (log_by a) n (log-by-as a) sound).sound sound)

-- the piece
pub piece-sound : (s t : State) (a : Amendment) (n : ℕ) → IsSound s → t ≡ with_catalog s (piece_changed (piece_by a) n s.catalog) → IsSound t
piece-sound s t a n sound is = subst IsSound (sym is) ((piece-on s (piece_by a) n (piece-by-as a) sound).sound sound)

-- the set
pub set-sound : (s t : State) (a : Amendment) (n : ℕ) → IsSound s → t ≡ with_catalog s (set_changed (set_by a) n s.catalog) → IsSound t
set-sound s t a n sound is = subst IsSound (sym is) ((set-on s (set_by a) n (set-by-as a) sound).sound sound)
