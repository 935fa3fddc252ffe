-- What is so of one record, by its kind, and of records by one of them.
use Rattle.std.proofs.Common.{◌≡◌, ◌≢◌, ℕ, List, [], ◌∷◌, Some, Contains, refl, ap, sym, subst, inl, inr}
use Rattle.rm_base.specs.{Store.{Held}, declared.kinds.{Bad.{Bad}, Kind.TheVariants.{Level1}, Status.TheVariants.{Available}}}
use Rattle.rm_base.proofs.{Members.{in-front}, Lists.{only-in}}
use Rattle.rm_catalog.specs.declared.record.{LogEntry.{LogEntry}, PieceEntry.{PieceEntry}, SetEntry.{SetEntry}, Record.{Record}}
use Rattle.rm_catalog.specs.declared.record.Record.TheVariants as kind
use Rattle.rm_evidence.specs.Available.{HasLogObject, HasPieceObject, HasSetObject, IsBad, IsSkippedAmong, a_log, a_piece, a_set}
use Rattle.rm_evidence.specs.{Database.{Database}, Gathered.{IsBaseAmong, IsLevel1Among, IsLogOf, IsPieceAmong}}
use Rattle.rm_evidence.specs.{Names.{log_name, object_id, piece_name, set_name}, Objects.{IsLogObject, IsPieceObject, IsSetObject}}
use Rattle.rm_evidence.proofs.Single.{IsOfOne}
use Rattle.rm_piece.specs.declared.{piece.Piece.{Piece}, set.{Set.{Set}, SetFile.{SetFile}}}
use Rattle.rm_redo.specs.declared.log_file.LogFile.{LogFile}

-- bytes that are the object of a log, of a piece and of a set
abbrev pub LogBytes : LogEntry → List ℕ → Type 0
LogBytes l bytes = (a : LogFile) × IsLogObject l bytes a

abbrev pub PieceBytes : PieceEntry → List ℕ → Type 0
PieceBytes p bytes = (a : Piece) × IsPieceObject p bytes a

abbrev pub SetBytes : Database → SetEntry → List ℕ → Type 0
SetBytes base e bytes = (s : Set) × IsSetObject base e bytes s

-- the record counts as available
abbrev pub Counts : Record → Type 0
Counts (kind.Log l) = l.status ≡ Available
Counts (kind.Piece p) = p.status ≡ Available
Counts (kind.Set e) = e.status ≡ Available
Counts _ = ⊥

-- this is its id, and this log is at hand
abbrev pub IsLogRecord : Held → Record → ℕ → LogFile → Type 0
IsLogRecord held (kind.Log l) id a = (l.id ≡ id) × HasLogObject held l a
IsLogRecord held _ id a = ⊥

-- this is its id, and this piece is at hand
abbrev pub IsPieceRecord : Held → Database → Record → ℕ → Piece → Type 0
IsPieceRecord held base (kind.Piece p) id a = (p.id ≡ id) × HasPieceObject held p a
IsPieceRecord held base (kind.Set e) id a = (e.id ≡ id) × ((s : Set) × HasSetObject held base e s × ((m : SetFile) × Contains s.members m × (m.piece ≡ a)))
IsPieceRecord held base _ id a = ⊥

-- this is its id, and it counts as available, but its object can't be used
abbrev pub IsBadRecord : Held → Database → Record → ℕ → Bad → Type 0
IsBadRecord held base (kind.Log l) id bad = (l.id ≡ id) × (l.status ≡ Available) × IsBad (LogBytes l) (held (log_name l.id)) bad
IsBadRecord held base (kind.Piece p) id bad = (p.id ≡ id) × (p.status ≡ Available) × IsBad (PieceBytes p) (held (piece_name p.copy p.id)) bad
IsBadRecord held base (kind.Set e) id bad = (e.id ≡ id) × (e.status ≡ Available) × IsBad (SetBytes base e) (held (set_name e.id)) bad
IsBadRecord held base _ id bad = ⊥

-- a record of which something is told has its id
abbrev pub TellsId : {A : Type 0} → (Record → ℕ → A → Type 0) → Type 0
TellsId {A} Is = (r : Record) (id : ℕ) (a : A) → Is r id a → object_id r ≡ Some id

-- what is so of records is so of one, by what is so of each
abbrev pub IsByOne : (A : Type 0) → (List Record → ℕ → A → Type 0) → (Record → ℕ → A → Type 0) → Type 0
IsByOne A P Is = (rs : List Record) (id : ℕ) (a : A) → P rs id a → (r : Record) × Contains rs r × Is r id a

abbrev pub IsToAll : (A : Type 0) → (List Record → ℕ → A → Type 0) → (Record → ℕ → A → Type 0) → Type 0
IsToAll A P Is = (rs : List Record) (r : Record) (id : ℕ) (a : A) → Contains rs r → Is r id a → P rs id a

module _ (A : Type 0) (P : List Record → ℕ → A → Type 0) (Is : Record → ℕ → A → Type 0) (by : IsByOne A P Is) (to : IsToAll A P Is) where
  -- of the one record
  pub only : (r : Record) (id : ℕ) (a : A) → P (r ∷ []) id a → Is r id a
  only r id a is = let o = by (r ∷ []) id a is in subst (λ (s : Record). Is s id a) (sym (only-in r o.0 o.1)) o.2

  pub made : (r : Record) (id : ℕ) (a : A) → Is r id a → P (r ∷ []) id a
  made r id a is = to (r ∷ []) r id a (in-front r []) is

  pub of-one : TellsId Is → IsOfOne A P
  of-one tells = record {
    one = λ rs id a is. let o = by rs id a is in (o.0, o.1, made o.0 id a o.2);
    all = λ rs r id a has is. to rs r id a has (only r id a is);
    number = λ r id a is. tells r id a (only r id a is);
  }

module _ (held : Held) (base : Database) where
  -- logs
  pub log-by : IsByOne LogFile (λ rs. IsLogOf held rs) (IsLogRecord held)
  log-by rs id a is = (kind.Log is.0, is.1, (is.2, is.3))

  pub log-to : IsToAll LogFile (λ rs. IsLogOf held rs) (IsLogRecord held)
  log-to rs (kind.Log l) id a has is = (l, has, is.0, is.1)
  log-to rs _ id a has is = absurd is

  log-id : TellsId (IsLogRecord held)
  log-id (kind.Log l) id a is = ap (λ (n : ℕ). Some n) is.0
  log-id _ id a is = absurd is

  pub logs-single : IsOfOne LogFile (λ rs. IsLogOf held rs)
  logs-single = of-one LogFile (λ rs. IsLogOf held rs) (IsLogRecord held) log-by log-to log-id

  -- pieces, of either kind
  pub piece-by : IsByOne Piece (λ rs. IsPieceAmong held base rs) (IsPieceRecord held base)
  piece-by rs id a (inl own) = (kind.Piece own.0, own.1, (own.2, own.3))
  piece-by rs id a (inr of) = (kind.Set of.0, of.1, (of.2, (of.3, of.4, (of.5, of.6, of.7))))

  pub piece-to : IsToAll Piece (λ rs. IsPieceAmong held base rs) (IsPieceRecord held base)
  piece-to rs (kind.Piece p) id a has is = inl (p, has, is.0, is.1)
  piece-to rs (kind.Set e) id a has is = inr (e, has, is.0, is.1.0, is.1.1, is.1.2.0, is.1.2.1, is.1.2.2)
  piece-to rs _ id a has is = absurd is

  piece-id : TellsId (IsPieceRecord held base)
  piece-id (kind.Piece p) id a is = ap (λ (n : ℕ). Some n) is.0
  piece-id (kind.Set e) id a is = ap (λ (n : ℕ). Some n) is.0
  piece-id _ id a is = absurd is

  pub base-by : IsByOne Piece (λ rs. IsBaseAmong held base rs) (λ r id a. IsPieceRecord held base r id a × (a.kind ≢ Level1))
  base-by rs id a is = let o = piece-by rs id a is.0 in (o.0, o.1, (o.2, is.1))

  pub base-to : IsToAll Piece (λ rs. IsBaseAmong held base rs) (λ r id a. IsPieceRecord held base r id a × (a.kind ≢ Level1))
  base-to rs r id a has is = (piece-to rs r id a has is.0, is.1)

  pub bases-single : IsOfOne Piece (λ rs. IsBaseAmong held base rs)
  bases-single = of-one Piece (λ rs. IsBaseAmong held base rs) (λ r id a. IsPieceRecord held base r id a × (a.kind ≢ Level1)) base-by base-to (λ r id a is. piece-id r id a is.0)

  pub level1-by : IsByOne Piece (λ rs. IsLevel1Among held base rs) (λ r id a. IsPieceRecord held base r id a × (a.kind ≡ Level1))
  level1-by rs id a is = let o = piece-by rs id a is.0 in (o.0, o.1, (o.2, is.1))

  pub level1-to : IsToAll Piece (λ rs. IsLevel1Among held base rs) (λ r id a. IsPieceRecord held base r id a × (a.kind ≡ Level1))
  level1-to rs r id a has is = (piece-to rs r id a has is.0, is.1)

  pub level1s-single : IsOfOne Piece (λ rs. IsLevel1Among held base rs)
  level1s-single = of-one Piece (λ rs. IsLevel1Among held base rs) (λ r id a. IsPieceRecord held base r id a × (a.kind ≡ Level1)) level1-by level1-to (λ r id a is. piece-id r id a is.0)

  -- records that are skipped
  pub bad-by : IsByOne Bad (λ rs. IsSkippedAmong held base rs) (IsBadRecord held base)
  bad-by rs _ _ (a_log l bad has status is) = (kind.Log l, has, (refl, status, is))
  bad-by rs _ _ (a_piece p bad has status is) = (kind.Piece p, has, (refl, status, is))
  bad-by rs _ _ (a_set e bad has status is) = (kind.Set e, has, (refl, status, is))

  pub bad-to : IsToAll Bad (λ rs. IsSkippedAmong held base rs) (IsBadRecord held base)
  bad-to rs (kind.Log l) id bad has is = subst (λ (n : ℕ). IsSkippedAmong held base rs n bad) is.0 (a_log l bad has is.1 is.2)
  bad-to rs (kind.Piece p) id bad has is = subst (λ (n : ℕ). IsSkippedAmong held base rs n bad) is.0 (a_piece p bad has is.1 is.2)
  bad-to rs (kind.Set e) id bad has is = subst (λ (n : ℕ). IsSkippedAmong held base rs n bad) is.0 (a_set e bad has is.1 is.2)
  bad-to rs _ id bad has is = absurd is

  bad-id : TellsId (IsBadRecord held base)
  bad-id (kind.Log l) id bad is = ap (λ (n : ℕ). Some n) is.0
  bad-id (kind.Piece p) id bad is = ap (λ (n : ℕ). Some n) is.0
  bad-id (kind.Set e) id bad is = ap (λ (n : ℕ). Some n) is.0
  bad-id _ id bad is = absurd is

  pub skipped-single : IsOfOne Bad (λ rs. IsSkippedAmong held base rs)
  skipped-single = of-one Bad (λ rs. IsSkippedAmong held base rs) (IsBadRecord held base) bad-by bad-to bad-id

-- nothing is told of a record that does not count as available
pub log-counts : (held : Held) (r : Record) (id : ℕ) (a : LogFile) → IsLogRecord held r id a → Counts r
log-counts held (kind.Log l) id a is = is.1.status
log-counts held _ id a is = absurd is

pub piece-counts : (held : Held) (base : Database) (r : Record) (id : ℕ) (a : Piece) → IsPieceRecord held base r id a → Counts r
piece-counts held base (kind.Piece p) id a is = is.1.status
piece-counts held base (kind.Set e) id a is = is.1.1.status
piece-counts held base _ id a is = absurd is

pub bad-counts : (held : Held) (base : Database) (r : Record) (id : ℕ) (bad : Bad) → IsBadRecord held base r id bad → Counts r
bad-counts held base (kind.Log l) id bad is = is.1
bad-counts held base (kind.Piece p) id bad is = is.1
bad-counts held base (kind.Set e) id bad is = is.1
bad-counts held base _ id bad is = absurd is

-- no other kind of record does
pub no-other : (r : Record) → ((l : LogEntry) → r ≡ kind.Log l → ⊥) → ((p : PieceEntry) → r ≡ kind.Piece p → ⊥) → ((e : SetEntry) → r ≡ kind.Set e → ⊥) → Counts r → ⊥
no-other (kind.Log l) no_log no_piece no_set counts = no_log l refl
no-other (kind.Piece p) no_log no_piece no_set counts = no_piece p refl
no-other (kind.Set e) no_log no_piece no_set counts = no_set e refl
no-other _ no_log no_piece no_set counts = counts
