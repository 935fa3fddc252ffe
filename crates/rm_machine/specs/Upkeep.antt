-- CHANGE BACKUP, DELETE BACKUP, CROSSCHECK and DELETE EXPIRED: records of logs, pieces and sets, by their ids and classes
use Rattle.std.specs.Prelude.{ℕ, ◌≡◌, ◌==◌, ◌&&◌, is_none, if◌then◌else◌, Bool, true, false, Option, Some, None, List, [], ◌∷◌, ◌++◌, Contains, filter, find, length, map}
use Rattle.std.specs.Option.{option_map_or}
use Rattle.rm_base.specs.{Store.{Held}, declared.{kinds.{Class.{Class}, Status.{Status}}, refusal.Refusal.{Refusal}}}
use Rattle.rm_base.specs.declared.refusal.{Refusal.TheVariants.{Rm11, Rm12}, Limit.TheVariants.{ObjectIds}, Unknown.TheVariants.{Entry}}
use Rattle.rm_base.specs.declared.kinds.Status.TheVariants as status
use Rattle.rm_apply.specs.Files.{AreExactly}
use Rattle.rm_catalog.specs.declared.record.{LogEntry.{LogEntry}, PieceEntry.{PieceEntry}, SetEntry.{SetEntry}, Record.{Record}}
use Rattle.rm_evidence.specs.{Gathered.{Lists}, Names.{log_name, piece_name, set_name}}
use Rattle.rm_report.specs.declared.line.Line.{Line}
use Rattle.rm_report.specs.declared.line.Line.TheVariants as line
use Rattle.rm_catalog_typed.specs.Changes.{with_log, with_piece, with_set, without_log, without_piece, without_set}
use Rattle.rm_catalog_typed.specs.TypedCatalog.{TypedCatalog, records_of}
use Rattle.rm_lang_statement.specs.declared.command.ChangeTo.{ChangeTo, TheVariants.{Available, Keep, NoKeep, Unavailable, Uncatalog}}
use Rattle.rm_verify.specs.{Classes.{is_of, object_in}, Crosscheck.{IsChecked, stands_in}, declared.object.Expected.{Expected}}
use Rattle.rm_machine.specs.{Effect.{Effect, Outcome, done, no_effect}, Marks.{lacks_ids}, declared.state.State.{State}}

-- the database with this catalog
abbrev pub with_catalog : State → TypedCatalog → State
with_catalog s r = record s { catalog = r }

-- the log of this id, the piece and the set
abbrev pub log_at : TypedCatalog → ℕ → Option LogEntry
log_at r n = find (λ e. e.id == n) r.ledger.logs

abbrev pub piece_at : TypedCatalog → ℕ → Option PieceEntry
piece_at r n = find (λ p. p.id == n) r.ledger.pieces

abbrev pub set_at : TypedCatalog → ℕ → Option SetEntry
set_at r n = find (λ e. e.id == n) r.ledger.sets

-- no log, no piece and no set has this id
abbrev pub is_unknown : TypedCatalog → ℕ → Bool
is_unknown r n = is_none (log_at r n) && is_none (piece_at r n) && is_none (set_at r n)

-- why a statement on the record of this id is refused: too few ids are left, or there is none
abbrev pub record_refusal : State → ℕ → Option Refusal
record_refusal s n = if lacks_ids s 0 then Some (Rm11 ObjectIds) else if is_unknown s.catalog n then Some (Rm12 (Entry n)) else None

-- the catalog where the log of this id, the piece or the set is changed so
abbrev pub log_changed : (LogEntry → LogEntry) → ℕ → TypedCatalog → TypedCatalog
log_changed f n r = option_map_or (λ e. with_log r (f e)) (log_at r n) r

abbrev pub piece_changed : (PieceEntry → PieceEntry) → ℕ → TypedCatalog → TypedCatalog
piece_changed f n r = option_map_or (λ p. with_piece r (f p)) (piece_at r n) r

abbrev pub set_changed : (SetEntry → SetEntry) → ℕ → TypedCatalog → TypedCatalog
set_changed f n r = option_map_or (λ e. with_set r (f e)) (set_at r n) r

-- where the record of this id has this status; a set has one status for all of its parts
abbrev pub with_status : Status → ℕ → TypedCatalog → TypedCatalog
with_status st n r = set_changed (λ e. record e { status = st }) n (piece_changed (λ p. record p { status = st }) n (log_changed (λ e. record e { status = st }) n r))

-- where it is kept forever, or not
abbrev pub with_keep : Bool → ℕ → TypedCatalog → TypedCatalog
with_keep keep n r = set_changed (λ e. record e { keep = keep }) n (piece_changed (λ p. record p { keep = keep }) n (log_changed (λ e. record e { keep = keep }) n r))

-- without the record of this id
abbrev pub without_record : ℕ → TypedCatalog → TypedCatalog
without_record n r = without_set (without_piece (without_log r n) n) n

-- the catalog after CHANGE BACKUP
abbrev pub changed_to : ChangeTo → ℕ → TypedCatalog → TypedCatalog
changed_to Available n r = with_status status.Available n r
changed_to Unavailable n r = with_status status.Unavailable n r
changed_to Uncatalog n r = without_record n r
changed_to Keep n r = with_keep true n r
changed_to NoKeep n r = with_keep false n r

-- and its line
abbrev pub change_line : ChangeTo → ℕ → Line
change_line Available n = line.StatusOf n status.Available
change_line Unavailable n = line.StatusOf n status.Unavailable
change_line Uncatalog n = line.Uncatalogued n
change_line Keep n = line.Kept n
change_line NoKeep n = line.NotKept n

-- CHANGE BACKUP leaves the object alone
abbrev pub IsChangeOutcome : State → ℕ → ChangeTo → Outcome → Type 0
IsChangeOutcome s n to o = o ≡ done (change_line to n ∷ []) no_effect (with_catalog s (changed_to to n s.catalog))

-- the name of the object of the record of this id
abbrev pub names_at : ℕ → TypedCatalog → List (List ℕ)
names_at n r =
    map (λ e. log_name e.id) (filter (λ e. e.id == n) r.ledger.logs) ++ map (λ p. piece_name p.copy p.id) (filter (λ p. p.id == n) r.ledger.pieces)
    ++ map (λ e. set_name e.id) (filter (λ e. e.id == n) r.ledger.sets)

-- an effect by which these names go
abbrev pub removing : List (List ℕ) → Effect
removing names = record no_effect { removes = names }

-- DELETE BACKUP takes the record away, and its object
abbrev pub IsDeleteOutcome : State → ℕ → Outcome → Type 0
IsDeleteOutcome s n o = o ≡ done (line.Deleted n ∷ line.DeletedCount 1 ∷ []) (removing (names_at n s.catalog)) (with_catalog s (without_record n s.catalog))

-- with these statuses, one after another
abbrev pub with_statuses : List (ℕ × Status) → TypedCatalog → TypedCatalog
with_statuses [] r = r
with_statuses (x ∷ xs) r = with_statuses xs (with_status x.1 x.0 r)

-- CROSSCHECK gives each record of the class the status that a crosscheck finds
pub record IsCrosscheckOutcome (s : State) (held : Held) (class : Class) (o : Outcome) : Type 0 where
  pub checked : List (ℕ × Status)
  pub lists : Lists Status [] (IsChecked (stands_in held) (records_of s.catalog) class) checked
  pub is : o ≡ done (map (λ x. line.StatusOf x.0 x.1) checked) no_effect (with_catalog s (with_statuses checked s.catalog))

-- a record of the class that is expired has this id
pub record IsExpired (rs : List Record) (class : Class) (n : ℕ) : Type 0 where
  pub row : Record
  pub there : Contains rs row
  pub of : is_of class row ≡ true
  pub object : Expected
  pub is : object_in row ≡ Some object
  pub status : object.status ≡ status.Expired
  pub id : object.id ≡ n

-- without these records, one after another
abbrev pub without_all : List ℕ → TypedCatalog → TypedCatalog
without_all [] r = r
without_all (n ∷ ns) r = without_all ns (without_record n r)

-- DELETE EXPIRED takes exactly the expired records of the class away, and leaves objects alone
pub record IsDeleteExpiredOutcome (s : State) (class : Class) (o : Outcome) : Type 0 where
  pub ids : List ℕ
  pub exact : AreExactly (IsExpired (records_of s.catalog) class) ids
  pub is : o ≡ done (map line.Deleted ids ++ line.DeletedCount (length ids) ∷ []) no_effect (with_catalog s (without_all ids s.catalog))
