-- Where what is at hand comes from: each artefact is in place, or the one of a record.
use Rattle.std.specs.List.{filter_map}
use Rattle.std.proofs.Common.{◌≡◌, ◌≢◌, ◌∙◌, ◌+◌, inl, inr, ℕ, Some, false, ap, subst, arith, map, Contains, slice_get}
use Rattle.std.proofs.lemmas.List.Elements.{Contains-append_cases}
use Rattle.rm_base.{specs.{Store.{Held}, declared.kinds.Kind.TheVariants.{Level1}}, proofs.{Lists.{map_from}, Standing.{present-in}}}
use Rattle.rm_blocks.specs.File.{File}
use Rattle.rm_catalog.specs.declared.record.{LogEntry.{LogEntry}, PieceEntry.{PieceEntry}, SetEntry.{SetEntry}}
use Rattle.rm_evidence.specs.{Available.{HasLogObject, HasPieceObject, HasSetObject}, Database.{Database, database_in}}
use Rattle.rm_evidence.specs.Gathered.{IsBaseOf, IsLevel1Of, IsLogOf, IsPieceAmong, placed, placed_piece}
use Rattle.rm_evidence.{specs.declared.evidence.Evidence.{Evidence}, proofs.Backups.{placed-under}}
use Rattle.rm_piece.specs.declared.{piece.Piece.{Piece}, set.{Set.{Set}, SetFile.{SetFile}}}
use Rattle.rm_redo.specs.{Online.{IsThread}, declared.log_file.LogFile.{LogFile}}
use Rattle.rm_catalog_typed.{specs.{TypedCatalog.{records_of}, Worlds.{database_of}}, proofs.Members.{log-in, piece-in, set-in}}
use Rattle.rm_catalog_typed.proofs.Records.{base-told}
use Rattle.rm_machine.specs.{Damage.{has_file, undamaged}, Recovery.{IsAtHand, in_place, online_logs}, Sound.{IsSound}}
use Rattle.rm_machine.{specs.{State.{ledger, counted, online, is_lost}, declared.state.State.{State}}, proofs.Undamaged.{undamaged-at}}
use Rattle.rm_machine.proofs.{AtHand.{online-in}, Threads.{thread-in}}

-- a log at hand is an online one that is not lost, or the log of a record
pub data LogFrom (s : State) (held : Held) : LogFile → Type 0 where
  from_online : (t : ℕ) → IsThread s.instance.logs t → is_lost s.instance.logs t ≡ false → LogFrom s held (online s t)
  from_log : (e : LogEntry) (a : LogFile) → Contains (ledger s).logs e → HasLogObject held e a → LogFrom s held a

-- a backup at hand is the piece of a record, or one of the set of a record
pub data BackupFrom (s : State) (held : Held) : Piece → Type 0 where
  from_piece : (p : PieceEntry) (a : Piece) → Contains (ledger s).pieces p → HasPieceObject held p a → BackupFrom s held a
  from_set : (e : SetEntry) (a : Set) (m : SetFile) → Contains (ledger s).sets e → HasSetObject held (database_of (ledger s)) e a → Contains a.members m → BackupFrom s held m.piece

-- a copy at hand is a datafile in place of which no block is damaged, or a backup
pub data BaseFrom (s : State) (held : Held) : Piece → Type 0 where
  from_place : (k : ℕ) (x : File) → slice_get s.instance.place k ≡ Some (Some x) → has_file s.instance.damaged (1 + k) ≡ false → BaseFrom s held (placed_piece (ledger s).base.dbid (counted s x))
  from_copy : (a : Piece) → a.kind ≢ Level1 → BackupFrom s held a → BaseFrom s held a

-- a level 1 at hand is a backup
pub record Level1From (s : State) (held : Held) (a : Piece) : Type 0 where
  pub kind : a.kind ≡ Level1
  pub backup : BackupFrom s held a

module _ (s : State) (held : Held) (sound : IsSound s) (e : Evidence) (gathered : IsAtHand s held e) where
  placed-log : (a : LogFile) → Contains (online_logs s 1 4) a → LogFrom s held a
  placed-log a has =
      let found = online-in s 1 4 a has in
      subst (LogFrom s held) found.is (from_online found.thread (thread-in s.instance.logs found.thread (omega (arith, found.low)) found.there) found.found)

  placed-file : (a : Piece) → Contains (map (placed_piece (ledger s).base.dbid) (in_place s).files) a → BaseFrom s held a
  placed-file a has =
      let piece = map_from (placed_piece (ledger s).base.dbid) (in_place s).files a has in
      let place = undamaged s.instance.damaged 1 s.instance.place in
      let file = map_from (counted s) (filter_map (λ o. o) place) piece.item piece.held in
      let at = present-in place file.item file.held in
      let was = undamaged-at s.instance.damaged 1 s.instance.place at.0 file.item at.1 in
      subst (BaseFrom s held) (ap (placed_piece (ledger s).base.dbid) file.is ∙ piece.is) (from_place at.0 file.item was.0 was.1)

  pub log-from : (id : ℕ) (a : LogFile) → Contains e.logs (id, a) → LogFrom s held a
  log-from id a has = elim (Contains-append_cases (placed (in_place s).logs) gathered.logs.rest (id, a) (subst (λ xs. Contains xs (id, a)) gathered.logs.list has)) [
    | inl here ↦ placed-log a (placed-under (in_place s).logs id a here).1
    | inr rest ↦
        let is : IsLogOf held (records_of s.catalog) id a = (gathered.logs.exact id a).0 rest in
        from_log is.0 a (log-in s.catalog is.0 sound.catalog is.1) is.3
  ]

  backup-from : (id : ℕ) (a : Piece) → IsPieceAmong held (database_in (records_of s.catalog)) (records_of s.catalog) id a → BackupFrom s held a
  backup-from id a (inl own) = from_piece own.0 a (piece-in s.catalog own.0 sound.catalog own.1) own.3
  backup-from id a (inr of) = subst (BackupFrom s held) of.7
      (from_set of.0 of.3 of.5 (set-in s.catalog of.0 sound.catalog of.1) (subst (λ (b : Database). HasSetObject held b of.0 of.3) (base-told s.catalog) of.4) of.6)

  pub base-from : (id : ℕ) (a : Piece) → Contains e.bases (id, a) → BaseFrom s held a
  base-from id a has = elim (Contains-append_cases (placed (map (placed_piece (ledger s).base.dbid) (in_place s).files)) gathered.bases.rest (id, a) (subst (λ xs. Contains xs (id, a)) gathered.bases.list has)) [
    | inl here ↦ placed-file a (placed-under (map (placed_piece (ledger s).base.dbid) (in_place s).files) id a here).1
    | inr rest ↦
        let is : IsBaseOf held (records_of s.catalog) id a = (gathered.bases.exact id a).0 rest in
        from_copy a is.1 (backup-from id a is.0)
  ]

  pub level1-from : (id : ℕ) (a : Piece) → Contains e.level1s (id, a) → Level1From s held a
  level1-from id a has =
      let is : IsLevel1Of held (records_of s.catalog) id a = (gathered.level1s.exact id a).0 (subst (λ xs. Contains xs (id, a)) gathered.level1s.list has) in
      record { kind = is.1; backup = backup-from id a is.0 }
