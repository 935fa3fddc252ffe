-- What is seen of a block has 64 bytes.
use Rattle.std.proofs.{Common.{◌≡◌, ℕ, List, refl, subst, sym, Contains, length}, lemmas.List.Elements.{All-contains}}
use Rattle.rm_base.{specs.declared.block.{Block.{Block}, Change.{Change}, Row.{Row}}, proofs.Lists.{map_from}}
use Rattle.rm_evidence.specs.{Known.{FitsLog, FitsPiece, FitsTree, known_of}, declared.evidence.Evidence.{Evidence}}
use Rattle.rm_history.specs.Known.{HasChange, HasRow, Seen, by_creation, by_log, by_row, in_base, in_level1}
use Rattle.rm_history.specs.declared.{tree.Incarnation.{Incarnation}, world.World.{World}}
use Rattle.rm_history.specs.Artefacts as artefact
use Rattle.rm_piece.specs.{Artefacts.{base_of, level1_of}, Valid.{IsRow}, declared.piece.Piece.{Piece}}
use Rattle.rm_redo.specs.{LogFile.{log_of}, LogFormat.{IsLogRecord}, declared.{log_file.LogFile.{LogFile}, online.LogRecord.{LogRecord}}}

module _ (ns : List Incarnation) (e : Evidence) (fits : FitsTree ns e) where
  piece-row : (pieces : List (ℕ × Piece)) (p : ℕ × Piece) (r : Row) → Contains pieces p → (fit : FitsPiece ns p.1) → Contains p.1.rows r → length r.content.0 ≡ 64
  piece-row pieces p r has fit row = (All-contains (IsRow p.1.blocks p.1.from) p.1.rows r fit.valid.rows row).content

  row-content : (f b j c : ℕ) (r : Row) → HasRow (known_of e) f b j c r → length r.content.0 ≡ 64
  row-content f b _ _ _ (in_base a r has row file block) =
      let found = map_from (λ (x : ℕ × Piece). base_of x.1) e.bases a has in
      let rows : Contains found.item.1.rows r = subst (λ (y : artefact.Base). Contains y.rows r) (sym found.is) row in
      piece-row e.bases found.item r found.held (All-contains (λ (x : ℕ × Piece). FitsPiece ns x.1) e.bases found.item fits.bases found.held) rows
  row-content f b _ _ _ (in_level1 a r has row file block) =
      let found = map_from (λ (x : ℕ × Piece). level1_of x.1) e.level1s a has in
      let rows : Contains found.item.1.rows r = subst (λ (y : artefact.Level1). Contains y.rows r) (sym found.is) row in
      piece-row e.level1s found.item r found.held (All-contains (λ (x : ℕ × Piece). FitsPiece ns x.1) e.level1s found.item fits.level1s found.held) rows

  change-content : (f b : ℕ) (a : artefact.Log) (c : Change) → HasChange (known_of e) f b a c → length c.content.0 ≡ 64
  change-content f b a c has =
      let found = map_from (λ (x : ℕ × LogFile). log_of x.1) e.logs a has.log in
      let log = found.item.1 in
      let changes : Contains (log_of log).changes c = subst (λ (y : artefact.Log). Contains y.changes c) (sym found.is) has.change in
      let told = map_from (λ (r : LogRecord). record { inc = log.inc; thread = log.thread; scn = r.scn; file = r.file; block = r.block; content = r.content }) log.records c changes in
      let fit = All-contains (λ (x : ℕ × LogFile). FitsLog ns x.1) e.logs found.item fits.logs found.held in
      let record_fits = All-contains (IsLogRecord log.first log.next) log.records told.item fit.valid.records told.held in
      subst (λ (y : Change). length y.content.0 ≡ 64) told.is record_fits.content

  pub seen-content : (w : World) (f b m v : ℕ) (x : Block) → Seen w (known_of e) f b m v x → length x.0 ≡ 64
  seen-content w f b _ _ _ (by_row j c r has) = row-content f b j c r has
  seen-content w f b _ _ _ (by_log a c has) = change-content f b a c has
  seen-content w f b _ _ _ (by_creation d is) = refl
