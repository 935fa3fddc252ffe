-- A part that is good is the artefact that was saved.
use Rattle.std.proofs.Common.{◌≡◌, ◌<◌, ◌∙◌, ◌==◌, ◌&&◌, inl, inr, ℕ, List, Some, sym, subst, arith, Contains}
use Rattle.std.proofs.lemmas.Bool.{and_parts, eqb-true}
use Rattle.rm_base.{specs.{Store.{Held}, declared.block.Change.{Change}}, proofs.Searched.{found-in}}
use Rattle.rm_catalog.specs.declared.record.PartEntry.{PartEntry}
use Rattle.rm_history.specs.{Agrees.{BaseAgrees, LogAgrees}, declared.world.Datafile.{Datafile}}
use Rattle.rm_catalog_typed.specs.{Ledger.{Ledger}, TypedCatalog.{Saved}, Worlds.{world_of}}
use Rattle.rm_piece.specs.{Artefacts.{base_of}, Valid.{IsPiece}, declared.piece.Piece.{Piece}}
use Rattle.rm_piece.proofs.Fitting.{spelling_same as piece_same}
use Rattle.rm_piece.specs.Spelling as piece_format
use Rattle.rm_redo.specs.{LogFile.{log_of}, LogFormat.{IsLogFile}, declared.log_file.LogFile.{LogFile}}
use Rattle.rm_redo.proofs.LogFitting.{spelling_same as log_same}
use Rattle.rm_redo.specs.LogFormat as log_format
use Rattle.rm_machine.specs.{Effect.{Artefact, Made, a_log, a_piece, a_set}, Machine.{IsTrueArtefact, PieceAgrees}}
use Rattle.rm_machine.specs.{Rest.{HasPartArtefact, PartsTellFor}, Saved.{HasPart, IsGoodFile, IsGoodLog, IsOfPart, spelling_of}}

module _ (l : Ledger) (h : List Change) (objects : Held) (made : List Made) (touched : List (List ℕ)) (site : Saved)
    (truth : (a : Made) → Contains made a → IsTrueArtefact (world_of l) h a.artefact)
    (parts : (p : PartEntry) → Contains site.parts p → HasPartArtefact objects made touched p)
    (tell : PartsTellFor objects made touched site) where
  -- the bytes of a part spell the artefact that was saved
  bytes-same : (p : PartEntry) (bytes : List ℕ) → (has : Contains site.parts p) → HasPart objects p bytes → bytes ≡ spelling_of (parts p has).artefact
  bytes-same p bytes has there =
      let kept = parts p has in
      elim kept.there [
        | inl given ↦ tell.parts p kept.artefact bytes given has kept.is kept.digest there.there there.digest
        | inr stands ↦ let one : Some bytes ≡ Some (spelling_of kept.artefact) = sym there.there ∙ stands in cc
      ]

  -- the piece of a datafile is the one that was saved
  piece-by : (b : Artefact) (p : PartEntry) (a : Piece) → IsOfPart p b → 0 < p.file → IsTrueArtefact (world_of l) h b → IsPiece a → piece_format.spelling a ≡ spelling_of b → PieceAgrees (world_of l) h a.kind a
  piece-by (a_log b) p a of positive is valid same = absurd (let none : p.file ≡ 0 = of in omega (arith, none, positive))
  piece-by (a_piece b) p a of positive is valid same =
      let one : b ≡ a = piece_same b a is.valid valid (sym same) in
      subst (λ (x : Piece). PieceAgrees (world_of l) h x.kind x) one is.agrees
  piece-by (a_set b) p a of positive is valid same = absurd of

  -- and the log of a thread
  log-by : (b : Artefact) (p : PartEntry) (a : LogFile) → IsOfPart p b → p.file ≡ 0 → IsTrueArtefact (world_of l) h b → IsLogFile a → log_format.spelling a ≡ spelling_of b → LogAgrees h (log_of a)
  log-by (a_log b) p a of none is valid same =
      let one : b ≡ a = log_same b a is.valid valid (sym same) in
      subst (λ (x : LogFile). LogAgrees h (log_of x)) one is.agrees
  log-by (a_piece b) p a of none is valid same = absurd (let positive : 0 < p.file = of in omega (arith, none, positive))
  log-by (a_set b) p a of none is valid same = absurd of

  pub file-agrees : (f : ℕ) (d : Datafile) (a : Piece) → 0 < f → IsGoodFile objects l site f d a → BaseAgrees (world_of l) h (base_of a)
  file-agrees f d a positive good =
      let p = good.part in
      let at = found-in (λ q. q.file == f) site.parts p good.is in
      let number : p.file ≡ f = eqb-true p.file f at.1 in
      let kept = parts p at.0 in
      subst (λ k. PieceAgrees (world_of l) h k a) good.fits.kind
      (piece-by kept.artefact p a kept.of (omega (arith, number, positive)) (truth _ kept.is) good.valid (bytes-same p (piece_format.spelling a) at.0 good.has))

  pub log-agrees : (t : ℕ) (a : LogFile) → IsGoodLog objects l site t a → LogAgrees h (log_of a)
  log-agrees t a good =
      let p = good.part in
      let at = found-in (λ q. (q.file == 0) && (q.thread == t)) site.parts p good.is in
      let number : p.file ≡ 0 = eqb-true p.file 0 (and_parts (p.file == 0) (p.thread == t) at.1).0 in
      let kept = parts p at.0 in
      log-by kept.artefact p a kept.of number (truth _ kept.is) good.valid (bytes-same p (log_format.spelling a) at.0 good.has)
