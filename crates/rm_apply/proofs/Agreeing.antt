-- Datafiles that are restored agree with the history with which what is at hand agrees.
use Rattle.std.proofs.{Common.{◌≡◌, ℕ, List, Option, Some, None, Contains, subst}, lemmas.List.Elements.{All-contains}}
use Rattle.rm_base.{specs.declared.block.Change.{Change}, proofs.Lists.{map_from, map_to}}
use Rattle.rm_blocks.{specs.File.{File, base_of}, proofs.Created.{created-agrees}}
use Rattle.rm_evidence.specs.{Known.{known_of}, declared.evidence.Evidence.{Evidence}}
use Rattle.rm_history.specs.{Agrees.{BaseAgrees}, History.{IsHistory}, World.{file_of}, Evidence.{Agrees}}
use Rattle.rm_history.specs.declared.world.{Datafile.{Datafile}, World.{World}}
use Rattle.rm_piece.specs.{Artefacts.{base_of as copy_of}, declared.piece.Piece.{Piece}}
use Rattle.rm_apply.specs.{Restore.{AreRestored, IsBackupFor, IsRestoration, file_by, restored}, declared.origin.Origin.{Origin}}

module _ (w : World) (e : Evidence) (i s : ℕ) (h : List Change) (history : IsHistory w h) (agrees : Agrees w h (known_of e)) where
  -- a backup does, and a datafile as it was created
  file-agrees : (f : ℕ) (d : Datafile) (o : Option (ℕ × Piece)) → file_of w f ≡ Some d → IsBackupFor w.tree e.bases i s f o → BaseAgrees w h (base_of (file_by f d o))
  file-agrees f d None is chosen = created-agrees w h d.inc f d history is
  file-agrees f d (Some x) is chosen = agrees.bases (copy_of x.1) (map_to (λ (y : ℕ × Piece). copy_of y.1) e.bases x chosen.held)

  pub restored-agrees : (ns : List ℕ) (files : List File) (origins : List Origin) (x : File) → AreRestored w e.bases i s ns files origins → Contains files x → BaseAgrees w h (base_of x)
  restored-agrees ns files origins x are has =
      let r = map_from restored are.restorations x (subst (λ (ys : List File). Contains ys x) are.are has) in
      let is = All-contains (IsRestoration w e.bases i s) are.restorations r.item are.each r.held in
      subst (λ (y : File). BaseAgrees w h (base_of y)) r.is (file-agrees r.item.number r.item.datafile r.item.backup is.is is.chosen)
