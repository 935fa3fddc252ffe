-- What was ever recorded stays true where the database grows by an incarnation or by a datafile.
use Rattle.std.proofs.Common.{◌≤◌, List, arith, get_or, length}
use Rattle.rm_base.specs.declared.{block.Change.{Change}, kinds.Kind.{Kind, TheVariants.{Full, Level0, Level1, Place}}}
use Rattle.rm_history.specs.{Agrees.{BaseAgrees, Level1Agrees}, Artefacts.{Base, Level1 as Increment}, Tree.{IsThere}}
use Rattle.rm_history.specs.declared.world.World.{World}
use Rattle.rm_catalog_typed.proofs.Trees.{Keeps}
use Rattle.rm_piece.specs.declared.{piece.Piece.{Piece}, set.SetFile.{SetFile}}
use Rattle.rm_piece.specs.Artefacts as piece
use Rattle.rm_machine.specs.Effect.{Artefact, a_log, a_piece, a_set}
use Rattle.rm_machine.specs.Machine.{ArtefactAgrees, EndsWithin, IsOfDatafile, IsTrueArtefact, PieceAgrees, PieceEndsWithin}

-- copies and level 1s of what is there agree with the history in both databases
pub record SameHistory (w v : World) (h : List Change) : Type 0 where
  pub keeps : Keeps w.tree v.tree
  pub files : length w.files ≤ length v.files
  pub base : (a : Base) → IsThere w.tree a.inc → a.file ≤ length w.files → BaseAgrees w h a → BaseAgrees v h a
  pub level1 : (a : Increment) → IsThere w.tree a.inc → a.file ≤ length w.files → Level1Agrees w h a → Level1Agrees v h a

module _ (w v : World) (h : List Change) (same : SameHistory w v h) where
  piece-on : (k : Kind) (a : Piece) → IsThere w.tree a.inc → a.file ≤ length w.files → PieceAgrees w h k a → PieceAgrees v h k a
  piece-on Full a there file agrees = same.base (piece.base_of a) there file agrees
  piece-on Level0 a there file agrees = same.base (piece.base_of a) there file agrees
  piece-on Place a there file agrees = same.base (piece.base_of a) there file agrees
  piece-on Level1 a there file agrees = same.level1 (piece.level1_of a) there file agrees

  agrees-on : (a : Artefact) → EndsWithin w.tree a → IsOfDatafile w a → ArtefactAgrees w h a → ArtefactAgrees v h a
  agrees-on (a_log a) inside of agrees = agrees
  agrees-on (a_piece a) inside of agrees = piece-on a.kind a inside.0 of agrees
  agrees-on (a_set a) inside of agrees = λ k d within. let m : SetFile = get_or a.members k d in piece-on m.piece.kind m.piece (inside k d within).0 (of k d within) (agrees k d within)

  piece-within : (a : Piece) → PieceEndsWithin w.tree a → PieceEndsWithin v.tree a
  piece-within a inside = (same.keeps.there a.inc inside.0, inside.1, omega (arith, inside.2, same.keeps.end a.inc inside.0))

  within-on : (a : Artefact) → EndsWithin w.tree a → EndsWithin v.tree a
  within-on (a_log a) inside =
      (same.keeps.there a.inc inside.0, omega (arith, inside.1, same.keeps.end a.inc inside.0))
  within-on (a_piece a) inside = piece-within a inside
  within-on (a_set a) inside = λ k d within. piece-within (get_or a.members k d).piece (inside k d within)

  of-on : (a : Artefact) → IsOfDatafile w a → IsOfDatafile v a
  of-on (a_log a) of = tt
  of-on (a_piece a) of = let more = same.files in omega (arith, more, of)
  of-on (a_set a) of = λ k d within. let more = same.files in omega (arith, more, of k d within)

  pub true-on : (a : Artefact) → IsTrueArtefact w h a → IsTrueArtefact v h a
  true-on a is = record { agrees = agrees-on a is.within is.of is.agrees; valid = is.valid; within = within-on a is.within; of = of-on a is.of }
