-- What a copy keeps while it takes over one level 1 after another.
use Rattle.std.proofs.{Common.{◌≡◌, ◌<◌, ◌≤◌, ℕ, List, Some, All, Contains, sym, subst, arith}, lemmas.List.Elements.{All-contains}}
use Rattle.rm_base.specs.declared.block.Change.{Change}
use Rattle.rm_catalog.specs.{Trees.{nodes}, declared.record.Record.{Record}}
use Rattle.rm_evidence.specs.Known.{FitsPiece}
use Rattle.rm_history.specs.{Agrees.{BaseAgrees, Level1Agrees}, History.{IsHistory}, Tree.{IsThere, IsTree}}
use Rattle.rm_history.specs.declared.{tree.Incarnation.{Incarnation}, world.World.{World}}
use Rattle.rm_merge.{specs.Merge.{Meets, merged}, proofs.Merged.{merged_agrees, merged_valid, no_level1}}
use Rattle.rm_piece.specs.{Artefacts.{base_of, level1_of}, Valid.{IsPiece}, declared.piece.Piece.{Piece}}
use Rattle.rm_backup.specs.Level1s.{IsNext, IsReached, start, next}

module _ (rs : List Record) (f : ℕ) (tag : List ℕ) (s : ℕ) (level1s : List (ℕ × Piece)) where
  -- it is valid after the one that is next
  pub next_valid : (now : Piece) (x : ℕ × Piece) → All (λ y. FitsPiece (nodes rs) y.1) level1s → IsPiece now → IsNext rs f tag s level1s now (Some x) → IsPiece (merged now x.1)
  next_valid now x all piece is =
      merged_valid now x.1 piece (All-contains (λ (y : ℕ × Piece). FitsPiece (nodes rs) y.1) level1s x all is.held).valid (no_level1 (nodes rs) now x.1 is.passes.meets) is.passes.meets.blocks

  pub reached_valid : (copy last : Piece) → All (λ y. FitsPiece (nodes rs) y.1) level1s → IsPiece copy → IsReached rs f tag s level1s copy last → IsPiece last
  reached_valid copy _ all piece start = piece
  reached_valid copy _ all piece (next now x before is) = next_valid now x all (reached_valid copy now all piece before) is

  -- each merge raises the checkpoint
  pub reached_risen : (copy last : Piece) → IsReached rs f tag s level1s copy last → copy.checkpoint ≤ last.checkpoint
  reached_risen copy _ start = omega arith
  reached_risen copy _ (next now x before is) =
      let low : copy.checkpoint ≤ now.checkpoint = reached_risen copy now before in
      let up : now.checkpoint < x.1.checkpoint = is.passes.meets.later in
      omega (arith, low, up)

  pub reached_agrees : (w : World) (h : List Change) (copy last : Piece) → w.tree ≡ nodes rs → IsTree w.tree → IsHistory w h → All (λ y. FitsPiece (nodes rs) y.1) level1s → ((y : ℕ × Piece) → Contains level1s y → Level1Agrees w h (level1_of y.1)) → IsPiece copy → BaseAgrees w h (base_of copy) → IsReached rs f tag s level1s copy last → BaseAgrees w h (base_of last)
  reached_agrees w h copy _ tree is history all agree piece base start = base
  reached_agrees w h copy _ tree is history all agree piece base (next now x before chosen) =
      merged_agrees w h now x.1 is
      (subst (λ (t : List Incarnation). IsThere t x.1.inc) (sym tree) (All-contains (λ (y : ℕ × Piece). FitsPiece (nodes rs) y.1) level1s x all chosen.held).inc)
      history (reached_valid copy now all piece before)
      (subst (λ (t : List Incarnation). Meets t now x.1) (sym tree) chosen.passes.meets)
      (reached_agrees w h copy now tree is history all agree piece base before) (agree x chosen.held)
