-- A copy after merges: of the incarnation and the checkpoint of the last level 1, and within the end of that incarnation.
use Rattle.std.proofs.{Common.{◌≡◌, ◌≤◌, ◌∙◌, ℕ, List, Some, refl, subst, arith, length, All, Contains}, lemmas.List.{length-map}}
use Rattle.rm_base.specs.declared.block.Row.{Row}
use Rattle.rm_catalog.specs.{Trees.{nodes}, declared.record.Record.{Record}}
use Rattle.rm_evidence.specs.Known.{FitsPiece}
use Rattle.rm_history.specs.{Tree.{IsThere, IsTree, end_of, reset_of}, declared.tree.Incarnation.{Incarnation}}
use Rattle.rm_history.proofs.Segments.{within-end}
use Rattle.rm_merge.{specs.Merge.{Meets, greater, merged, row_at}, proofs.Reaching.{merged_high}}
use Rattle.rm_piece.specs.{Valid.{IsPiece}, declared.piece.Piece.{Piece}}
use Rattle.rm_backup.{specs.Level1s.{IsNext, IsReached, next, start}, proofs.Chained.{reached_valid}}

-- a level 1 that fits the tree, and lies up to the end of its incarnation
pub record EndsIn (tree : List Incarnation) (a : Piece) : Type 0 where
  pub fits : FitsPiece tree a
  pub high : a.high ≤ end_of tree a.inc

-- what a copy keeps while it takes over level 1s
pub record KeepsOn (tree : List Incarnation) (copy now : Piece) : Type 0 where
  pub file : now.file ≡ copy.file
  pub rows : length now.rows ≡ length copy.rows
  pub high : now.high ≤ end_of tree now.inc

-- the last of the merges
pub record IsLast (rs : List Record) (f : ℕ) (tag : List ℕ) (s : ℕ) (level1s : List (ℕ × Piece)) (copy last : Piece) : Type 0 where
  pub before : Piece
  pub level1 : ℕ × Piece
  pub reached : IsReached rs f tag s level1s copy before
  pub chosen : IsNext rs f tag s level1s before (Some level1)
  pub is : merged before level1.1 ≡ last

module _ (rs : List Record) (f : ℕ) (tag : List ℕ) (s : ℕ) (level1s : List (ℕ × Piece)) where
  pub last-merge : (copy : Piece) (first : ℕ × Piece) (last : Piece) → IsNext rs f tag s level1s copy (Some first) → IsReached rs f tag s level1s (merged copy first.1) last → IsLast rs f tag s level1s copy last
  last-merge copy first _ begins start = record { before = copy; level1 = first; reached = start; chosen = begins; is = refl }
  last-merge copy first _ begins (next now x before is) =
      let was = last-merge copy first now begins before in
      record { before = now; level1 = x; reached = subst (IsReached rs f tag s level1s copy) was.is (next was.before was.level1 was.reached was.chosen); chosen = is; is = refl }

  module _ (tree : List Incarnation) (same : nodes rs ≡ tree) (is : IsTree tree) (ranges : (i : ℕ) → IsThere tree i → reset_of tree i ≤ end_of tree i) (all : (x : ℕ × Piece) → Contains level1s x → EndsIn tree x.1) where
    pub merge-keeps : (copy now : Piece) (x : ℕ × Piece) → IsPiece now → KeepsOn tree copy now → IsNext rs f tag s level1s now (Some x) → KeepsOn tree copy (merged now x.1)
    merge-keeps copy now x piece was chosen =
        let new = all x chosen.held in
        let meets : Meets tree now x.1 = subst (λ t. Meets t now x.1) same chosen.passes.meets in
        let low = within-end tree is x.1.inc now.inc now.high new.fits.inc (ranges x.1.inc new.fits.inc) was.high meets.within in
        record {
          file = was.file;
          rows = length-map now.rows (λ (r : Row). greater r (row_at x.1.rows r.block)) ∙ was.rows;
          high = omega (arith, merged_high tree now x.1 piece new.fits.valid meets, new.high, low);
        }

    pub reached-keeps : (copy now : Piece) → All (λ y. FitsPiece (nodes rs) y.1) level1s → IsPiece copy → copy.high ≤ end_of tree copy.inc → IsReached rs f tag s level1s copy now → KeepsOn tree copy now
    reached-keeps copy _ fits piece high start = record { file = refl; rows = refl; high = high }
    reached-keeps copy _ fits piece high (next now x before chosen) =
        merge-keeps copy now x (reached_valid rs f tag s level1s copy now fits piece before) (reached-keeps copy now fits piece high before) chosen
