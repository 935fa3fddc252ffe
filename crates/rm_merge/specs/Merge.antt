-- A copy that takes over the rows of a level 1.
use Rattle.std.specs.Prelude.{ℕ, ◌≡◌, ◌<◌, ◌≤◌, ◌⊎◌, ◌==◌, nat_lt, if◌then◌else◌, IsTrue, List, map, find, Option, Some, None, All}
use Rattle.std.specs.List.{AllPairs}
use Rattle.rm_base.specs.declared.{block.Row.{Row}, kinds.Kind.TheVariants.{Full, Level0, Level1}}
use Rattle.rm_history.specs.{Artefacts.{high_of}, Tree.{is_within}, declared.tree.Incarnation.{Incarnation}}
use Rattle.rm_piece.specs.{Valid.{IsBefore}, declared.piece.Piece.{Piece}}

-- the copy and the level 1 meet: the level 1 tells of each change from the copy's checkpoint on
pub record Meets (tree : List Incarnation) (copy level1 : Piece) : Type 0 where
  pub copy_kind : (copy.kind ≡ Full) ⊎ (copy.kind ≡ Level0)
  pub level1_kind : level1.kind ≡ Level1
  pub dbid : copy.dbid ≡ level1.dbid
  pub file : copy.file ≡ level1.file
  pub blocks : copy.blocks ≡ level1.blocks
  pub from : level1.from ≤ copy.checkpoint
  pub later : copy.checkpoint < level1.checkpoint
  -- the copy's incarnation is on the path of the level 1's, and its high within its segment there
  pub within : IsTrue (is_within tree copy.inc level1.inc copy.high)

-- the row of this block, if there is one
abbrev pub row_at : List Row → ℕ → Option Row
row_at rows b = find (λ r. r.block == b) rows

-- the row of the greater version, of equal versions the level 1's
abbrev pub greater : Row → Option Row → Row
greater r None = r
greater r (Some n) = if nat_lt n.version r.version then r else n

-- for each block of a copy the row of the greater version
abbrev pub merged_rows : List Row → List Row → List Row
merged_rows copy level1 = map (λ r. greater r (row_at level1 r.block)) copy

-- the merged copy: kind level 0, the level 1's incarnation and checkpoint
abbrev pub merged : Piece → Piece → Piece
merged copy level1 = record {
  kind = Level0;
  dbid = copy.dbid;
  inc = level1.inc;
  file = copy.file;
  blocks = copy.blocks;
  from = 0;
  checkpoint = level1.checkpoint;
  high = high_of level1.checkpoint (merged_rows copy.rows level1.rows);
  rows = merged_rows copy.rows level1.rows;
}

-- rows by ascending block, each of one of the first n blocks
pub record AreOf (n : ℕ) (rows : List Row) : Type 0 where
  pub ascend : AllPairs IsBefore rows
  pub inside : All (λ r. r.block < n) rows
