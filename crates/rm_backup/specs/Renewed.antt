-- What RECOVER COPY makes of a datafile's image copy.
use Rattle.std.specs.{Prelude.{ℕ, ◌≡◌, ◌==◌, IfSome, IsSomeAnd, Option, Some, None, List, find}, Option.{option_map, option_map_or}}
use Rattle.rm_catalog.specs.declared.record.{PieceEntry.{PieceEntry}, Record.{Record}}
use Rattle.rm_evidence.specs.declared.evidence.Evidence.{Evidence}
use Rattle.rm_merge.specs.Merge.{merged}
use Rattle.rm_piece.specs.declared.piece.Piece.{Piece}
use Rattle.rm_backup.specs.{Level1s.{IsEnd, IsNext, StartAbove}, Taken.{IsTaken}, declared.renewing.Renewed.{Renewed}}

-- the copy of this id, if it is at hand
abbrev pub copy_at : List (ℕ × Piece) → ℕ → Option Piece
copy_at bases id = option_map (λ x. x.1) (find (λ x. x.0 == id) bases)

-- the copy takes over a first level 1, and then each one that is next
pub record TakesOver (rs : List Record) (f : ℕ) (tag : List ℕ) (s : ℕ) (level1s : List (ℕ × Piece)) (copy last : Piece) : Type 0 where
  pub first : ℕ × Piece
  pub next : IsNext rs f tag s level1s copy (Some first)
  pub end : IsEnd rs f tag s level1s (merged copy first.1) last

-- It stays where it is not at hand or no level 1 may be merged. Otherwise this is the copy after all merges.
abbrev pub IsMerged : List Record → ℕ → List ℕ → ℕ → List (ℕ × Piece) → Option Piece → Option Piece → Type 0
IsMerged rs f tag s level1s at_hand None = IfSome at_hand (λ copy. IsNext rs f tag s level1s copy None)
IsMerged rs f tag s level1s at_hand (Some last) = IsSomeAnd at_hand (λ copy. TakesOver rs f tag s level1s copy last)

-- what is told of the copy that is taken
pub record IsRenewed (rs : List Record) (e : Evidence) (f : ℕ) (tag : List ℕ) (s : ℕ) (r : Renewed) : Type 0 where
  pub copy : PieceEntry
  pub taken : IsTaken rs f tag (Some copy)
  pub id : r.id ≡ copy.id
  pub merged : IsMerged rs f tag s e.level1s (copy_at e.bases copy.id) r.merged
  pub checkpoint : r.checkpoint ≡ option_map_or (λ last. last.checkpoint) r.merged copy.checkpoint
  pub above : StartAbove rs f tag r.checkpoint r.above
