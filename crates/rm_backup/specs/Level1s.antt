-- The level 1s that an image copy takes over, one after another, and those that start above it.
use Rattle.std.specs.Prelude.{ℕ, ◌≡◌, ◌<◌, ◌≤◌, ◌⊎◌, IsSomeAnd, Option, Some, None, List, [], ◌∷◌, ◌++◌, map}
use Rattle.rm_base.specs.{Choice.{IsChoice}, declared.kinds.{Kind.TheVariants.{Level1}, Status.TheVariants.{Available}}}
use Rattle.rm_catalog.specs.{Trees.{nodes}, declared.record.{PieceEntry.{PieceEntry}, Record.{Record}}}
use Rattle.rm_merge.specs.Merge.{Meets, merged}
use Rattle.rm_piece.specs.declared.piece.Piece.{Piece}
use Rattle.rm_backup.specs.Records.{IsOnPath, piece, pieces}

-- the record is one of a level 1 with the tag that holds on the current path
pub record MayBeMerged (rs : List Record) (f : ℕ) (tag : List ℕ) (p : PieceEntry) : Type 0 where
  pub on : IsOnPath rs f p
  pub level1 : p.kind ≡ Level1
  pub is : p.tag ≡ tag

-- What may be merged next into the copy, of level 1s that are at hand, each with the id of its record: its
-- record may be merged, it meets the copy, and its checkpoint is at most the SCN s.
pub record MayBeNext (rs : List Record) (f : ℕ) (tag : List ℕ) (s : ℕ) (copy : Piece) (x : ℕ × Piece) : Type 0 where
  pub entry : IsSomeAnd (piece x.0 rs) (MayBeMerged rs f tag)
  pub meets : Meets (nodes rs) copy x.1
  pub until : x.1.checkpoint ≤ s

-- x has a greater checkpoint than y, or the same and no greater id
abbrev pub MergesFirst : (ℕ × Piece) → (ℕ × Piece) → Type 0
MergesFirst x y = (y.1.checkpoint < x.1.checkpoint) ⊎ ((y.1.checkpoint ≡ x.1.checkpoint) × (x.0 ≤ y.0))

-- the one that is merged next: of the greatest checkpoint, ties by the least id
abbrev pub IsNext : List Record → ℕ → List ℕ → ℕ → List (ℕ × Piece) → Piece → Option (ℕ × Piece) → Type 0
IsNext rs f tag s level1s copy o = IsChoice (MayBeNext rs f tag s copy) MergesFirst level1s o

-- what the copy may have become
pub data IsReached (rs : List Record) (f : ℕ) (tag : List ℕ) (s : ℕ) (level1s : List (ℕ × Piece)) (copy : Piece) : Piece → Type 0 where
  start : IsReached rs f tag s level1s copy copy
  next : (now : Piece) (x : ℕ × Piece) → IsReached rs f tag s level1s copy now → IsNext rs f tag s level1s now (Some x) → IsReached rs f tag s level1s copy (merged now x.1)

-- it became this, and no level 1 at hand may be merged any more
pub record IsEnd (rs : List Record) (f : ℕ) (tag : List ℕ) (s : ℕ) (level1s : List (ℕ × Piece)) (copy last : Piece) : Type 0 where
  pub reached : IsReached rs f tag s level1s copy last
  pub none : IsNext rs f tag s level1s last None

-- an available level 1 of datafile and tag that begins above the checkpoint c
pub record StartsAbove (f : ℕ) (tag : List ℕ) (c : ℕ) (p : PieceEntry) : Type 0 where
  pub file : p.file ≡ f
  pub status : p.status ≡ Available
  pub level1 : p.kind ≡ Level1
  pub is : p.tag ≡ tag
  pub above : c < p.from

-- ys are those of the records xs that pass, in their order
pub data AreKept (Passes : PieceEntry → Type 0) : List PieceEntry → List PieceEntry → Type 0 where
  of_none : AreKept Passes [] []
  takes : (xs ys : List PieceEntry) (x : PieceEntry) → AreKept Passes xs ys → Passes x → AreKept Passes (xs ++ x ∷ []) (ys ++ x ∷ [])
  leaves : (xs ys : List PieceEntry) (x : PieceEntry) → AreKept Passes xs ys → ¬ Passes x → AreKept Passes (xs ++ x ∷ []) ys

-- the level 1s that start above the checkpoint, by id and `from`, ascending by id
pub record StartAbove (rs : List Record) (f : ℕ) (tag : List ℕ) (c : ℕ) (told : List (ℕ × ℕ)) : Type 0 where
  pub kept : List PieceEntry
  pub are : AreKept (StartsAbove f tag c) (pieces rs) kept
  pub is : told ≡ map (λ p. (p.id, p.from)) kept
