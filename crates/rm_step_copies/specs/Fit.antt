-- What copies need so that records can take the place of their own.
use Rattle.std.specs.Prelude.{ℕ, ◌≢◌, ◌≤◌, Bool, true, IfSome, List, All, AllPairs, length}
use Rattle.rm_backup.specs.declared.renewing.Renewed.{Renewed}
use Rattle.rm_catalog_typed.specs.{LedgerFacts.{IsPieceEntry}, Changes.{without_piece}, Fitting.{FitsNewPiece, HasId}}
use Rattle.rm_piece.specs.{Valid.{IsPiece}, declared.piece.Piece.{Piece}}
use Rattle.rm_evidence.specs.Objects.{piece_entry}
use Rattle.rm_machine.specs.{RecoverCopy.{renewed_entry}, State.{ledger, tree}, declared.state.State.{State}}

-- the piece can be recorded as an image copy with the tag
pub record CanRecord (s : State) (tag : List ℕ) (a : Piece) : Type 0 where
  pub valid : IsPiece a
  pub entry : (keep : Bool) (moment id : ℕ) → IsPieceEntry (tree s) (ledger s).files (piece_entry true keep tag moment id a)

-- the copy has no more rows than a datafile may have blocks
abbrev pub IsShort : ℕ × Renewed → Type 0
IsShort x = IfSome x.1.merged (λ last. length last.rows ≤ 65536)

-- the record of the copy is there, and where it changed it can be recorded
pub record IsFit (s : State) (tag : List ℕ) (x : ℕ × Renewed) : Type 0 where
  pub there : HasId (λ p. p.id) x.1.id (ledger s).pieces
  pub changed : IfSome x.1.merged (CanRecord s tag)

-- so for each, and no two have one record
pub record AreFit (s : State) (tag : List ℕ) (xs : List (ℕ × Renewed)) : Type 0 where
  pub each : All (IsFit s tag) xs
  pub apart : AllPairs (λ x y. x.1.id ≢ y.1.id) xs

-- a copy that changed can be put in place of the record of this id
pub record CanPut (s : State) (tag : List ℕ) (id : ℕ) (last : Piece) : Type 0 where
  pub some : 1 ≤ id
  pub valid : IsPiece last
  pub fits : FitsNewPiece (without_piece s.catalog id) (renewed_entry s tag id last)
