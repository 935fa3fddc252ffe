-- Which image copy takes over level 1s.
use Rattle.std.specs.Prelude.{ℕ, ◌≡◌, true, Option, List}
use Rattle.rm_base.specs.Choice.{IsLatest}
use Rattle.rm_catalog.specs.declared.record.{PieceEntry.{PieceEntry}, Record.{Record}}
use Rattle.rm_backup.specs.Records.{IsOnPath, pieces, told}

-- an image copy with the tag that may take over level 1s
pub record MayBeTaken (rs : List Record) (f : ℕ) (tag : List ℕ) (p : PieceEntry) : Type 0 where
  pub on : IsOnPath rs f p
  pub copy : p.copy ≡ true
  pub is : p.tag ≡ tag

-- the one that does: of the greatest checkpoint, ties by the greatest id
abbrev pub IsTaken : List Record → ℕ → List ℕ → Option PieceEntry → Type 0
IsTaken rs f tag o = IsLatest told (MayBeTaken rs f tag) (pieces rs) o
