-- One record more is looked at.
use Rattle.std.specs.{Prelude.{◌≡◌, ◌⊎◌, ℕ, Option, Some, None, List}, Option.{option_map}}
use Rattle.rm_base.specs.Choice.{ComesFirst, IsLatest}
use Rattle.rm_catalog.specs.declared.record.{PieceEntry.{PieceEntry}, Record.{Record, TheVariants.{Piece}}}
use Rattle.rm_backup.specs.Records.{told}

-- the record is one of a backup that passes, and this one; or it is none
abbrev pub IsPassing : (PieceEntry → Type 0) → Record → Option PieceEntry → Type 0
IsPassing Passes row None = (p : PieceEntry) → row ≡ Piece p → ¬ Passes p
IsPassing Passes row (Some p) = (row ≡ Piece p) × Passes p

-- told is the first of those backups that pass
abbrev pub TellsFirst : (PieceEntry → Type 0) → List PieceEntry → Option (ℕ × ℕ) → Type 0
TellsFirst Passes ps x = (o : Option PieceEntry) × IsLatest told Passes ps o × (x ≡ option_map told o)

-- the first of both
abbrev pub IsFirstOf : Option (ℕ × ℕ) → Option (ℕ × ℕ) → Option (ℕ × ℕ) → Type 0
IsFirstOf best None r = r ≡ best
IsFirstOf None (Some y) r = r ≡ Some y
IsFirstOf (Some x) (Some y) r = (ComesFirst x y × (r ≡ Some x)) ⊎ ((¬ ComesFirst x y) × (r ≡ Some y))
