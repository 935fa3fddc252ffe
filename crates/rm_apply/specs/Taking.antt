-- Backups that are taken by their places, and the choice among those that are left.
use Rattle.std.specs.Prelude.{ℕ, Option, Some, None, List, slice_get}
use Rattle.rm_history.specs.declared.tree.Incarnation.{Incarnation}
use Rattle.rm_piece.specs.declared.piece.Piece.{Piece}
use Rattle.rm_apply.specs.Restore.{IsBackupFor}

-- the base at this place, if one is given
abbrev pub base_at : List (ℕ × Piece) → Option ℕ → Option (ℕ × Piece)
base_at bases None = None
base_at bases (Some k) = slice_get bases k

-- what is chosen for datafile f among the bases that are left is chosen among all
abbrev pub Stays : List Incarnation → ℕ → ℕ → List (ℕ × Piece) → List (ℕ × Piece) → ℕ → Type 0
Stays tree i s all left f = (o : Option (ℕ × Piece)) → IsBackupFor tree left i s f o → IsBackupFor tree all i s f o
