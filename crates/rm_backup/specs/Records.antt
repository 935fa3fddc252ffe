-- The records of a datafile's backups, and which of them hold on the current path.
use Rattle.std.specs.{Prelude.{ℕ, ◌≡◌, IsTrue, Option, List, option_and_then}, List.{filter_map}}
use Rattle.rm_base.specs.declared.kinds.Status.TheVariants.{Available}
use Rattle.rm_catalog.specs.{Keys.{at, piece_in, place}, Trees.{nodes}, declared.record.{PieceEntry.{PieceEntry}, Record.{Record}}}
use Rattle.rm_history.specs.Tree.{is_within}
use Rattle.rm_evidence.specs.Database.{current_in}

-- the pieces and image copies, in order
abbrev pub pieces : List Record → List PieceEntry
pieces rs = filter_map piece_in rs

-- the piece or image copy of this id
abbrev pub piece : ℕ → List Record → Option PieceEntry
piece id rs = option_and_then piece_in (at (place 5 id) rs)

-- A record of the datafile with status AVAILABLE, whose incarnation is on the current path and whose
-- high is at most its segment end there, if that ends.
pub record IsOnPath (rs : List Record) (f : ℕ) (p : PieceEntry) : Type 0 where
  pub file : p.file ≡ f
  pub status : p.status ≡ Available
  pub within : IsTrue (is_within (nodes rs) p.inc (current_in rs) p.high)

-- the id and the checkpoint of a backup
abbrev pub told : PieceEntry → ℕ × ℕ
told p = (p.id, p.checkpoint)
