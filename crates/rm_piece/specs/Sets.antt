-- Which sets of pieces are valid.
use Rattle.std.specs.{Prelude.{ℕ, ◌≡◌, ◌≢◌, ◌<◌, ◌≤◌, ◌^◌, List, nat_lt, filter, length, All}, List.{AllPairs, sum_by}}
use Rattle.rm_base.specs.{Content.{zero_block}, declared.{block.Row.{Row}, kinds.Kind.TheVariants.{Place}}}
use Rattle.rm_piece.specs.{Valid.{IsPiece}, declared.set.{Set.{Set}, SetFile.{SetFile}}}

-- its version is not below the creation, and at the creation it is zero
pub record IsSince (creation : ℕ) (r : Row) : Type 0 where
  pub since : creation ≤ r.version
  pub zero : r.version ≡ creation → r.content ≡ zero_block

-- the piece is of the set's database, incarnation and checkpoint
pub record IsOf (s : Set) (m : SetFile) : Type 0 where
  pub dbid : m.piece.dbid ≡ s.dbid
  pub inc : m.piece.inc ≡ s.inc
  pub checkpoint : m.piece.checkpoint ≡ s.checkpoint

-- a member of the set
pub record IsMember (s : Set) (m : SetFile) : Type 0 where
  pub of : IsOf s m
  pub piece : IsPiece m.piece
  pub kind : m.piece.kind ≢ Place
  pub creation : (1 ≤ m.creation) × (m.creation < s.checkpoint)
  pub rows : All (IsSince m.creation) m.piece.rows
  -- every block is listed, but where a level 1 begins above the creation
  pub whole : m.piece.from ≤ m.creation → length m.piece.rows ≡ m.piece.blocks

-- datafiles ascend strictly
abbrev pub IsBeforeMember : SetFile → SetFile → Type 0
IsBeforeMember m n = m.piece.file < n.piece.file

-- the blocks of these members together
abbrev pub blocks_in : List SetFile → ℕ
blocks_in members = sum_by (λ m. m.piece.blocks) members

-- a valid set; one without members may be of any database, incarnation and checkpoint
pub record IsSet (s : Set) : Type 0 where
  pub dbid : s.dbid < 2 ^ 32
  pub inc : s.inc < 2 ^ 32
  pub checkpoint : s.checkpoint < 2 ^ 64
  pub few : length s.members ≤ 64
  pub ascend : AllPairs IsBeforeMember s.members
  pub members : All (IsMember s) s.members
  pub blocks : blocks_in s.members ≤ 131072

-- the rows of blocks that were written since their datafile was created
abbrev pub written : ℕ → List Row → List Row
written creation rows = filter (λ r. nat_lt creation r.version) rows
