-- A standby that takes over an increment.
use Rattle.std.specs.Prelude.{ℕ, ◌≡◌, ◌≢◌, ◌≤◌, ◌==◌, not, IsTrue, IsSomeAnd, IfNone, Bool, true, Option, Some, None, List, map, find, length, count_by, slice_get, All}
use Rattle.std.specs.{List.{sum_by}, Str.{bytes_eq}}
use Rattle.rm_base.specs.{Created.{created_row}, declared.{block.Row.{Row}, kinds.Kind.TheVariants.{Full, Level1}}}
use Rattle.rm_history.specs.{Artefacts.{high_of}, State.{rows_from}, Tree.{IsThere, is_within}, declared.tree.Incarnation.{Incarnation}}
use Rattle.rm_piece.specs.{Filling.{over}, declared.set.{Set.{Set}, SetFile.{SetFile}}}

-- the member of a datafile
abbrev pub member_at : List SetFile → ℕ → Option SetFile
member_at members f = find (λ m. m.piece.file == f) members

-- every member is a level 1 that begins at one SCN, which the standby reaches
pub record BeginsBy (standby increment : Set) (first : SetFile) : Type 0 where
  pub from : first.piece.from ≤ standby.checkpoint
  pub alike : All (λ n. (n.piece.kind ≡ Level1) × (n.piece.from ≡ first.piece.from)) increment.members

-- the same datafile
pub record IsSameFile (m n : SetFile) : Type 0 where
  pub creation : n.creation ≡ m.creation
  pub blocks : n.piece.blocks ≡ m.piece.blocks

-- the increment tells of each change of each datafile from the standby's address on
pub record Meets (tree : List Incarnation) (standby increment : Set) : Type 0 where
  pub dbid : standby.dbid ≡ increment.dbid
  pub standby_there : IsThere tree standby.inc
  pub increment_there : IsThere tree increment.inc
  pub full : All (λ m. m.piece.kind ≢ Level1) standby.members
  -- an increment without members has no such SCN
  pub begins : IsSomeAnd (slice_get increment.members 0) (BeginsBy standby increment)
  pub until : standby.checkpoint ≤ increment.checkpoint
  pub within : IsTrue (is_within tree standby.inc increment.inc standby.checkpoint)
  pub kept : All (λ m. IsSomeAnd (member_at increment.members m.piece.file) (IsSameFile m)) standby.members
  -- of a datafile that the standby has not, every block is listed
  pub added : All (λ n. IfNone (member_at standby.members n.piece.file) (length n.piece.rows ≡ n.piece.blocks)) increment.members

-- the rows that the standby has of the increment's member, or else the datafile as it was created
abbrev pub old_rows : Option SetFile → SetFile → List Row
old_rows None n = rows_from (created_row n.creation) 0 n.piece.blocks
old_rows (Some m) n = m.piece.rows

-- a full member with these rows
abbrev pub full_member : SetFile → List Row → SetFile
full_member n rows =
    record { creation = n.creation; piece = record n.piece { kind = Full; from = 0; high = high_of n.piece.checkpoint rows; rows = rows } }

-- each listed row in the place of the block's
abbrev pub rolled_member : Set → SetFile → SetFile
rolled_member standby n = full_member n (over (old_rows (member_at standby.members n.piece.file) n) n.piece.rows)

-- the rolled standby: the increment's address and datafiles
abbrev pub rolled : Set → Set → Set
rolled standby increment = record increment { members = map (rolled_member standby) increment.members }

-- the row of this block
abbrev pub row_at : List Row → ℕ → Option Row
row_at rows b = find (λ r. r.block == b) rows

-- the listed row has another content than its block had
abbrev pub is_other : Option Row → Row → Bool
is_other None n = true
is_other (Some r) n = not (bytes_eq r.content.0 n.content.0)

-- how many blocks got another content
abbrev pub changed_in : List Row → List Row → ℕ
changed_in old listed = count_by (λ n. is_other (row_at old n.block) n) listed

abbrev pub changed : Set → Set → ℕ
changed standby increment =
    sum_by (λ n. changed_in (old_rows (member_at standby.members n.piece.file) n) n.piece.rows) increment.members
