-- The database of a duplicate, its copies, and what a recovery of it brings back.
use Rattle.std.specs.{Prelude.{ℕ, List, [], ◌∷◌, length, map}, List.{enumerate_from}}
use Rattle.rm_base.specs.declared.{block.Change.{Change}, kinds.Kind.TheVariants.{Level0}}
use Rattle.rm_blocks.specs.File.{File}
use Rattle.rm_history.specs.{State.{states}, Tree.{reset_of}, World.{blocks_of, creation_of}, declared.tree.Incarnation.{Incarnation}}
use Rattle.rm_history.specs.declared.world.{Datafile.{Datafile}, World.{World}}
use Rattle.rm_piece.specs.declared.piece.Piece.{Piece}

-- incarnation 1 begins where the source's began, and ends at the target
abbrev pub first_until : World → ℕ → Incarnation
first_until w s = record { parent = 0; reset = reset_of w.tree 1; end = s }

-- datafile f, created where it was, on incarnation 1
abbrev pub as_first : World → ℕ → Datafile
as_first w f = record { inc = 1; creation = creation_of w f; blocks = blocks_of w f }

-- the database of a duplicate: incarnation 1 alone, the threads with which the source began and no switch of one, and
-- the datafiles that were recovered until s, numbered from 1 on
abbrev pub duplicated : World → ℕ → List File → World
duplicated w s files = record { tree = first_until w s ∷ []; threads = w.threads; switches = []; files = map (λ x. as_first w x.file) files }

-- a datafile that was recovered until s, as the level 0 of a datafile of this number: each version lies below s
abbrev pub copy_as : (dbid s : ℕ) → ℕ × File → Piece
copy_as dbid s (k, x) =
    record { kind = Level0; dbid = dbid; inc = 1; file = k; blocks = length x.rows; from = 0; checkpoint = s; high = s; rows = x.rows }

-- the copies of these datafiles, numbered from 1 on
abbrev pub copies_of : (dbid s : ℕ) → List File → List Piece
copies_of dbid s files = map (copy_as dbid s) (enumerate_from 1 files)

-- datafile f of the source as its history made it until s of incarnation i, as datafile k of the duplicate
abbrev pub made_as : World → List Change → (i s : ℕ) → ℕ × ℕ → File
made_as w h i s (k, f) = record { file = k; inc = 1; checkpoint = s; rows = states w h i s f (blocks_of w f) }

-- the datafiles of the source of these numbers, numbered from 1 on
abbrev pub made_of : World → List Change → (i s : ℕ) → List ℕ → List File
made_of w h i s fs = map (made_as w h i s) (enumerate_from 1 fs)
