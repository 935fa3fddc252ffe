-- What is kept of a database: copies of its files, increments, and logs.
use Rattle.std.specs.Prelude.{ℕ, ◌+◌, max, List, [], ◌∷◌}
use Rattle.rm_base.specs.declared.block.{Change.{Change}, Row.{Row}}

-- a copy of a datafile
pub record Base : Type 0 where
  pub inc : ℕ
  pub file : ℕ
  pub checkpoint : ℕ
  pub rows : List Row

-- what changed of a datafile from an SCN on
pub record Level1 : Type 0 where
  pub inc : ℕ
  pub file : ℕ
  pub from : ℕ
  pub checkpoint : ℕ
  pub rows : List Row

-- what one thread changed in one incarnation from `first` up to, and without, `next`
pub record Log : Type 0 where
  pub inc : ℕ
  pub thread : ℕ
  pub sequence : ℕ
  pub first : ℕ
  pub next : ℕ
  pub changes : List Change

-- the greater of the checkpoint and 1 + the greatest version in the rows
abbrev pub high_of : ℕ → List Row → ℕ
high_of checkpoint [] = checkpoint
high_of checkpoint (r ∷ rs) = max (r.version + 1) (high_of checkpoint rs)
