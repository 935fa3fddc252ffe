-- The histories that a database may have had: lists of changes.
use Rattle.std.specs.Prelude.{◌≡◌, ◌<◌, ◌≤◌, ◌↔◌, Some, List, Contains, AllPairs}
use Rattle.rm_base.specs.declared.block.Change.{Change}
use Rattle.rm_history.specs.{Threads.{IsEnabled}, Tree.{IsThere, reset_of, owner}, World.{file_of}, declared.world.Datafile.{Datafile}}
use Rattle.rm_history.specs.declared.world.World.{World}

-- a change that a history of the database may have
pub record IsChange (w : World) (c : Change) : Type 0 where
  -- its thread is enabled at its address
  pub thread : IsEnabled w c.inc c.scn c.thread
  pub there : IsThere w.tree c.inc
  -- its SCN is at or above its incarnation's resetlogs SCN
  pub begun : reset_of w.tree c.inc ≤ c.scn
  -- it is of a datafile that was created below it, on its incarnation's path
  pub datafile : Datafile
  pub is : file_of w c.file ≡ Some datafile
  pub created : datafile.creation < c.scn
  pub owned : owner w.tree c.inc datafile.creation ≡ datafile.inc
  -- the datafile has its block
  pub block : c.block < datafile.blocks

-- two changes of one block at one SCN of one incarnation
pub record SamePlace (c d : Change) : Type 0 where
  pub inc : c.inc ≡ d.inc
  pub scn : c.scn ≡ d.scn
  pub file : c.file ≡ d.file
  pub block : c.block ≡ d.block

-- each is a change of the database, and no two have one place
pub record IsHistory (w : World) (h : List Change) : Type 0 where
  pub changes : (c : Change) → Contains h c → IsChange w c
  pub apart : AllPairs (λ c d. ¬ SamePlace c d) h

-- the two list the same changes
abbrev pub SameChanges : List Change → List Change → Type 0
SameChanges h k = (c : Change) → Contains h c ↔ Contains k c
