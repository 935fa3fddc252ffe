-- The artefacts that are at hand, and the histories that agree with all of them.
use Rattle.std.specs.Prelude.{List, Contains}
use Rattle.rm_base.specs.declared.block.Change.{Change}
use Rattle.rm_history.specs.{Artefacts.{Base, Level1, Log}, Agrees.{BaseAgrees, Level1Agrees, LogAgrees, LogLists}}
use Rattle.rm_history.specs.declared.world.World.{World}

pub record Evidence : Type 0 where
  pub bases : List Base
  pub level1s : List Level1
  pub logs : List Log

-- each artefact agrees with the history
pub record Agrees (w : World) (h : List Change) (e : Evidence) : Type 0 where
  pub bases : (a : Base) → Contains e.bases a → BaseAgrees w h a
  pub level1s : (a : Level1) → Contains e.level1s a → Level1Agrees w h a
  pub logs : (a : Log) → Contains e.logs a → LogAgrees h a

-- so where the history may list its changes in any order
pub record AgreesInAnyOrder (w : World) (h : List Change) (e : Evidence) : Type 0 where
  pub bases : (a : Base) → Contains e.bases a → BaseAgrees w h a
  pub level1s : (a : Level1) → Contains e.level1s a → Level1Agrees w h a
  pub logs : (a : Log) → Contains e.logs a → LogLists h a
