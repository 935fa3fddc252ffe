-- A change that lies past the evidence.
use Rattle.std.specs.Prelude.{◌≡◌, ◌≤◌, Contains}
use Rattle.rm_base.specs.declared.block.Change.{Change}
use Rattle.rm_history.specs.{Artefacts.{Base, Level1, Log}, Tree.{owner}, Evidence.{Evidence}, Known.{Holds}, declared.world.World.{World}}

-- no copy or level 1 on whose path the change lies has a later checkpoint, and no log of its thread holds its address
pub record IsPast (w : World) (e : Evidence) (c : Change) : Type 0 where
  pub bases : (a : Base) → Contains e.bases a → owner w.tree a.inc c.scn ≡ c.inc → a.checkpoint ≤ c.scn
  pub level1s : (a : Level1) → Contains e.level1s a → owner w.tree a.inc c.scn ≡ c.inc → a.checkpoint ≤ c.scn
  pub logs : (a : Log) → Holds e c.inc c.scn a → ¬ (a.thread ≡ c.thread)
