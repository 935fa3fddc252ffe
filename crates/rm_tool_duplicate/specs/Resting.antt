-- A duplicate at rest, before the first session over it.
use Rattle.std.specs.Prelude.{ℕ, ◌≡◌, Some, List, [], length, map}
use Rattle.rm_base.specs.declared.block.Change.{Change}
use Rattle.rm_catalog_typed.specs.{TypedCatalog.{TypedCatalog}, Worlds.{world_of}}
use Rattle.rm_dup.specs.{Copies.{made_of}, declared.database.Duplicate.{Duplicate}}
use Rattle.rm_history.specs.declared.world.World.{World}
use Rattle.rm_machine.specs.Rest.{Rest}

-- HOST gave no name of it, its datafiles are as many as were duplicated, and its history made of them, at the target, what history h made
-- of those that they were.
pub record IsTrueCopy (w : World) (h : List Change) (i s : ℕ) (d : Duplicate) (r : Rest) : Type 0 where
  pub catalog : TypedCatalog
  pub is : r.catalog ≡ Some catalog
  pub untouched : r.touched ≡ []
  pub many : length catalog.ledger.files ≡ length d.from
  pub blocks : made_of (world_of catalog.ledger) r.history 1 s (map (λ a. a.file) d.pieces) ≡ made_of w h i s d.from
