-- What a planner answers of some blocks.
use Rattle.std.specs.{Prelude.{ℕ, ◌≡◌, List, ◌∷◌, ◌++◌, All}, List.{AllZip}}
use Rattle.rm_base.specs.declared.block.{BlockId.{BlockId}, Row.{Row}}
use Rattle.rm_history.specs.{Evidence.{Evidence}, FirstGap.{IsDetermined}, declared.world.World.{World}}
use Rattle.rm_plan.specs.{Plan.{NamesGap, Tells}, declared.plan.Gap.{Gap}}

-- the row is that of the block, as it is told
pub record IsToldRow (w : World) (e : Evidence) (i s : ℕ) (x : BlockId) (r : Row) : Type 0 where
  pub block : r.block ≡ x.block
  pub tells : Tells w e i s x.file x.block (record { version = r.version; content = r.content })

-- one row for each of the blocks, in their order
abbrev pub AreToldRows : World → Evidence → ℕ → ℕ → List BlockId → List Row → Type 0
AreToldRows w e i s xs rows = AllZip (IsToldRow w e i s) xs rows

-- the gap is that of the first of the blocks that is not determined
pub record NamesFirstOf (w : World) (e : Evidence) (i s : ℕ) (xs : List BlockId) (gap : Gap) : Type 0 where
  pub told : List BlockId
  pub block : BlockId
  pub rest : List BlockId
  pub is : xs ≡ told ++ block ∷ rest
  pub determined : All (λ x. IsDetermined w e i s x.file x.block) told
  pub names : NamesGap w e i s block.file block.block gap
