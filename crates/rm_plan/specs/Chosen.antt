-- What a planner answers of some blocks of one datafile.
use Rattle.std.specs.Prelude.{ℕ, List, map}
use Rattle.rm_base.specs.declared.block.{BlockId.{BlockId}, Part.{Part}, Row.{Row}}
use Rattle.rm_history.specs.{Evidence.{Evidence}, declared.world.World.{World}}
use Rattle.rm_plan.specs.{Blocks.{AreToldRows, NamesFirstOf}, declared.plan.PlanFault.{PlanFault}}
use Rattle.rm_plan.specs.declared.plan.PlanFault.TheVariants as fault

-- block b of datafile f
abbrev pub id_of : ℕ → ℕ → BlockId
id_of f b = record { file = f; block = b }

-- the part as a row
abbrev pub row_of : Part → Row
row_of p = record { block = p.block; version = p.version; content = p.content }

-- one part for each of these blocks of the file, in their order
abbrev pub AreToldParts : World → Evidence → ℕ → ℕ → ℕ → List ℕ → List Part → Type 0
AreToldParts w e i s f bs parts = AreToldRows w e i s (map (id_of f) bs) (map row_of parts)

-- where the fault is a gap, it is that of the first of the blocks that is not determined
abbrev pub IsFaultOf : World → Evidence → ℕ → ℕ → List BlockId → PlanFault → Type 0
IsFaultOf w e i s xs (fault.Gap x) = NamesFirstOf w e i s xs x
IsFaultOf w e i s xs fault.NoMemory = Unit {0}
