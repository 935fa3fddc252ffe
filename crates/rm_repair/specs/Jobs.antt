-- The rows that mend blocks.
use Rattle.std.specs.{Prelude.{◌≡◌, ◌==◌, ℕ, List, Contains, map}, List.{prefix_len}}
use Rattle.rm_base.specs.{BlockOrder.{IsBefore}, declared.block.{BlockId.{BlockId}, Part.{Part}}}
use Rattle.rm_history.specs.{Evidence.{Evidence}, FirstGap.{IsDetermined}, declared.world.World.{World}}
use Rattle.rm_plan.specs.{Blocks.{AreToldRows}, Chosen.{row_of}, declared.plan.PlanFault.{PlanFault}}
use Rattle.rm_plan.specs.declared.plan.PlanFault.TheVariants as fault
use Rattle.rm_repair.specs.declared.jobs.MendJob.{MendJob}

-- how many of the first blocks are of datafile f
abbrev pub run_length : ℕ → List BlockId → ℕ
run_length f xs = prefix_len (λ x. x.file == f) xs

-- the part of datafile f as a job
abbrev pub job_of : ℕ → Part → MendJob
job_of f p = record { file = f; row = row_of p }

-- one job for each of the blocks, in their order, with its row as it is told
pub record AreMendJobs (w : World) (e : Evidence) (i s : ℕ) (xs : List BlockId) (jobs : List MendJob) : Type 0 where
  pub files : map (λ j. j.file) jobs ≡ map (λ x. x.file) xs
  pub rows : AreToldRows w e i s xs (map (λ j. j.row) jobs)

-- where the fault is a gap, each of the blocks before its own is determined
abbrev pub IsLeastFault : World → Evidence → ℕ → ℕ → List BlockId → PlanFault → Type 0
IsLeastFault w e i s xs (fault.Gap x) = (y : BlockId) → Contains xs y → IsBefore y.file y.block x.file x.block → IsDetermined w e i s y.file y.block
IsLeastFault w e i s xs fault.NoMemory = Unit {0}
