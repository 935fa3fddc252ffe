-- What is told of a datafile before it is applied, and the datafile that it makes.
use Rattle.std.specs.{Prelude.{ℕ, ◌≡◌, ◌++◌, List, All, Result, IfOk, IfErr, Some, length, map, slice_get}, List.{AllZip}}
use Rattle.rm_blocks.specs.File.{File, IsInOrder}
use Rattle.rm_channel.specs.Applied.{row_of}
use Rattle.rm_history.specs.{World.{blocks_of}, Evidence.{Evidence}, declared.world.World.{World}}
use Rattle.rm_plan.specs.{Plan.{AreParts, IsFileFault, IsFileTarget}, declared.plan.PlanFault.{PlanFault}}
use Rattle.rm_apply.specs.{Files.{AreExactly}, declared.{plans.Plan.{Plan}, targets.TargetFile.{TargetFile}}}

-- part k is of block k, and there is a row for each part
pub record IsReady (p : Plan) : Type 0 where
  pub rows : length p.rows.items ≡ length p.parts
  pub order : IsInOrder (map row_of p.parts)

-- the plan is ready, and has what the evidence tells of each block of its datafile
pub record IsPlanned (w : World) (e : Evidence) (i s : ℕ) (p : Plan) : Type 0 where
  pub ready : IsReady p
  pub parts : AreParts w e i s p.number (blocks_of w p.number) p.parts

-- one plan for each of these datafiles, in order
pub record ArePlanned (w : World) (e : Evidence) (i s : ℕ) (ns : List ℕ) (plans : List Plan) : Type 0 where
  pub numbers : map (λ p. p.number) plans ≡ ns
  pub each : All (IsPlanned w e i s) plans

-- what planning datafile n comes to: its plan, or the fault of its least block that is not told
pub record IsTried (w : World) (e : Evidence) (i s n : ℕ) (r : Result Plan PlanFault) : Type 0 where
  pub number : IfOk r (λ p. p.number ≡ n)
  pub planned : IfOk r (IsPlanned w e i s)
  pub gap : IfErr r (IsFileFault w e i s n)

-- of the datafile at place k
abbrev pub TriedAt : World → Evidence → ℕ → ℕ → List TargetFile → ℕ → Result Plan PlanFault → Type 0
TriedAt w e i s ts k r = (t : TargetFile) → slice_get ts k ≡ Some t → IsTried w e i s t.number r

-- of each of these, in order
abbrev pub AreTried : World → Evidence → ℕ → ℕ → List ℕ → List (Result Plan PlanFault) → Type 0
AreTried w e i s ns rs = AllZip (IsTried w e i s) ns rs

-- with more behind them, these are exactly the datafiles that exist at (i, s)
abbrev pub AreFirst : World → ℕ → ℕ → List ℕ → Type 0
AreFirst w i s ns = (rest : List ℕ) × AreExactly (IsFileTarget w i s) (ns ++ rest)

-- the datafile at (i, s) that the plan makes
abbrev pub applied : ℕ → ℕ → Plan → File
applied i s p = record { file = p.number; inc = i; checkpoint = s; rows = map row_of p.parts }
