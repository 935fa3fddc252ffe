-- What the evidence tells of a target: all of its datafiles, or the first gap.
use Rattle.std.specs.Prelude.{ℕ, ◌≡◌, Option, Some, None, List, All, length, map, slice_get}
use Rattle.rm_base.specs.declared.block.Row.{Row}
use Rattle.rm_blocks.specs.File.{File}
use Rattle.rm_history.specs.{World.{blocks_of}, Evidence.{Evidence}, FirstGap.{IsFirstGap, IsRecoverable}, Known.{Determined}}
use Rattle.rm_history.specs.{Unknown.{IsUnknown}, declared.world.World.{World}}
use Rattle.rm_plan.specs.{Plan.{IsFileTarget}, declared.plan.{Gap.{Gap}, PlanFault.{PlanFault}}}
use Rattle.rm_plan.specs.declared.plan.PlanFault.TheVariants as planned
use Rattle.rm_apply.specs.Files.{AreExactly}

-- x is datafile f at (i, s): each block has the version and the content that the evidence determines
pub record IsTold (w : World) (e : Evidence) (i s f : ℕ) (x : File) : Type 0 where
  pub file : x.file ≡ f
  pub inc : x.inc ≡ i
  pub checkpoint : x.checkpoint ≡ s
  pub blocks : length x.rows ≡ blocks_of w f
  pub rows : (b : ℕ) (r : Row) → slice_get x.rows b ≡ Some r → (r.block ≡ b) × Determined w e i s f b r.version r.content

-- exactly the datafiles that exist at (i, s), ascending by number, each as it is told
pub record AreFilesAt (w : World) (e : Evidence) (i s : ℕ) (files : List File) : Type 0 where
  pub numbers : AreExactly (IsFileTarget w i s) (map (λ x. x.file) files)
  pub each : All (λ x. IsTold w e i s x.file x) files

-- the gap is the first of all datafiles, and behind it stand two histories
pub record IsGapOfAll (w : World) (e : Evidence) (i s : ℕ) (x : Gap) : Type 0 where
  pub first : IsFirstGap w e i s x.file x.block x.inc x.scn
  pub unknown : IsUnknown w e i s x.file x.block x.inc x.scn

-- where the fault is a gap, it is the first of all datafiles
abbrev pub IsFaultOfAll : World → Evidence → ℕ → ℕ → PlanFault → Type 0
IsFaultOfAll w e i s (planned.Gap x) = IsGapOfAll w e i s x
IsFaultOfAll w e i s planned.NoMemory = Unit {0}

-- the first gap, or none where each block is determined
abbrev pub IsGapOrNone : World → Evidence → ℕ → ℕ → Option Gap → Type 0
IsGapOrNone w e i s None = IsRecoverable w e i s
IsGapOrNone w e i s (Some x) = IsGapOfAll w e i s x
