-- What is at hand tells of blocks.
use Rattle.std.specs.Prelude.{◌≡◌, Option, IfSome, List}
use Rattle.rm_base.specs.{Store.{Held}, declared.{block.BlockId.{BlockId}, refusal.Refusal.{Refusal, TheVariants.{Rm08}}}}
use Rattle.rm_evidence.specs.{Known.{FitsTree, known_of}, declared.evidence.Evidence.{Evidence}}
use Rattle.rm_history.specs.FirstGap.{IsTarget}
use Rattle.rm_plan.specs.{Blocks.{NamesFirstOf}, declared.plan.Gap.{Gap}}
use Rattle.rm_repair.specs.{Jobs.{AreMendJobs}, declared.jobs.MendJob.{MendJob}}
use Rattle.rm_report.specs.declared.line.Line.{Line}
use Rattle.rm_report.specs.declared.line.Line.TheVariants as line
use Rattle.rm_machine.specs.{Recovery.{IsAtHand}, State.{current_of, now_of, tree, world}, declared.state.State.{State}}
use Rattle.rm_step_repair.specs.declared.telling.Told.{Told}

-- it is a block of a datafile that exists at `now`
abbrev pub IsTargetNow : State → BlockId → Type 0
IsTargetNow s x = IsTarget (world s) (current_of s) (now_of s) x.file x.block

-- Each of these blocks is told at `now` by what is at hand. Whatever the store tells, each artefact is valid.
pub record IsTold (held : Option Held) (s : State) (xs : List BlockId) (t : Told) : Type 0 where
  pub evidence : Evidence
  pub at_hand : IfSome held (λ h. IsAtHand s h evidence)
  pub fits : FitsTree (tree s) evidence
  pub are : AreMendJobs (world s) (known_of evidence) (current_of s) (now_of s) xs t.jobs.items
  pub misses : t.skipped ≡ evidence.skipped

-- what is at hand leaves a gap, and the refusal names that of the first of these blocks that is not told
pub record NamesGap (held : Option Held) (s : State) (xs : List BlockId) (r : Refusal) : Type 0 where
  pub evidence : Evidence
  pub at_hand : IfSome held (λ h. IsAtHand s h evidence)
  pub gap : Gap
  pub first : NamesFirstOf (world s) (known_of evidence) (current_of s) (now_of s) xs gap
  pub names : r ≡ Rm08 gap.file gap.block gap.scn gap.inc

-- the line of a block that is mended
abbrev pub mended_line : MendJob → Line
mended_line j = line.Mended j.file j.row.block j.row.version
