-- The copies that a BACKUP asks for.
use Rattle.std.specs.Prelude.{ℕ, ◌≡◌, ◌≤◌, ◌<◌, Some, List, All, map}
use Rattle.rm_blocks.specs.File.{File}
use Rattle.rm_channel.specs.{Jobs.{whole}, Room.{IsThere}, declared.jobs.CopyJob.{CopyJob}}
use Rattle.rm_machine.specs.{Asked.{span_of}, Events.{opening}, State.{placed}, declared.{job.Job.{Job}, state.State.{State}}}
use Rattle.rm_track.specs.Bitmaps.{Tracked, tracked_at}

-- the datafile of this number stands in place
pub record Stands (s : State) (f : ℕ) : Type 0 where
  pub some : 0 < f
  pub file : File
  pub is : placed s f ≡ Some file

-- the copy is of the blocks that are read of the datafile, which is there
pub record IsCopyOf (s : State) (j : Job) (c : CopyJob) : Type 0 where
  pub span : whole c ≡ span_of s j
  pub there : IsThere (opening s).files c

-- so is each
pub record AreCopiesOf (s : State) (js : List Job) (cs : List CopyJob) : Type 0 where
  pub spans : map whole cs ≡ map (span_of s) js
  pub there : All (IsThere (opening s).files) cs

-- the current bitmap of each datafile starts at or below the checkpoint
abbrev pub StartBelow : ℕ → List Tracked → Type 0
StartBelow checkpoint ts = (f : ℕ) (t : Tracked) → tracked_at ts f ≡ Some t → t.start ≤ checkpoint
