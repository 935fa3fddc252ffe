-- What an increment for a standby is made of, by any form of backup.
use Rattle.std.specs.Prelude.{ℕ, ◌<◌, Some, List, All, map}
use Rattle.rm_lang_statement.specs.declared.command.BackupForm.{BackupForm}
use Rattle.rm_machine.specs.{Roll.{standing_member}, declared.{job.Job.{Job}, state.State.{State}}}
use Rattle.rm_piece.specs.Valid.{IsPiece}

-- an increment of each of these datafiles, from an SCN on
abbrev pub jobs_of : ℕ → List ℕ → List Job
jobs_of from files = map (λ f. record { file = f; from = Some from }) files

-- the members of these datafiles can be made
pub record CanStand (s : State) (b : BackupForm) (from : ℕ) (files : List ℕ) : Type 0 where
  pub some : All (λ f. 0 < f) files
  pub valid : All (λ f. IsPiece (standing_member s b from f).piece) files
