-- Where the backups of datafiles begin.
use Rattle.std.proofs.{Common.{◌≡◌, ◌∙◌, ℕ, List, Option, Some, None, Bool, true, false, cond}, lemmas.List.Elements.{All-contains}}
use Rattle.rm_catalog_typed.specs.TypedCatalog.{records_of}
use Rattle.rm_lang_statement.specs.declared.command.BackupForm.{BackupForm}
use Rattle.rm_machine.specs.{Backup.{AreJobs, BeginsAt, HasParent, is_level1, taken}, declared.{job.Job.{Job}, state.State.{State}}}
use Rattle.rm_step_backup.specs.Begins.{AreJobsBy, BeginsBy, records_for}

-- by the records of the state a backup begins where it is to
begins-at : (s : State) (b : BackupForm) (f : ℕ) (from : Option ℕ) → BeginsBy (records_for s b) b f from → BeginsAt s b f from
begins-at s b f from is = by (is_level1 b) is
  where
    by : (t : Bool) → BeginsBy (cond t (Some (records_of s.catalog)) None) b f from → cond t (HasParent s b f from) (from ≡ None)
    by true has = record { parent = has.0; is = has.1; begins = has.2 }
    by false none = none

-- and so does each
pub are-jobs : (s : State) (b : BackupForm) (fs : List ℕ) (js : List Job) → fs ≡ taken s b → AreJobsBy (records_for s b) b fs js → AreJobs s b js
are-jobs s b fs js files by = record {
  files = by.are ∙ files;
  begin = λ j has. begins-at s b j.file j.from (All-contains (λ (k : Job). BeginsBy (records_for s b) b k.file k.from) js j by.begin has);
}
