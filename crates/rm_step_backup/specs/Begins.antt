-- Where the backup of a datafile begins, by records or by none.
use Rattle.std.specs.{Prelude.{ℕ, ◌≡◌, if◌then◌else◌, Option, Some, None, List, All, map}, Option.{option_map}}
use Rattle.rm_backup.specs.Parents.{IsParent}
use Rattle.rm_catalog.specs.declared.record.Record.{Record}
use Rattle.rm_machine.specs.{Backup.{is_level1}, declared.{job.Job.{Job}, state.State.{State}}}
use Rattle.rm_catalog_typed.specs.TypedCatalog.{records_of}
use Rattle.rm_lang_statement.specs.declared.command.BackupForm.{BackupForm}

-- the records by which a parent is chosen: none where no level 1 is asked for
abbrev pub records_for : State → BackupForm → Option (List Record)
records_for s b = if is_level1 b then Some (records_of s.catalog) else None

-- by records it begins at the checkpoint of the parent among them, if there is one; by none it has all blocks
abbrev pub BeginsBy : Option (List Record) → BackupForm → ℕ → Option ℕ → Type 0
BeginsBy None b f from = from ≡ None
BeginsBy (Some rs) b f from = (parent : Option (ℕ × ℕ)) × IsParent rs f b.cumulative b.merge_tag parent × (from ≡ option_map (λ p. p.1) parent)

-- what is made of these datafiles, by records or by none
pub record AreJobsBy (records : Option (List Record)) (b : BackupForm) (files : List ℕ) (jobs : List Job) : Type 0 where
  pub are : map (λ j. j.file) jobs ≡ files
  pub begin : All (λ j. BeginsBy records b j.file j.from) jobs
