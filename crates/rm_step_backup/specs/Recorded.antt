-- What a BACKUP's recording comes to.
use Rattle.std.specs.Prelude.{ℕ, ◌≡◌, ◌++◌, List}
use Rattle.rm_catalog.specs.declared.record.Edit.{Edit}
use Rattle.rm_catalog_typed.specs.Changes.{EditsFollow}
use Rattle.rm_lang_statement.specs.declared.command.BackupForm.{BackupForm}
use Rattle.rm_machine.specs.{MadeObjects.{Packed, after_objects, object_lines, objects_put}, declared.handed.Handed.{Handed}}
use Rattle.rm_machine.specs.declared.state.State.{State}

-- from the state s on these objects are recorded: the state is t, and what is handed out has their lines and objects
pub record HasRecorded (s : State) (b : BackupForm) (tag : List ℕ) (xs : List Packed) (before after : List Edit) (old new : Handed) (t : State) : Type 0 where
  pub state : t ≡ after_objects s b tag xs
  pub edits : EditsFollow before after s.catalog t.catalog
  pub lines : new.lines ≡ old.lines ++ object_lines s b tag xs
  pub objects : new.objects ≡ old.objects ++ objects_put s b tag xs
  pub removes : new.removes ≡ old.removes
