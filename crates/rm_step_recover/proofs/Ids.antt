-- What the state does not refuse has the ids of a save left.
use Rattle.std.proofs.Common.{◌≡◌, false, Option, None, ℕ}
use Rattle.rm_lang_statement.specs.declared.command.Until.{Until}
use Rattle.rm_machine.specs.{Marks.{lacks_ids}, Recover.{recover_refusal}, Restore.{restore_refusal}, declared.state.State.{State}}
use Rattle.rm_machine.proofs.Asking.{recover-asks, restore-asks}

pub recover_ids : (s : State) (until : Option Until) → recover_refusal s until ≡ None → lacks_ids s 0 ≡ false
recover_ids s until accepted = recover-asks until s accepted

pub restore_ids : (s : State) (file : Option ℕ) (until : Option Until) → restore_refusal s file until ≡ None → lacks_ids s 0 ≡ false
restore_ids s file until accepted = restore-asks file until s accepted
