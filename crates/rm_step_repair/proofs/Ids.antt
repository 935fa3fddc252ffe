-- What the state does not refuse has the ids of a save left.
use Rattle.std.proofs.Common.{◌≡◌, false, None}
use Rattle.rm_lang_statement.specs.declared.command.RepairForm.{RepairForm}
use Rattle.rm_machine.specs.{BlockRecoverRefusal.{repair_refusal}, Marks.{lacks_ids}, declared.state.State.{State}}
use Rattle.rm_machine.proofs.Asking.{repair-asks}

pub repair_ids : (s : State) (form : RepairForm) → repair_refusal s form ≡ None → lacks_ids s 0 ≡ false
repair_ids s form accepted = repair-asks form s accepted
