-- What is known of a mishap of an object by its nature.
use Rattle.std.proofs.Common.{◌≡◌, false, None, ap}
use Rattle.rm_lang_statement.specs.declared.command.Command.{Command}
use Rattle.rm_machine.specs.{Laws.{only_tells}, Marks.{lacks_ids}, Nature.{nature_of, tells}, Step.{refusal_of}}
use Rattle.rm_machine.specs.declared.{nature.Nature.TheVariants.{Mishap}, state.State.{State}}
use Rattle.rm_machine.proofs.Asking.{mishap-asks}

-- it does more than tell
pub mishap_does : (c : Command) → nature_of c ≡ Mishap → only_tells c ≡ false
mishap_does c mishap = ap tells mishap

-- one that the state does not refuse has the ids of a save left
pub mishap_ids : (c : Command) (s : State) → nature_of c ≡ Mishap → refusal_of s c ≡ None → lacks_ids s 0 ≡ false
mishap_ids c s nature accepted = mishap-asks c s nature accepted
