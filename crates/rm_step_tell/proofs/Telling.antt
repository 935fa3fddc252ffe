-- What tells of the state only tells.
use Rattle.std.proofs.Common.{◌≡◌, true, ap}
use Rattle.rm_lang_statement.specs.declared.command.Command.{Command}
use Rattle.rm_machine.specs.{Laws.{only_tells}, Nature.{nature_of, tells}, declared.nature.Nature.TheVariants.{TellsState}}

pub state_tells : (c : Command) → nature_of c ≡ TellsState → only_tells c ≡ true
state_tells c nature = ap tells nature
