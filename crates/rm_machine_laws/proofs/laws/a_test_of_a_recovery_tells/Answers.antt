use Rattle.rm_machine_laws.proofs.{Leading.{tells}, Recovered.{test-tells}}
use Rattle.rm_machine_laws.proofs.laws.a_test_of_a_recovery_tells.Goals as goal
use Rattle.rm_lang_statement.specs.declared.command.Command.TheVariants.{RecoverTest}

pub returns : goal.returns
returns c until inc = tells (RecoverTest until inc) (test-tells until inc)
