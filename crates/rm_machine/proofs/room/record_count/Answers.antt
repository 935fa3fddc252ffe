use Rattle.std.proofs.Common.{arith}
use Rattle.rm_machine.specs.State.{ledger}
use Rattle.rm_machine.proofs.room.record_count.Goals as goal
use Rattle.rm_catalog_typed.proofs.Fitted.{many}

pub returns-clause-value : goal.returns-clause-value
returns-clause-value c = grind (arith, many (ledger c.args.state.now))

pub returns-clause-most : goal.returns-clause-most
returns-clause-most c =
    grind (arith, many (ledger c.args.state.now), c.requires.catalog.ledger.few)
