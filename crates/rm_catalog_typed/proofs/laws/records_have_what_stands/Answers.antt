use Rattle.std.proofs.Common.{refl}
use Rattle.rm_catalog_typed.proofs.Members.{log-has, log-in, piece-has, piece-in, set-has, set-in}
use Rattle.rm_catalog_typed.proofs.laws.records_have_what_stands.Goals as goal

pub returns-clause-base : goal.returns-clause-base
returns-clause-base c r = refl

pub returns-clause-logs : goal.returns-clause-logs
returns-clause-logs c r e is = (log-in r e is, log-has r e)

pub returns-clause-pieces : goal.returns-clause-pieces
returns-clause-pieces c r e is = (piece-in r e is, piece-has r e)

pub returns-clause-sets : goal.returns-clause-sets
returns-clause-sets c r e is = (set-in r e is, set-has r e)
